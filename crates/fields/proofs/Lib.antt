mod Stripped
pub mod Tagging

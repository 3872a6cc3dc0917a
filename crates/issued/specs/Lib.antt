pub mod Published
pub mod Meant
pub mod Lawful
pub mod Widths

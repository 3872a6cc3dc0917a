pub mod Hello
pub mod Spellings

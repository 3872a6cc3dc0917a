pub mod Compounds
pub mod Kinds
pub mod Naming
pub mod Options

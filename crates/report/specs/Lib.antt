pub mod Listings
pub mod Entries
pub mod Halts

pub mod Finding
pub mod Reading
pub mod Listing
pub mod Spans
pub mod Which
pub mod Going
pub mod Parts

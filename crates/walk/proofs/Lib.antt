pub mod Heading
pub mod Joining
pub mod Recording

pub mod FineAngles
pub mod Locations
pub mod Places
pub mod Sides
pub mod SignedPoints

pub mod Letters
pub mod Missions
pub mod Projects
pub mod Replays
pub mod Sensors
pub mod Turns
pub mod Units
pub mod Versions

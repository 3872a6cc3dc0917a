pub mod Fair
pub mod Sensors
pub mod Readings
pub mod Cells
pub mod Slots

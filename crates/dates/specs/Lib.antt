pub mod CalendarDates
pub mod Dates
pub mod Days
pub mod Kept
pub mod Minutes
pub mod Moments

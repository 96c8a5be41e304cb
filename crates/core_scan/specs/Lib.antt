pub mod Ranges
pub mod Visible
pub mod Readings
pub mod Answered
pub mod Backward

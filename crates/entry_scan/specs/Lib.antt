pub mod Ranges
pub mod Visible
pub mod Readings
pub mod Backward

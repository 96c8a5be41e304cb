pub mod Openings
pub mod Gathered
pub mod Written
pub mod Closing

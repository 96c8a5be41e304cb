pub mod Seats
pub mod Changed
pub mod Served
pub mod AtOnce
pub mod Openings
pub mod Waits
pub mod Scans

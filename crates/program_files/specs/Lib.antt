pub mod Copied
pub mod Granted
pub mod Refusals
pub mod Stored
pub mod Lengths
pub mod Openings

mod Again
pub mod Counts
pub mod Moments
pub mod Record
pub mod Sectors
mod Tear
pub mod Within
pub mod KnownSectors

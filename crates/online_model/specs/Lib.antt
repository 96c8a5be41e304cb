pub mod World
pub mod Keeping
pub mod Logs
pub mod Example

pub mod Disk
pub mod Session
pub mod Runs
pub mod Plays
pub mod Inputs

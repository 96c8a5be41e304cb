pub mod Runs
pub mod Steps
pub mod Ordered
mod Slotted

mod Groups
mod Areas
mod Runs
mod Slots
pub mod Readings
mod Decided

mod Slots
mod Inside
mod Room
mod Refusals
pub mod Readings
mod Filled
mod Records

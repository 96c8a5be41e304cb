pub mod Run
pub mod Partly
pub mod Places
pub mod Slots

pub mod Kept
pub mod Private
pub mod Refusals

-- Lemmas on the parts of a core, for this crate and `nsf_core`.
pub mod Moved
pub mod Pairs
mod Places
mod Newest
pub mod Due
mod Started
pub mod Inserting
pub mod Changing
pub mod Leaving
pub mod Next
pub mod Building
pub mod Cleaning
pub mod KeptLive
pub mod Walked
pub mod Finding
mod Stepped
mod Marking
pub mod Undoing
pub mod Checking
mod Ordered

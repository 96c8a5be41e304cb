mod Actions
mod Counted
mod LiveRuns
mod Places
mod Listing
pub mod LivePlaces

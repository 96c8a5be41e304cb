mod Values
mod Fields
mod Spots
mod Opened
mod Saved
mod Reasons

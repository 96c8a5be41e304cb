mod Lists
mod Maps
mod Cut
mod Places
mod Zeros
mod OneImage
mod Sound
mod Growing
pub mod Bytes
mod Refusing
mod Heads
pub mod Told
mod Walk
mod Joined
mod Kept
mod Writing
pub mod Written
pub mod Readings
mod Fitting
pub mod PartByPart

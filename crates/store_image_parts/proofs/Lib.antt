mod Bytes
mod Zeros
mod Again
mod Takes
pub mod OneReading

pub mod Spellings
pub mod Numbers
pub mod Steps
pub mod Fields
mod Records
mod Sizes
mod Lengths
mod Kept
pub mod Wide

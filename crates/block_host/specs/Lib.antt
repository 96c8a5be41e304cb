pub mod FileBlocks
pub mod Fits
pub mod Kinds
pub mod Opened

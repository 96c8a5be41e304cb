mod Values
mod Fields
mod Flags
mod Filling
mod Applied
mod Frames

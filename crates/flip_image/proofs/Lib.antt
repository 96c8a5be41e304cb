mod ZeroRows
mod Spelled
mod Formats
mod Nothing
mod Wider
mod Results
pub mod Stores
pub mod Sides

pub mod Keeping
pub mod Openings
pub mod Publications
pub mod Taking
mod Notes
mod Pieces
pub mod Going

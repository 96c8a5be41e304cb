pub mod Pages
pub mod Value
pub mod Standing
pub mod Builds
pub mod Pieces

pub mod Salvage
pub mod Copied

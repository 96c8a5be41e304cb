pub mod Arguments
pub mod Texts
pub mod Steps

pub mod Layout
pub mod Store
pub mod Steps

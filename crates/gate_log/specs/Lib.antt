pub mod Group
pub mod Area
pub mod Steps

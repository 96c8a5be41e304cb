pub mod Keys
pub mod Steps

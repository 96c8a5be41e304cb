pub mod Rule
pub mod Steps
pub mod Views

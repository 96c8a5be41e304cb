pub mod Exported
pub mod Headers
pub mod Loaded
pub mod Objects
pub mod Reading
pub mod Rows

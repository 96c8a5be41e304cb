pub mod Tree
pub mod Order
pub mod Seen
pub mod Falls
pub mod Balance
pub mod Rows
pub mod Place
pub mod Descents

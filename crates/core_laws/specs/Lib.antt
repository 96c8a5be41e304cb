pub mod Calls
pub mod Openings
pub mod Holds
pub mod Granted
pub mod Alike
pub mod Further

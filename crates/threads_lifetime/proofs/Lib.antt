mod Again
mod Opened
mod Turned
mod Engines
mod Lists
mod Gathering
mod Going
mod Taking
mod Pieces
mod Tables
mod Ending
pub mod Orders
mod Refusals

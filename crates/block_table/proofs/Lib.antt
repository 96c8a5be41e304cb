pub mod Contents
mod Errors
mod Seen
mod Table

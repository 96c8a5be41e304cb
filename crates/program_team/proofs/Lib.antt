mod Keeping
mod Leaving
mod Orders
mod Surviving

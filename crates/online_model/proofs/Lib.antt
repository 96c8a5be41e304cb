mod Orders
mod Keeps
mod Logs
mod Copies
mod Example

mod Rows
mod Moves
mod Steps

mod Reverted
mod Marks
mod Entered
mod Held
mod Told
mod Places

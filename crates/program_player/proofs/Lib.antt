mod Made
mod Started
mod Kept
mod Texts

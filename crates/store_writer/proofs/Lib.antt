mod OnePage
mod Numbers
mod Left
mod Listed
mod Halves
mod Knowing
mod Underway
mod Writing
mod CarryOn
pub mod Around
mod Logs
mod Idle
pub mod Alone
mod Taking
mod Stepwise
mod KnownPages
mod Flipping
mod Replies
mod Flushing
mod Places
mod Pieces
mod Opening
mod Given
mod Carrying
mod Waits

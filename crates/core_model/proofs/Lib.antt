mod Orders
mod Latest
mod Frames
mod Cells
mod Txns
mod Builds
mod Sums
mod Places
mod Insides
mod Pledged
mod Fits
mod Runs
mod Attempts
mod Histories
mod Undone
mod Restarts
mod Records
mod Logs
mod Followed
mod Copies
pub mod Laws
mod Example
mod Replies
mod Served
mod Worked
mod Pinned
pub mod ReplyLaws

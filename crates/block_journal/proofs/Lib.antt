pub mod Before
mod Buffers
mod Closing
mod Committing
pub mod Crash
mod Entries
mod Honest
pub mod Keeping
mod Loading
mod Next
pub mod OnlyReading
mod Opening
pub mod Parting
pub mod Placing
mod Recovering
pub mod Results
pub mod WritingBack

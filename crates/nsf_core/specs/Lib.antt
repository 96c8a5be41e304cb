pub mod Value
pub mod Loading
pub mod Outbox
pub mod Steps
pub mod Opening
pub mod Counts

pub mod Batch
pub mod Head
pub mod Replay

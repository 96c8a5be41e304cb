mod Heads
pub mod Larger
pub mod Replay
mod Sealing
pub mod Torn

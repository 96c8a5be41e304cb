pub mod BackRuns
pub mod Blocks
pub mod BlocksPast
pub mod Crash
pub mod MemBlocks
pub mod Words

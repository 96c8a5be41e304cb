pub mod Rounds
mod Moments
mod Steps
pub mod Through
pub mod Running
pub mod Crosses
mod Passing
pub use Rattle.threads_flusher.proofs.Taking

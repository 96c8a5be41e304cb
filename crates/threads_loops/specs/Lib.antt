pub mod Copying
pub mod Building
pub mod Through
pub mod Telling
pub use Rattle.shared.specs.Seats
pub use Rattle.shared.specs.Waits
pub use Rattle.threads_flusher.specs.Going
pub use Rattle.threads_flusher.specs.Part

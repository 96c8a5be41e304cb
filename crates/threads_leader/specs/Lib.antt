pub mod Led
pub use Rattle.threads_loops.specs.Building
pub use Rattle.threads_loops.specs.Telling
pub use Rattle.threads_loops.specs.Through

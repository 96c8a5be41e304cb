pub mod Shown
pub mod Lists
pub mod Pieces
pub mod Private
pub mod Loaded
pub use Rattle.nsf_core.specs.Outbox

pub mod Values
pub mod History
pub mod Active
pub mod Steps
pub mod Halves
pub mod Rule
pub use Rattle.nsf_core.specs.Outbox

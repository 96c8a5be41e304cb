pub mod Register
pub mod History
pub mod Agreement
pub mod Reading
pub use Rattle.core_laws.specs.Holds
pub use Rattle.core_laws.specs.Calls

pub mod Parts
pub mod History
pub mod Groups
pub mod Copies
pub mod Store
pub mod Handing
pub mod Parted
pub mod Lawful
pub mod Ran
pub mod Building
pub mod Reopening
pub mod Migrating
pub mod Story
pub mod Repeated
pub mod Settling
pub use Rattle.store_opener.specs.Reopening as Writing

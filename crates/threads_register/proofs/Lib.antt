mod Lookups
mod Numbers
mod Commits
mod Rows
mod Seen
mod Written
mod Told
mod Telling
mod Owned
mod Moved
mod Served
mod Steps
mod Sights
mod Reading
pub mod Laws
pub use Rattle.core_laws.proofs.Laws as CoreLaws

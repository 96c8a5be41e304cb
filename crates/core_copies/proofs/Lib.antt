mod Listed
mod Owned
mod Copied
mod Chunks
mod Listing
mod Paged
mod Fitting
mod Logged
pub mod Cited
mod Moved
mod InOrder
mod Loading
pub mod LoadedLaws
pub use Rattle.nsf_core.proofs.Offered

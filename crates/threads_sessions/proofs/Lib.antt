mod Lists
mod Shown
mod Keeps
pub use Rattle.nsf_core.proofs.Offered

-- What the crates above may cite of this one.
pub use Rattle.core_copies.proofs.Loading.{stands_for}

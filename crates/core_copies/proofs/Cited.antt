-- What the crates above may cite of this one.
pub use Rattle.core_copies.proofs.Logged.{made_shown, store_kept}
pub use Rattle.core_copies.proofs.Owned.{one_cells}

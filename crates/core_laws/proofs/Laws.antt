-- What the crates above may cite of this one.
pub use Rattle.core_laws.proofs.Holding.{holds, numbered, recovers}

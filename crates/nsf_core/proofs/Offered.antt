-- What the crates above may cite of this one.
pub use Rattle.core_parts.proofs.Due.{stands}
pub use Rattle.nsf_core.proofs.Skipping.{skips_commit, skips_delete, skips_end, skips_insert, skips_step, skips_update}

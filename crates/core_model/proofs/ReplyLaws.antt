-- What the crates above may cite of this one.
pub use Rattle.core_model.proofs.Served.{is_move, opened_standing, all_served, served_nothing, served_allowed, served_faithful, served_recovers}
pub use Rattle.core_model.proofs.Served.{served_crashed}

-- What the crates above may cite of this one.
pub use Rattle.core_model.proofs.Orders.{apart, by_test, level, update_apart, update_here}
pub use Rattle.core_model.proofs.Latest.{not_none, Gone, gone_is}
pub use Rattle.core_model.proofs.Cells.{pair_decided}
pub use Rattle.core_model.proofs.Frames.{nat_decided, rid_decided, same_some, txn_here, txn_apart}
pub use Rattle.core_model.proofs.Sums.{none_reserved, reserved_insert, reserved_left, sum_cons}
pub use Rattle.core_model.proofs.Runs.{step_keeps}
pub use Rattle.core_model.proofs.Histories.{whole, opened_fit, opened_holds, nothing_told, told_step, table_step, life_step, table_over-append}
pub use Rattle.core_model.proofs.Histories.{life_over-append, items_table, items_life, same_started, same_carried, same_undone}
pub use Rattle.core_model.proofs.Builds.{build_put_some}
pub use Rattle.core_model.proofs.Records.{step_follows, record_rows}
pub use Rattle.core_model.proofs.Logs.{deeds, faithful, interleaved, items_deeds, recovers, run_cells, same_store}
pub use Rattle.core_model.proofs.Followed.{made_nothing, made_more, made_holds, made_cells, made_recovers}
pub use Rattle.core_model.proofs.Fits.{fit_step}

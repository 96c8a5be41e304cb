use Rattle.std.proofs.Common.{is_some, sym, ap, ◌∙◌}
use Rattle.txn_table.specs.Table.{TableValue, holder_of}
use Rattle.record_values.specs.Values.{is_among}
use Rattle.txn_table.proofs.HeldRows.{among_from-Contains, Contains-from_among}
use Rattle.txn_table.proofs.table.TxnTable.held_rows.Goals as goal

pub returns : goal.returns
returns g c = λ r.
    let listed = ap (is_among r) c.as_slice.ensures ∙ c.self.invariant.held_rows r
    ∙ ap (λ (v : TableValue). is_some (holder_of r v.active)) c.self.view_is in
    (λ at. sym listed ∙ among_from-Contains r c.as_slice.result.now at, λ held. Contains-from_among r c.as_slice.result.now (listed ∙ held))

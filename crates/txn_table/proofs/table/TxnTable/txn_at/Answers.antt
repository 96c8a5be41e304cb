use Rattle.std.proofs.Common.{ℕ, option_map, slice_get, ap, ◌∙◌}
use Rattle.txn_table.specs.Table.{TableValue, TxnState}
use Rattle.txn_table.proofs.table.TxnTable.txn_at.Goals as goal

pub returns-in-Some : goal.returns-in-Some
returns-in-Some g c =
    ap (option_map (λ (e : ℕ × TxnState). e.0)) c.in-Some.ensures.entry
    ∙ ap (λ (v : TableValue). option_map (λ (e : ℕ × TxnState). e.0) (slice_get v.active c.args.index)) c.self.view_is

pub returns-in-None : goal.returns-in-None
returns-in-None g c =
    ap (option_map (λ (e : ℕ × TxnState). e.0)) c.in-None.ensures.entry
    ∙ ap (λ (v : TableValue). option_map (λ (e : ℕ × TxnState). e.0) (slice_get v.active c.args.index)) c.self.view_is

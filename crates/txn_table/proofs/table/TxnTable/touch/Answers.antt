use Rattle.std.proofs.Common.{is_some, sym, ap}
use Rattle.std.specs.Option.{option_or}
use Rattle.txn_table.specs.Table.{busy_refusal}
use Rattle.txn_table.proofs.table.TxnTable.touch.Goals as goal

pub returns-then-are_held_before : goal.returns-then-are_held_before
returns-then-are_held_before g c =
    let free = c.are_held_before.ensures.unheld c.if-are_held_before.true in
    record {
      refusal = λ i. option_or (c.in_ok-check_change.ensures i) (busy_refusal c.args.txn (sym free i));
      held = ap is_some (sym free);
    }

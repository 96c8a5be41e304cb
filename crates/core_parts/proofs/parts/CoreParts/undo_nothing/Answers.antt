use Rattle.std.proofs.Common.{ap, sym, ◌∙◌}
use Rattle.txn_table.specs.Table.{TableValue}
use Rattle.core_parts.specs.View.{CoreValue}
use Rattle.core_parts.specs.Parts.{parts_of}
use Rattle.core_parts.proofs.Undoing.{is_there, not_there, nothing_left, undo_unknown}
use Rattle.core_parts.proofs.parts.CoreParts.undo_nothing.Goals as goal

pub returns-then-not-is_active : goal.returns-then-not-is_active
returns-then-not-is_active g c = undo_unknown (parts_of c.args.self.now) c.args.txn (not_there _ (sym c.is_active.ensures ∙ c.if-not-is_active.true))

pub returns : goal.returns
returns g c =
    let v : CoreValue = parts_of c.args.self.now in
    nothing_left v c.args.txn c.requires (is_there _ (sym c.is_active.ensures ∙ c.if-not-is_active.false)) _
    (ap (λ (w : TableValue). record v { txns = w }) c.pop_undo.ensures.rest)

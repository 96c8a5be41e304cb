use Rattle.std.proofs.Common.{◌++◌, List, [], ◌∷◌, sym, ap, ◌∙◌, append_assoc, append-nil}
use Rattle.record_values.specs.Values.{Place}
use Rattle.record_values.specs.Maps.{rid_exact}
use Rattle.record_values.specs.declared.row.Row.{Row}
use Rattle.model.proofs.MapLaws.{ordered_entries}
use Rattle.model.proofs.row_map.RowMap.entries.Goals as goal

pub loop-rid-init : goal.loop-rid-init
loop-rid-init g c =
    ap (λ (es : List (Place × Row)). es ++ c.into_iter-rid-iterator.result) c.new-entries.ensures.items
    ∙ c.into_iter-rid-iterator.ensures.into_iter_gives
    ∙ c.iter-rid-items.ensures.rest
    ∙ sym (ordered_entries rid_exact c.self.inside.rows.entries c.args.self.now c.iter-rid-items.ensures.ordered c.self.view_is)

pub loop-rid-preserved : goal.loop-rid-preserved
loop-rid-preserved g c =
    ap (λ (es : List (Place × Row)). es ++ c.next.new.self) c.in_ok-push.ensures.items
    ∙ append_assoc c.loop-rid.entries.items ((c.in-Some.rid.now, c.in-Some.row.now) ∷ []) c.next.new.self
    ∙ ap (λ (es : List (Place × Row)). c.loop-rid.entries.items ++ es) (sym c.in-Some.ensures.steps)
    ∙ c.loop-rid.invariant

pub returns : goal.returns
returns g c =
    sym (ap (λ (es : List (Place × Row)). c.loop-rid.entries.items ++ es) c.in-None.ensures.steps.0 ∙ append-nil c.loop-rid.entries.items)
    ∙ c.loop-rid.invariant

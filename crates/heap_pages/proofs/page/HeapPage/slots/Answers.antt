use Rattle.std.proofs.Common.{◌<◌, List, Option, Some, None, get_or, sym, ap, subst, ◌∙◌}
use Rattle.std.proofs.lemmas.Option.{slice_get-get_or}
use Rattle.record_values.specs.declared.row.Row.{Row}
use Rattle.heap_pages.proofs.SlotLists.{slot_shown}
use Rattle.heap_pages.proofs.Open.{none_there}
use Rattle.heap_pages.proofs.page.HeapPage.slots.Goals as goal

pub returns-then-is_all-clause-none : goal.returns-then-is_all-clause-none
returns-then-is_all-clause-none c = λ none s.
    none_there c.self.inside.slots c.args.self.now c.self.view_is c.self.invariant.0 c.self.inside.open c.self.inside.open c.self.invariant.1
    (c.is_all.ensures c.if-is_all.true) s

pub returns-clause-slots : goal.returns-clause-slots
returns-clause-slots c = λ s low.
    let slots : List (Option Row) = c.self.inside.slots in
    let here = slice_get-get_or slots s None (subst (λ n. s < n) (sym c.self.invariant.0) low) in
    here ∙ ap Some (slot_shown slots c.args.self.now s (get_or slots s None) c.self.view_is here)

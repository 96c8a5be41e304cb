use Rattle.std.proofs.Common.{List, Bool, is_none, slice_set, sym, ap, ◌∙◌, arith}
use Rattle.std.proofs.lemmas.List.{length-set, map-set}
use Rattle.record_values.specs.declared.row.Row.{Row}
use Rattle.heap_pages.proofs.Open.{none_told}
use Rattle.heap_pages.proofs.SlotLists.{page_of-set}
use Rattle.heap_pages.proofs.page.HeapPage.set.Goals as goal

pub returns : goal.returns
returns c = page_of-set c.self.inside.slots c.args.self.now c.args.slot c.args.row c.self.view_is (omega (arith, c.self.invariant.0))

pub invariant_of-self : goal.invariant_of-self
invariant_of-self c = (
  length-set c.self.inside.slots c.args.slot c.args.row ∙ c.self.invariant.0,
  c.put.ensures
      ∙ ap (slice_set c.self.inside.open c.args.slot) (none_told c.is_none.result c.args.row c.is_none.ensures)
      ∙ ap (λ (l : List Bool). slice_set l c.args.slot (is_none c.args.row)) c.self.invariant.1
      ∙ sym (map-set (is_none {T = Row}) c.self.inside.slots c.args.slot c.args.row),
)

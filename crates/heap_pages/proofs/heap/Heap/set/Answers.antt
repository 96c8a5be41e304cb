use Rattle.std.proofs.Common.{◌≡◌, ◌<◌, ◌/◌, length, sym, ap, subst, arith, refl, List, Bool, not, set, length-set, is_some, ◌∙◌}
use Rattle.std.proofs.lemmas.Option.{slice_get_read}
use Rattle.std.specs.FinMap.{get, len}
use Rattle.record_values.specs.declared.rid.TheConstants.{SLOTS_PER_PAGE}
use Rattle.heap_pages.specs.Pages.{HeapValue, OthersAreFull}
use Rattle.heap_pages.proofs.Counted.{counted_after, few_rows, some_rows}
use Rattle.heap_pages.proofs.Writes.{heap_after, row_of_page}
use Rattle.heap_pages.proofs.Full.{full_after, not_false}
use Rattle.heap_pages.proofs.heap.Heap.set.Goals as goal

pub recount-self-inside-requires : goal.recount-self-inside-requires
recount-self-inside-requires g c =
    let pages = c.self.inside.pages.items in
    let n = c.rid.inside.page in
    let slots = c.index_mut-page.result.now in
    let within : n < length pages = omega (arith, ap (λ v. v.pages) c.self.view_is, ap (λ r. r.page) c.rid.view_is) in
    let page = slice_get_read pages (length pages) n slots refl within c.index_mut-page.ensures.value in
    let here = row_of_page pages c.args.self.now n c.rid.inside.slot c.args.rid slots c.self.view_is c.rid.view_is page c.rid.invariant in
    record {
      had = some_rows c.args.self.now.rows c.args.rid _ c.has_row-had_row.result (c.self.invariant.3 ∙ ap (λ (h : HeapValue). len h.rows) c.self.view_is)
          (c.has_row-had_row.ensures ∙ sym (ap is_some here));
      few = omega (arith, few_rows pages _ c.self.invariant.3, c.self.invariant.0);
    }

pub returns : goal.returns
returns g c =
    let pages = c.self.inside.pages.items in
    let n = c.rid.inside.page in
    let slots = c.index_mut-page.result.now in
    let within : n < length pages = omega (arith, ap (λ v. v.pages) c.self.view_is, ap (λ r. r.page) c.rid.view_is) in
    let page = slice_get_read pages (length pages) n slots refl within c.index_mut-page.ensures.value in
    heap_after pages c.args.self.now n c.rid.inside.slot c.args.rid slots c.set.new.self c.args.row c.self.view_is c.rid.view_is page c.rid.invariant
    c.set.ensures

pub invariant_of-self : goal.invariant_of-self
invariant_of-self g c =
    let pages = c.self.inside.pages.items in
    let sets = c.self.inside.open_pages.items in
    let n = c.rid.inside.page in
    let slots = c.index_mut-page.result.now in
    let run = c.index_mut-run.result.now in
    let within : n < length pages = omega (arith, ap (λ v. v.pages) c.self.view_is, ap (λ r. r.page) c.rid.view_is) in
    let at : n / SLOTS_PER_PAGE < length sets = omega (arith, within, c.self.invariant.1) in
    let here = slice_get_read sets (length sets) (n / SLOTS_PER_PAGE) run refl at c.index_mut-run.ensures.value in
    let page = slice_get_read pages (length pages) n slots refl within c.index_mut-page.ensures.value in
    let row = row_of_page pages c.args.self.now n c.rid.inside.slot c.args.rid slots c.self.view_is c.rid.view_is page c.rid.invariant in (
      omega (arith, length-set pages n c.set.new.self),
      omega (arith, length-set pages n c.set.new.self, length-set sets (n / SLOTS_PER_PAGE) c.put.new.self, c.self.invariant.1),
      subst (λ (r : List Bool). OthersAreFull (set sets (n / SLOTS_PER_PAGE) r) (set pages n c.set.new.self)) (sym c.put.ensures)
          (full_after sets n run (not c.is_full-is_open.result) here pages c.set.new.self
          (λ closed. c.is_full-is_open.ensures.0 (not_false c.is_full-is_open.result closed)) c.self.invariant.2),
      counted_after c.args.self.now.rows _ c.args.rid c.args.row c.self.inside.count c.recount-self-inside.result c.has_row-had_row.result
          c.is_some-has_row.result (c.self.invariant.3 ∙ ap (λ (h : HeapValue). len h.rows) c.self.view_is)
          (ap (λ (h : HeapValue). h.rows) (returns g c)) (c.has_row-had_row.ensures ∙ sym (ap is_some row)) c.is_some-has_row.ensures
          c.recount-self-inside.ensures,
    )

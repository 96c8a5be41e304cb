use Rattle.std.proofs.Common.{◌∷◌, [], length, sym, ap, subst, arith, length-append, ◌∙◌}
use Rattle.std.specs.FinMap.{len, len-empty}
use Rattle.record_values.specs.Orders.{rid_cmp}
use Rattle.record_values.specs.declared.row.Row.{Row}
use Rattle.heap_pages.specs.Pages.{HeapValue}
use Rattle.heap_pages.proofs.Empty.{AreEmpty, AreEmpty-push, empty_heap}
use Rattle.heap_pages.proofs.heap.Heap.new.Goals as goal

pub loop-preserved : goal.loop-preserved
loop-preserved g c = (
  omega (arith, ap length c.in_ok-push.ensures.items, length-append c.loop.made.items (c.new.result ∷ [])),
  subst AreEmpty (sym c.in_ok-push.ensures.items) (AreEmpty-push c.loop.made.items c.new.result c.loop.invariant.1 c.new.ensures),
)

pub returns-clause-made : goal.returns-clause-made
returns-clause-made g c = empty_heap c.loop.made.items c.args.pages (omega arith) c.loop.invariant.1

pub invariant_of-result : goal.invariant_of-result
invariant_of-result g c = (
  omega arith,
  omega (arith, c.in_ok-all_open.ensures.number),
  λ n page here closed. absurd (c.in_ok-all_open.ensures.each n closed),
  sym (ap (λ (h : HeapValue). len h.rows) (empty_heap c.loop.made.items c.args.pages (omega arith) c.loop.invariant.1) ∙ len-empty rid_cmp Row),
)

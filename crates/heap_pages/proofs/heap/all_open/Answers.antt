use Rattle.std.proofs.Common.{◌∷◌, [], length, sym, ap, subst, arith, length-append}
use Rattle.heap_pages.proofs.Sets.{AreWholeRuns, AreWholeRuns-push, all_open_of}
use Rattle.heap_pages.proofs.heap.all_open.Goals as goal

pub loop-preserved : goal.loop-preserved
loop-preserved g c = (
  omega (arith, ap length c.in_ok-push.ensures.items, length-append c.loop.sets.items (c.all.result ∷ []), c.loop.invariant.0),
  subst AreWholeRuns (sym c.in_ok-push.ensures.items) (AreWholeRuns-push c.loop.sets.items c.all.result c.loop.invariant.1 c.all.ensures),
)

pub returns-clause-each : goal.returns-clause-each
returns-clause-each g c = all_open_of c.loop.sets.items c.loop.invariant.1

use Rattle.std.proofs.Common.{Some, refl, subst}
use Rattle.std.specs.Option.{option_copied}
use Rattle.btree_node.specs.Above.{IsLeastAbove}
use Rattle.nsf_index_c.specs.Seen.{Seen}
use Rattle.nsf_index_c.proofs.Filling.{filled_more}
use Rattle.nsf_index_c.proofs.held.Held.fill.Goals as goal

pub loop-at-preserved : goal.loop-at-preserved
loop-at-preserved c = (
  refl,
  filled_more c.args.self.now.index.entries c.args.above c.loop-at.passed (option_copied c.as_ref.result) c.loop-at.at c.args.entries.now
      c.loop-at.entries c.in-Some.pair c.in-Some.mark c.told.result c.loop-at-test.true c.loop-at.invariant.1 c.as_ref.ensures.value
      (subst (λ (v : Seen). IsLeastAbove v.index.entries (option_copied c.as_ref.result) (Some (c.in-Some.pair, c.in-Some.mark)))
      c.self.view_is c.in-Some.ensures)
      c.told.ensures,
)

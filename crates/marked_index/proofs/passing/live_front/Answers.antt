use Rattle.std.proofs.Common.{Bool, ap, arith, not, sym, ◌∙◌}
use Rattle.std.proofs.lemmas.List.Sums.{prefix_len-drop_all, prefix_len-drop_no, prefix_len-drop_yes}
use Rattle.node_parts.specs.declared.Entry.{Entry}
use Rattle.marked_index.specs.Counts.{is_marked}
use Rattle.marked_index.proofs.LiveRuns.{front_live, front_marked}
use Rattle.marked_index.proofs.passing.live_front.Goals as goal

abbrev is_live : Entry → Bool
is_live e = not (is_marked e.mark)

pub loop-i-init : goal.loop-i-init
loop-i-init c = omega arith

pub loop-i-preserved : goal.loop-i-preserved
loop-i-preserved c =
    let here = ap is_live (sym c.index-run-i.is) ∙ front_live _ c.in-Live.is in
    omega (arith, prefix_len-drop_yes is_live c.args.run.now c.loop-i.i c.index-run-i.result c.loop-i-test.true here, c.loop-i.invariant)

pub returns-in-Marked : goal.returns-in-Marked
returns-in-Marked c =
    let here = ap is_live (sym c.index-run-i.is) ∙ front_marked _ c.in-Marked.is in
    record {
      number = omega (arith, prefix_len-drop_no is_live c.args.run.now c.loop-i.i c.index-run-i.result c.loop-i-test.true here, c.loop-i.invariant);
      within = omega arith;
    }

pub returns : goal.returns
returns c = record {
  number = omega (arith, prefix_len-drop_all is_live c.args.run.now c.loop-i.i c.loop-i-test.false, c.loop-i.invariant);
  within = omega arith;
}

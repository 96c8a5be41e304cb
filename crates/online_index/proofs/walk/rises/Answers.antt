use Rattle.std.proofs.Common.{arith, sym, true≢false, ◌-◌}
use Rattle.online_index.proofs.Slots.{falls_short, rises_more, slot_at, slots}
use Rattle.online_index.proofs.walk.rises.Goals as goal
use Rattle.record_values.specs.declared.pair.Pair.{Pair}
use Rattle.std.proofs.lemmas.List.{length-map}

pub returns-then-before-next : goal.returns-then-before-next
returns-then-before-next c =
    let ps = c.args.pairs.now in
    let before = slot_at ps (c.loop-i.i - 1) c.index-pairs-i.result _ (omega arith) c.before-in-loop-i.view_is in
    let next = slot_at ps c.loop-i.i c.index-pairs-i-in-loop-i.result _ (omega arith) c.next.view_is in (
      λ f. absurd (true≢false (sym f)),
      λ up. absurd (omega (
        arith,
        before,
        next,
        falls_short (slots ps) c.loop-i.i (omega arith) (omega (arith, length-map ps (λ (p : Pair). p.rid.slot))) up,
      )),
    )

pub loop-i-preserved : goal.loop-i-preserved
loop-i-preserved c =
    let ps = c.args.pairs.now in
    let before = slot_at ps (c.loop-i.i - 1) c.index-pairs-i.result _ (omega arith) c.before-in-loop-i.view_is in
    let next = slot_at ps c.loop-i.i c.index-pairs-i-in-loop-i.result _ (omega arith) c.next.view_is in
    rises_more (slots ps) c.loop-i.i c.loop-i.invariant (omega (arith, before, next))

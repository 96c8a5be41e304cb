use Rattle.std.proofs.Common.{Some, ap, arith, length, refl, ◌-◌, ◌^◌, ◌∙◌}
use Rattle.entry_scan.specs.Visible.{left_of, visible}
use Rattle.entry_scan.proofs.Counted.{all_counted, none_counted, one_counted}
use Rattle.entry_scan.proofs.Stepped.{all_left}
use Rattle.entry_scan.proofs.reading.count.Goals as goal

pub loop-entry-init : goal.loop-entry-init
loop-entry-init g c =
    let all = g.E.OrderedEntries.entries c.args.index.now in
    record {
      counted = none_counted (visible all c.args.range.now) (left_of all c.args.range.now c.start_of-last.result) (2 ^ 64 - 1)
          (c.start_of-last.ensures all ∙ all_left all c.args.range.now);
      run = tt;
    }

pub loop-entry-preserved : goal.loop-entry-preserved
loop-entry-preserved g c =
    let all = g.E.OrderedEntries.entries c.args.index.now in
    let range = c.args.range.now in
    let l = c.loop-entry in
    let pair = c.in-Some.entry.pair in
    record {
      counted = one_counted (visible all range) (left_of all range l.last) (left_of all range (Some pair)) pair
          l.count (2 ^ 64 - 1) c.saturating_add-count.result l.invariant.counted c.in-Some.ensures.next c.saturating_add-count.ensures;
      run = c.in-Some.ensures.run;
    }

pub loop-entry-smaller : goal.loop-entry-smaller
loop-entry-smaller g c = let e = ap length c.in-Some.ensures.next in omega (arith, e)

pub returns : goal.returns
returns g c =
    let all = g.E.OrderedEntries.entries c.args.index.now in
    all_counted (visible all c.args.range.now) (left_of all c.args.range.now c.loop-entry.last) c.loop-entry.count (2 ^ 64 - 1) c.loop-entry.invariant.counted
    (c.in_default.ensures.none refl)

use Rattle.std.proofs.Common.{Some, ap, arith, length, refl, ◌∙◌}
use Rattle.nsf_core.specs.Value.{value_of}
use Rattle.core_scan.specs.Visible.{left_of, visible}
use Rattle.core_scan.proofs.Stepped.{all_left}
use Rattle.core_committed.specs.Committed.{committed_index}
use Rattle.core_committed.proofs.Places.{all_placed, none_placed, one_placed}
use Rattle.core_committed.proofs.reading.places_of.Goals as goal

pub loop-entry-init : goal.loop-entry-init
loop-entry-init g c =
    let all = committed_index (value_of c.args.core.now) in
    record {
      listed = none_placed (visible all c.args.range.now) (left_of all c.args.range.now c.start_of-last.result) c.new-rids.result.items
          (c.start_of-last.ensures all ∙ all_left all c.args.range.now) c.new-rids.ensures.items;
      run = tt;
    }

pub loop-entry-preserved : goal.loop-entry-preserved
loop-entry-preserved g c =
    let all = committed_index (value_of c.args.core.now) in
    let range = c.args.range.now in
    let l = c.loop-entry in
    let pair = c.in-Some.entry.now.pair in
    record {
      listed = one_placed (visible all range) (left_of all range l.last) (left_of all range (Some pair)) pair l.rids.items c.push.new.self.items
          l.invariant.listed c.in-Some.ensures.next c.in_ok-push.ensures.items;
      run = c.in-Some.ensures.run;
    }

pub loop-entry-smaller : goal.loop-entry-smaller
loop-entry-smaller g c = let e = ap length c.in-Some.ensures.next in omega (arith, e)

pub returns : goal.returns
returns g c =
    let all = committed_index (value_of c.args.core.now) in
    record {
      found = all_placed (visible all c.args.range.now) (left_of all c.args.range.now c.loop-entry.last) c.loop-entry.rids.items c.loop-entry.invariant.listed
          (c.in_default.ensures.none refl);
      no_memory = tt;
    }

use Rattle.std.proofs.Common.{refl, subst, ◌∙◌}
use Rattle.btree_node.specs.Runs.{IsRunAbove}
use Rattle.nsf_core.specs.Value.{value_of}
use Rattle.core_laws.specs.Holds.{committed_rows}
use Rattle.core_scan.proofs.Stepped.{fewer_past, hidden_left, no_more, none_left, past_left, shown_left}
use Rattle.core_committed.specs.Committed.{committed_index, mark_in}
use Rattle.core_committed.proofs.Marks.{least_marked, none_marked}
use Rattle.core_committed.proofs.walk.next_committed.Goals as goal

pub loop-entry-init : goal.loop-entry-init
loop-entry-init g c = record { left = refl; run = c.requires.run }

pub loop-entry-preserved : goal.loop-entry-preserved
loop-entry-preserved g c =
    let v = value_of c.args.core.now in
    let entry = c.in-Some.entry.now in
    let run = subst (λ es. IsRunAbove v.index.entries c.loop-entry.last es) c.in-Some.ensures.cases.0 c.left_or_next.ensures.run in
    record {
      left = c.loop-entry.invariant.left
          ∙ hidden_left (committed_index v) c.args.range.now c.loop-entry.last (entry.pair, mark_in (committed_rows v) entry.pair)
          (least_marked v c.loop-entry.last (entry.pair, entry.mark) run.0) c.if-shows.ensures;
      run = run.1;
    }

pub loop-entry-smaller : goal.loop-entry-smaller
loop-entry-smaller g c =
    let all = (value_of c.args.core.now).index.entries in
    let entry = c.in-Some.entry.now in
    let run = subst (λ es. IsRunAbove all c.loop-entry.last es) c.in-Some.ensures.cases.0 c.left_or_next.ensures.run in
    fewer_past all c.args.range.now c.loop-entry.last (entry.pair, entry.mark) run.0

pub returns-then-shows-clause-next : goal.returns-then-shows-clause-next
returns-then-shows-clause-next g c =
    let v = value_of c.args.core.now in
    let entry = c.in-Some.entry.now in
    let run = subst (λ es. IsRunAbove v.index.entries c.loop-entry.last es) c.in-Some.ensures.cases.0 c.left_or_next.ensures.run in
    c.loop-entry.invariant.left
    ∙ shown_left (committed_index v) c.args.range.now c.loop-entry.last (entry.pair, mark_in (committed_rows v) entry.pair)
    (least_marked v c.loop-entry.last (entry.pair, entry.mark) run.0) c.if-shows.ensures

pub returns-then-shows-clause-run : goal.returns-then-shows-clause-run
returns-then-shows-clause-run g c =
    let all = (value_of c.args.core.now).index.entries in
    (subst (λ es. IsRunAbove all c.loop-entry.last es) c.in-Some.ensures.cases.0 c.left_or_next.ensures.run).1

pub returns-then-is_past-clause-none : goal.returns-then-is_past-clause-none
returns-then-is_past-clause-none g c =
    let v = value_of c.args.core.now in
    let entry = c.in-Some.entry.now in
    let run = subst (λ es. IsRunAbove v.index.entries c.loop-entry.last es) c.in-Some.ensures.cases.0 c.left_or_next.ensures.run in
    λ _. c.loop-entry.invariant.left
    ∙ past_left (committed_index v) c.args.range.now c.loop-entry.last (entry.pair, mark_in (committed_rows v) entry.pair)
    (least_marked v c.loop-entry.last (entry.pair, entry.mark) run.0) c.if-is_past.ensures

pub returns-clause-none : goal.returns-clause-none
returns-clause-none g c =
    let v = value_of c.args.core.now in
    let none = c.left_or_next.ensures.none (no_more c.left_or_next.result.now c.in_default.ensures.cases) in
    λ _. c.loop-entry.invariant.left ∙ none_left (committed_index v) c.args.range.now c.loop-entry.last (none_marked v c.loop-entry.last none)

use Rattle.std.proofs.Common.{refl, ◌∙◌}
use Rattle.entry_scan.proofs.Stepped.{fewer_past, hidden_left, none_left, past_left, shown_left}
use Rattle.entry_scan.proofs.walk.next_visible.Goals as goal

pub loop-entry-init : goal.loop-entry-init
loop-entry-init g c = record { left = refl; run = c.requires.run }

pub loop-entry-preserved : goal.loop-entry-preserved
loop-entry-preserved g c =
    let all = g.E.OrderedEntries.entries c.args.index.now in
    let entry = c.in-Some.entry in
    record {
      left = c.loop-entry.invariant.left
          ∙ hidden_left all c.args.range.now c.loop-entry.last (entry.pair, entry.mark) c.in-Some.ensures.next c.if-shows.ensures;
      run = c.in-Some.ensures.run;
    }

pub loop-entry-smaller : goal.loop-entry-smaller
loop-entry-smaller g c =
    let all = g.E.OrderedEntries.entries c.args.index.now in
    let entry = c.in-Some.entry in
    fewer_past all c.args.range.now c.loop-entry.last (entry.pair, entry.mark) c.in-Some.ensures.next

pub returns-then-shows-clause-next : goal.returns-then-shows-clause-next
returns-then-shows-clause-next g c =
    let all = g.E.OrderedEntries.entries c.args.index.now in
    let entry = c.in-Some.entry in
    c.loop-entry.invariant.left
    ∙ shown_left all c.args.range.now c.loop-entry.last (entry.pair, entry.mark) c.in-Some.ensures.next c.if-shows.ensures

pub returns-then-is_past-clause-none : goal.returns-then-is_past-clause-none
returns-then-is_past-clause-none g c =
    let all = g.E.OrderedEntries.entries c.args.index.now in
    let entry = c.in-Some.entry in
    λ _. c.loop-entry.invariant.left
    ∙ past_left all c.args.range.now c.loop-entry.last (entry.pair, entry.mark) c.in-Some.ensures.next c.if-is_past.ensures

pub returns-clause-none : goal.returns-clause-none
returns-clause-none g c =
    let all = g.E.OrderedEntries.entries c.args.index.now in
    λ _. c.loop-entry.invariant.left ∙ none_left all c.args.range.now c.loop-entry.last (c.in_default.ensures.none refl)

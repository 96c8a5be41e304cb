use Rattle.std.proofs.Common.{refl, ◌∙◌}
use Rattle.entry_scan.proofs.SteppedBack.{fewer_ahead, hidden_left, none_left, shown_left, unbegun_left}
use Rattle.entry_scan.proofs.backward.visible_before.Goals as goal

pub loop-entry-init : goal.loop-entry-init
loop-entry-init g c = refl

pub loop-entry-preserved : goal.loop-entry-preserved
loop-entry-preserved g c =
    let all = g.E.OrderedEntries.entries c.args.index.now in
    let entry = c.in-Some.entry in
    c.loop-entry.invariant
    ∙ hidden_left all c.args.range.now c.loop-entry.last (entry.pair, entry.mark) c.in-Some.ensures.entry c.if-shows.ensures

pub loop-entry-smaller : goal.loop-entry-smaller
loop-entry-smaller g c =
    let all = g.E.OrderedEntries.entries c.args.index.now in
    let entry = c.in-Some.entry in
    fewer_ahead all c.args.range.now c.loop-entry.last (entry.pair, entry.mark) c.in-Some.ensures.entry

pub returns-then-shows-clause-next : goal.returns-then-shows-clause-next
returns-then-shows-clause-next g c =
    let all = g.E.OrderedEntries.entries c.args.index.now in
    let entry = c.in-Some.entry in
    c.loop-entry.invariant
    ∙ shown_left all c.args.range.now c.loop-entry.last (entry.pair, entry.mark) c.in-Some.ensures.entry c.if-shows.ensures

pub returns-then-not-has_begun-clause-none : goal.returns-then-not-has_begun-clause-none
returns-then-not-has_begun-clause-none g c =
    let all = g.E.OrderedEntries.entries c.args.index.now in
    let entry = c.in-Some.entry in
    λ _. c.loop-entry.invariant
    ∙ unbegun_left all c.args.range.now c.loop-entry.last (entry.pair, entry.mark) c.in-Some.ensures.entry c.if-not-has_begun.ensures

pub returns-clause-none : goal.returns-clause-none
returns-clause-none g c =
    let all = g.E.OrderedEntries.entries c.args.index.now in
    λ _. c.loop-entry.invariant ∙ none_left all c.args.range.now c.loop-entry.last (c.in_default.ensures.none refl)

use Rattle.std.proofs.Common.{Option, Some, ap, arith, length, refl, subst, sym, ◌≡◌}
use Rattle.std.specs.Option.{option_copied}
use Rattle.record_values.specs.declared.pair.Pair.{Pair}
use Rattle.entry_scan.specs.Backward.{left_before}
use Rattle.entry_scan.proofs.PagedBack.{IsPartBack, full_next, full_pairs, last_next, last_pairs, none_yet, one_more}
use Rattle.entry_scan.proofs.backward.page_back_of.Goals as goal

pub loop-entry-init : goal.loop-entry-init
loop-entry-init g c =
    let all = g.E.OrderedEntries.entries c.args.index.now in
    let range = c.args.range.now in
    let before = option_copied c.args.before in
    let start = c.end_of-last.result in
    let pairs = c.new-pairs.result.items in
    let first = none_yet all range before c.args.limit start pairs (c.end_of-last.ensures all) c.new-pairs.ensures.items in
    subst (λ (next : Option Pair). IsPartBack all range before start next c.args.limit pairs) (sym c.copied-next.ensures) first

pub loop-entry-preserved : goal.loop-entry-preserved
loop-entry-preserved g c =
    let all = g.E.OrderedEntries.entries c.args.index.now in
    let l = c.loop-entry in
    let not_full = λ (full : length l.pairs.items ≡ c.args.limit). absurd (omega (arith, full, c.len.ensures, c.if-len-limit.false)) in
    one_more all c.args.range.now (option_copied c.args.before) c.args.limit l.last l.next l.pairs.items l.invariant
    c.in-Some.entry.pair c.push.new.self.items c.in-Some.ensures.next not_full c.in_ok-push.ensures.items

pub loop-entry-smaller : goal.loop-entry-smaller
loop-entry-smaller g c = let e = ap length c.in-Some.ensures.next in omega (arith, e)

pub returns-then-len-limit-clause-pairs : goal.returns-then-len-limit-clause-pairs
returns-then-len-limit-clause-pairs g c =
    let all = g.E.OrderedEntries.entries c.args.index.now in
    let l = c.loop-entry in
    full_pairs all c.args.range.now (option_copied c.args.before) c.args.limit l.last l.next l.pairs.items l.invariant
    c.in-Some.entry.pair (left_before all c.args.range.now (Some c.in-Some.entry.pair)) c.in-Some.ensures.next
    (omega (arith, c.len.ensures, c.if-len-limit.true))

pub returns-then-len-limit-clause-next : goal.returns-then-len-limit-clause-next
returns-then-len-limit-clause-next g c =
    let all = g.E.OrderedEntries.entries c.args.index.now in
    let l = c.loop-entry in
    full_next all c.args.range.now (option_copied c.args.before) c.args.limit l.last l.next l.pairs.items l.invariant
    c.in-Some.entry.pair (left_before all c.args.range.now (Some c.in-Some.entry.pair)) c.in-Some.ensures.next
    (omega (arith, c.len.ensures, c.if-len-limit.true))

pub returns-clause-pairs : goal.returns-clause-pairs
returns-clause-pairs g c =
    let all = g.E.OrderedEntries.entries c.args.index.now in
    let l = c.loop-entry in
    last_pairs all c.args.range.now (option_copied c.args.before) c.args.limit l.last l.next l.pairs.items l.invariant
    (c.in_default.ensures.none refl)

pub returns-clause-next : goal.returns-clause-next
returns-clause-next g c =
    let all = g.E.OrderedEntries.entries c.args.index.now in
    let l = c.loop-entry in
    last_next all c.args.range.now (option_copied c.args.before) c.args.limit l.last l.next l.pairs.items l.invariant
    (c.in_default.ensures.none refl)

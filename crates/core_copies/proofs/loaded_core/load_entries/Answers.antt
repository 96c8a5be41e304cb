use Rattle.std.proofs.Common.{List, rules, subst, sym, ap, ◌∙◌}
use Rattle.std.specs.Prelude.{T}
use Rattle.std.specs.FinMap as map
use Rattle.record_values.specs.Maps.{pair_exact}
use Rattle.record_values.specs.Orders.{pair_cmp}
use Rattle.record_values.specs.declared.pair.Pair.{Pair}
use Rattle.record_values.specs.declared.pair.Mark.{Mark}
use Rattle.record_values.specs.Entries.{Index}
use Rattle.nsf_core.specs.Value.{value_of}
use Rattle.core_copies.proofs.InOrder.{all_in_order, next_left, next_sorted, next_there, none_in_order}
use Rattle.core_copies.proofs.Loading.{AreEntriesLoaded, all_entries, entry_within, no_entry, not_full, one_entry, still_quiet}
use Rattle.core_copies.proofs.loaded_core.load_entries.Goals as goal

pub loop-pair-init : goal.loop-pair-init
loop-pair-init g c =
    let entries = c.args.entries.now in
    let is = c.all_above-rest.ensures in
    record {
      sorted = subst (λ (xs : List (Pair × Mark)). T (map.is_sorted pair_cmp xs)) (sym is) (map.entries_sorted entries);
      loaded = subst (λ (left : Index). AreEntriesLoaded entries left (value_of c.args.core.now) (value_of c.args.core.now))
          (sym (ap map.from_sorted is ∙ all_in_order pair_exact entries)) (no_entry entries (value_of c.args.core.now) c.requires.none c.requires.room);
    }

pub load_entry-requires-clause-quiet : goal.load_entry-requires-clause-quiet
load_entry-requires-clause-quiet g c =
    let left : List (Pair × Mark) = c.loop-pair.rest in
    let e : Pair × Mark = (c.in-Some.pair.now, c.in-Some.mark.now) in
    let there = next_there pair_exact left e c.next.new.self c.in-Some.ensures.steps c.loop-pair.invariant.sorted in
    still_quiet c.args.entries.now _ (value_of c.args.core.now) (value_of c.loop-pair.core) c.loop-pair.invariant.loaded e.0 e.1 there c.requires.quiet

pub load_entry-requires-clause-inside : goal.load_entry-requires-clause-inside
load_entry-requires-clause-inside g c =
    let left : List (Pair × Mark) = c.loop-pair.rest in
    let e : Pair × Mark = (c.in-Some.pair.now, c.in-Some.mark.now) in
    let there = next_there pair_exact left e c.next.new.self c.in-Some.ensures.steps c.loop-pair.invariant.sorted in
    entry_within c.args.entries.now _ (value_of c.args.core.now) (value_of c.loop-pair.core) c.loop-pair.invariant.loaded e.0 e.1 there c.requires.within

pub loop-pair-preserved : goal.loop-pair-preserved
loop-pair-preserved g c =
    let left : List (Pair × Mark) = c.loop-pair.rest in
    let e : Pair × Mark = (c.in-Some.pair.now, c.in-Some.mark.now) in
    let is = c.in-Some.ensures.steps in
    let sorted = c.loop-pair.invariant.sorted in
    record {
      sorted = next_sorted pair_exact left e c.next.new.self is sorted;
      loaded = one_entry c.args.entries.now _ (value_of c.args.core.now) (value_of c.loop-pair.core) c.loop-pair.invariant.loaded e.0 e.1
          (next_there pair_exact left e c.next.new.self is sorted)
          (map.from_sorted c.next.new.self) (value_of c.load_entry.new.self)
          (next_left pair_exact left e c.next.new.self is sorted) c.in_ok-load_entry.ensures.ok;
    }

pub returns-in_err-load_entry-clause-no_memory : goal.returns-in_err-load_entry-clause-no_memory
returns-in_err-load_entry-clause-no_memory g c =
    let left : List (Pair × Mark) = c.loop-pair.rest in
    let e : Pair × Mark = (c.in-Some.pair.now, c.in-Some.mark.now) in
    let there = next_there pair_exact left e c.next.new.self c.in-Some.ensures.steps c.loop-pair.invariant.sorted in
    let room = not_full c.args.entries.now _ (value_of c.args.core.now) (value_of c.loop-pair.core) c.loop-pair.invariant.loaded e.0 e.1 there in
    search (rules, room)

pub returns-clause-ok : goal.returns-clause-ok
returns-clause-ok g c =
    let left : List (Pair × Mark) = c.loop-pair.rest in
    all_entries c.args.entries.now _ (value_of c.args.core.now) (value_of c.loop-pair.core) c.loop-pair.invariant.loaded
    (none_in_order pair_exact left c.in_default.ensures.steps.0)

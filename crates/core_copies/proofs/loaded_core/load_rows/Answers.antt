use Rattle.std.proofs.Common.{List, drop, subst, sym, ap, ◌∷◌, ◌∙◌, ◌≡◌, ◌+◌}
use Rattle.std.proofs.lemmas.List.{drop_more, drop_all}
use Rattle.std.specs.Prelude.{T}
use Rattle.std.specs.FinMap as map
use Rattle.record_values.specs.Maps.{rid_exact}
use Rattle.record_values.specs.Orders.{rid_cmp}
use Rattle.record_values.specs.Values.{Place}
use Rattle.record_values.specs.declared.row.Row.{Row}
use Rattle.model.specs.Table.{Table}
use Rattle.nsf_core.specs.Value.{value_of}
use Rattle.core_copies.proofs.InOrder.{all_in_order, next_left, next_sorted, next_there, none_in_order}
use Rattle.core_copies.proofs.Loading.{AreRowsLoaded, all_rows, no_row, one_row, row_within, rows_quiet}
use Rattle.core_copies.proofs.loaded_core.load_rows.Goals as goal

pub loop-entry-init : goal.loop-entry-init
loop-entry-init g c =
    let rows = c.args.rows.now in
    let is = c.deref-entry-items.ensures.value ∙ c.in_ok-entries.ensures in
    record {
      sorted = subst (λ (xs : List (Place × Row)). T (map.is_sorted rid_cmp xs)) (sym is) (map.entries_sorted rows);
      loaded = subst (λ (left : Table). AreRowsLoaded rows left (value_of c.args.core.now) (value_of c.args.core.now))
          (sym (ap map.from_sorted is ∙ all_in_order rid_exact rows)) (no_row rows (value_of c.args.core.now) c.requires.none);
    }

pub load_row-requires-clause-quiet : goal.load_row-requires-clause-quiet
load_row-requires-clause-quiet g c = rows_quiet c.args.rows.now _ (value_of c.args.core.now)
    (value_of c.loop-entry.core) c.loop-entry.invariant.loaded c.requires.quiet

pub load_row-requires-clause-inside : goal.load_row-requires-clause-inside
load_row-requires-clause-inside g c =
    let xs : List (Place × Row) = c.deref-entry-items.result.now in
    let i = c.loop-entry.entry-index in
    let e = c.entry-item.result in
    let is : drop i xs ≡ e ∷ drop (i + 1) xs = drop_more xs i e c.loop-entry-test.true ∙ ap (λ (x : Place × Row). x ∷ drop (i + 1) xs) (sym c.entry-item.is) in
    row_within c.args.rows.now _ (value_of c.args.core.now) (value_of c.loop-entry.core) c.loop-entry.invariant.loaded e.0 e.1
    (next_there rid_exact (drop i xs) e (drop (i + 1) xs) is c.loop-entry.invariant.sorted) c.requires.within

pub loop-entry-preserved : goal.loop-entry-preserved
loop-entry-preserved g c =
    let xs : List (Place × Row) = c.deref-entry-items.result.now in
    let i = c.loop-entry.entry-index in
    let e = c.entry-item.result in
    let is : drop i xs ≡ e ∷ drop (i + 1) xs = drop_more xs i e c.loop-entry-test.true ∙ ap (λ (x : Place × Row). x ∷ drop (i + 1) xs) (sym c.entry-item.is) in
    let sorted = c.loop-entry.invariant.sorted in
    record {
      sorted = next_sorted rid_exact (drop i xs) e (drop (i + 1) xs) is sorted;
      loaded = one_row c.args.rows.now _ (value_of c.args.core.now) (value_of c.loop-entry.core) c.loop-entry.invariant.loaded e.0 e.1
          (next_there rid_exact (drop i xs) e (drop (i + 1) xs) is sorted)
          (map.from_sorted (drop (i + 1) xs)) (value_of c.load_row.new.self) (next_left rid_exact (drop i xs) e (drop (i + 1) xs) is sorted) c.load_row.ensures;
    }

pub returns-clause-ok : goal.returns-clause-ok
returns-clause-ok g c =
    let xs : List (Place × Row) = c.deref-entry-items.result.now in
    let i = c.loop-entry.entry-index in
    all_rows c.args.rows.now _ (value_of c.args.core.now) (value_of c.loop-entry.core) c.loop-entry.invariant.loaded
    (none_in_order rid_exact (drop i xs) (drop_all i xs c.loop-entry-test.false))

-- Rows and entries are loaded one after the other, and the core then stands for what the abstract core begins with.
use Rattle.std.proofs.Common.{Bool, None, Option, Some, [], ap, arith, cond, false, nat_lt, refl, subst, sym, true, ℕ, ◌+◌, ◌<◌, ◌∙◌, ◌≡◌, ◌≤◌}
use Rattle.std.proofs.lemmas.Bool.{lt-ltb, ltb-true}
use Rattle.std.proofs.lemmas.List.Elements.{All-nil}
use Rattle.std.specs.FinMap.{empty, get, get-empty, len, len-empty}
use Rattle.std.specs.Ordering.{nat_cmp}
use Rattle.record_values.specs.GeometryValue.{GeometryValue}
use Rattle.record_values.specs.Maps.{pair_exact, rid_exact, set_at}
use Rattle.record_values.specs.Orders.{pair_cmp}
use Rattle.record_values.specs.Values.{Place}
use Rattle.record_values.specs.declared.number.TheConstants.{LAST_NUMBER}
use Rattle.record_values.specs.declared.pair.Mark.{Mark}
use Rattle.record_values.specs.declared.pair.Pair.{Pair}
use Rattle.record_values.specs.declared.row.Row.{Row}
use Rattle.model.specs.Following.{IsWithin}
use Rattle.model.specs.Given.{Given}
use Rattle.model.specs.Inside.{AreEntriesWithin, IsGivenInside}
use Rattle.model.specs.Table.{Table}
use Rattle.record_values.specs.Entries.{Index}
use Rattle.sorted_scan.specs.Scans.{HasRun, begun, begun_run}
use Rattle.core_model.proofs.Laws.{none_reserved, opened_fit}
use Rattle.core_model.specs.Histories.{FitsStore, Opened, highest_of, opened}
use Rattle.core_model.proofs.ReplyLaws.{opened_standing}
use Rattle.core_model.specs.Events.{standing_at}
use Rattle.nsf_core.specs.Loading.{IsQuiet, entry_loaded}
use Rattle.core_parts.specs.View.{CoreValue, IsState}
use Rattle.core_parts.specs.Index.{IsFull}
use Rattle.model.proofs.MapLaws.{len_less}
use Rattle.core_copies.specs.Loaded.{holding, with_entries, with_rows}
use Rattle.core_copies.proofs.Moved.{IsMoved, all_moved, is_its, len_moved, none_moved, one_moved}

-- ---- rows

-- of all these rows some are left, and the core has the others
pub record AreRowsLoaded (all left : Table) (old now : CoreValue) : Type 0 where
  pub done : Table
  pub core : now ≡ with_rows old done
  pub moved : IsMoved all left done

pub no_row : (all : Table) (old : CoreValue) → old.heap.rows ≡ empty → AreRowsLoaded all all old old
no_row all old none = record { done = old.heap.rows; core = refl; moved = none_moved rid_exact all old.heap.rows none }

pub rows_quiet : (all left : Table) (old now : CoreValue) → AreRowsLoaded all left old now → IsQuiet old → IsQuiet now
rows_quiet all left old now so quiet = subst IsQuiet (sym so.core) quiet

module _ (all left : Table) (old now : CoreValue) (so : AreRowsLoaded all left old now) (rid : Place) (row : Row) (next : get left rid ≡ Some row) where
  pub row_within : IsWithin old.heap.pages all → rid.page < now.heap.pages
  row_within within = subst (λ (v : CoreValue). rid.page < v.heap.pages) (sym so.core)
      (within rid row (is_its rid_exact all left so.done so.moved rid row next).0)

  pub one_row : (rest : Table) (new : CoreValue) → rest ≡ set_at left rid None → new ≡ with_rows now (set_at now.heap.rows rid (Some row))
      → AreRowsLoaded all rest old new
  one_row rest new is then = record {
    done = set_at so.done rid (Some row);
    core = then ∙ ap (λ (v : CoreValue). with_rows v (set_at v.heap.rows rid (Some row))) so.core;
    moved = subst (λ (m : Table). IsMoved all m (set_at so.done rid (Some row))) (sym is) (one_moved rid_exact all left so.done so.moved rid row next);
  }

pub all_rows : (all left : Table) (old now : CoreValue) → AreRowsLoaded all left old now → left ≡ empty → now ≡ with_rows old all
all_rows all left old now so none = so.core ∙ ap (with_rows old) (all_moved rid_exact all left so.done so.moved none)

-- ---- entries

pub record AreEntriesLoaded (all left : Index) (old now : CoreValue) : Type 0 where
  pub done : Index
  pub core : now ≡ with_entries old done
  pub moved : IsMoved all left done
  pub room : len left + len done + old.index.pledged ≤ old.index.capacity

pub no_entry : (all : Index) (old : CoreValue) → old.index.entries ≡ empty → len all + old.index.pledged ≤ old.index.capacity → AreEntriesLoaded all all old old
no_entry all old none room = record {
  done = old.index.entries;
  core = refl;
  moved = none_moved pair_exact all old.index.entries none;
  room = fits (ap len none ∙ len-empty pair_cmp Mark);
}
  where
    fits : len old.index.entries ≡ 0 → len all + len old.index.entries + old.index.pledged ≤ old.index.capacity
    fits e = omega (arith, e, room)

module _ (all left : Index) (old now : CoreValue) (so : AreEntriesLoaded all left old now) (pair : Pair) (mark : Mark) (next : get left pair ≡ Some mark) where
  pub entry_within : AreEntriesWithin old.heap.pages all → pair.rid.page < now.heap.pages
  entry_within within = subst (λ (v : CoreValue). pair.rid.page < v.heap.pages) (sym so.core)
      (within pair (λ none. absurd (some_and_none (sym (is_its pair_exact all left so.done so.moved pair mark next).0 ∙ none))))
    where
      some_and_none : Some mark ≡ None → ⊥
      some_and_none e = absurd cc

  pub still_quiet : IsQuiet old → IsQuiet now
  still_quiet quiet = subst IsQuiet (sym so.core) quiet

  pub not_full : ¬ IsFull now.index
  not_full full =
      let less : len (set_at left pair None) < len left = len_less pair_exact left (set_at left pair None) pair mark next refl in
      let is : old.index.capacity ≤ len so.done + old.index.pledged = subst (λ (v : CoreValue). IsFull v.index) so.core full in
      sums (len (set_at left pair None)) (len left) (len so.done) old.index.pledged old.index.capacity less so.room is
    where
      sums : (a b c d e : ℕ) → a < b → b + c + d ≤ e → e ≤ c + d → ⊥
      sums a b c d e f g h = absurd (omega (arith, f, g, h))

  pub one_entry : (rest : Index) (new : CoreValue) → rest ≡ set_at left pair None → new ≡ entry_loaded now pair (Some mark) → AreEntriesLoaded all rest old new
  one_entry rest new is then = record {
    done = set_at so.done pair (Some mark);
    core = then ∙ ap (λ (v : CoreValue). entry_loaded v pair (Some mark)) so.core;
    moved = subst (λ (m : Index). IsMoved all m (set_at so.done pair (Some mark))) (sym is) (one_moved pair_exact all left so.done so.moved pair mark next);
    room = subst (λ (m : Index). len m + len (set_at so.done pair (Some mark)) + old.index.pledged ≤ old.index.capacity) (sym is)
        (sums (len (set_at left pair None) + len (set_at so.done pair (Some mark))) (len left + len so.done) old.index.pledged old.index.capacity
        (len_moved pair_exact all left so.done so.moved pair mark next) so.room);
  }
    where
      sums : (a b c d : ℕ) → a ≡ b → b + c ≤ d → a + c ≤ d
      sums a b c d e le = omega (arith, e, le)

pub all_entries : (all left : Index) (old now : CoreValue) → AreEntriesLoaded all left old now → left ≡ empty → now ≡ with_entries old all
all_entries all left old now so none = so.core ∙ ap (with_entries old) (all_moved pair_exact all left so.done so.moved none)

-- ---- the whole core

begun_runs : (start : Option Pair) (pages : ℕ) → HasRun (begun start pages) (begun_run start pages)
begun_runs start pages = by_test (nat_lt 0 pages) refl
  where
    by_test : (b : Bool) → nat_lt 0 pages ≡ b
        → HasRun (record { pages = pages; last = start; wanted = cond b (Some 0) None; waiting = [] }) (begun_run start pages)
    by_test true some = record {
      pages = refl;
      last_is = refl;
      in_turn = tt;
      wanted = (refl, ltb-true 0 pages some);
      taken = λ n less before. absurd (omega (arith, before));
      given = All-nil _;
      left = λ q less before missed above. absurd (omega (arith, before));
    }
    by_test false none = record {
      pages = refl;
      last_is = refl;
      in_turn = tt;
      wanted = tt;
      taken = λ n less before. absurd (no_page n less);
      given = All-nil _;
      left = λ q less before missed above. absurd (no_page q.rid.page less);
    }
      where
        no_page : (n : ℕ) → n < pages → ⊥
        no_page n less = let some : nat_lt 0 pages ≡ true = lt-ltb 0 pages (omega (arith, less)) in absurd cc

module _ (g : GeometryValue) (given : Given) (inside : IsGivenInside g.pages given) (room : len given.entries ≤ g.entries)
    (last : given.last ≤ LAST_NUMBER) where
  abbrev store : Opened
  store = record { given = given; pages = g.pages; places = g.entries }

  fits : FitsStore store
  fits = record { rows = inside.rows; entries = inside.entries; highest = inside.life; room = room }

  pub stands_for : IsState (holding g given) (opened store) (standing_at given.last)
  stands_for = record {
    shown = record {
      rows = refl;
      entries = refl;
      txns = λ t. refl;
      holder = λ r. refl;
      pledges = λ t. get-empty nat_cmp t;
      pledged = none_reserved;
      life = refl;
      pages = refl;
      scan_pages = refl;
      places = refl;
      cleaned = refl;
      bound = refl;
      scan = record {
        run = begun_run (highest_of given.life) g.pages;
        made = begun_runs (highest_of given.life) g.pages;
        given = λ p. refl;
        missed = λ p. refl;
        taken = λ n. refl;
        in_a_row = refl;
        untaken = λ page n wanted le. refl;
      };
      made = refl;
      begun = refl;
      active = refl;
      attempts = refl;
      all_attempts = refl;
      commits = refl;
    };
    fit = opened_fit store fits;
    standing = opened_standing store given.last last;
    counted = omega arith;
  }

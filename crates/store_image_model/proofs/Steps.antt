-- An image is copied in steps.
use Rattle.std.proofs.Common.{◌≡◌, ◌⊎◌, inl, inr, ⊎_elim, ℕ, ◌+◌, ◌≤◌, Bool, true, false, cond, List, [], ◌∷◌, ◌++◌, take, Option, Some, None, refl, sym, ap}
use Rattle.std.proofs.Common.{◌∙◌, arith}
use Rattle.std.proofs.lemmas.Bool.{cases_eq, cases_lt}
use Rattle.std.specs.FinMap as finite
use Rattle.std.specs.FinMap.{FinMap, find}
use Rattle.std.specs.Ordering.{eq_by_cmp}
use Rattle.std.specs.declared.cmp.Ordering.{Ordering}
use Rattle.std.specs.declared.cmp.Ordering.TheVariants.{Less, Equal, Greater}
use Rattle.record_values.specs.Values.{Place}
use Rattle.record_values.specs.Orders.{rid_cmp, pair_cmp}
use Rattle.record_values.specs.Maps.{IsExact, rid_exact, pair_exact}
use Rattle.records.specs.RecordValue.{RecordValue}
use Rattle.record_values.specs.declared.row.Row.{Row}
use Rattle.record_values.specs.declared.pair.Pair.{Pair}
use Rattle.record_values.specs.declared.pair.Mark.{Mark}
use Rattle.model.specs.Table.{Table}
use Rattle.record_values.specs.Entries.{Index}
use Rattle.model.specs.Cells.{Cells, cells_after}
use Rattle.model.specs.Following.{IsWithin}
use Rattle.model.specs.Images.{IsCopied}
use Rattle.store_image_model.specs.Partly.{WasRow, WasEntry, IsUpTo, joined, IsPartlyCopied, ArePageRows, AreNextEntries, AreLastEntries}

-- ---- joined maps

abbrev pub or_else : {X : Type 0} → Option X → Option X → Option X
or_else (Some x) o = Some x
or_else None o = o

module _ {K X : Type 0} {R : K → K → Ordering} (o : IsExact R) where
  one_more : (e : K × X) (es fs : List (K × X)) (q : K) → find R q (es ++ fs) ≡ or_else (find R q es) (find R q fs) → (b : Bool)
      → cond b (Some e.1) (find R q (es ++ fs)) ≡ or_else (cond b (Some e.1) (find R q es)) (find R q fs)
  one_more e es fs q is true = refl
  one_more e es fs q is false = is

  pub find_in_both : (es fs : List (K × X)) (q : K) → find R q (es ++ fs) ≡ or_else (find R q es) (find R q fs)
  find_in_both [] fs q = refl
  find_in_both (e ∷ es) fs q = one_more e es fs q (find_in_both es fs q) (eq_by_cmp R q e.0)

  pub get-joined : (m n : FinMap R X) (q : K) → finite.get (joined m n) q ≡ or_else (finite.get m q) (finite.get n q)
  get-joined m n q =
      finite.get-from_entries o.total (finite.entries m ++ finite.entries n) q
      ∙ find_in_both (finite.entries m) (finite.entries n) q
      ∙ ap (λ (x : Option X). or_else x (find R q (finite.entries n))) (sym (finite.get-entries m q))
      ∙ ap (λ (x : Option X). or_else (finite.get m q) x) (sym (finite.get-entries n q))

  -- where the second map has nothing
  pub get_first : (m n : FinMap R X) (q : K) → finite.get n q ≡ None → finite.get (joined m n) q ≡ finite.get m q
  get_first m n q none = get-joined m n q ∙ ap (or_else (finite.get m q)) none ∙ itself (finite.get m q)
    where
      itself : (x : Option X) → or_else x None ≡ x
      itself None = refl
      itself (Some x) = refl

  -- where the first map has nothing
  pub get_second : (m n : FinMap R X) (q : K) → finite.get m q ≡ None → finite.get (joined m n) q ≡ finite.get n q
  get_second m n q none = get-joined m n q ∙ ap (λ (x : Option X). or_else x (finite.get n q)) none

-- ---- pairs

pub up_to_or_not : (highest : Option Pair) (pair : Pair) → IsUpTo highest pair ⊎ (¬ IsUpTo highest pair)
up_to_or_not None pair = inr (λ is. is)
up_to_or_not (Some highest) pair = by (pair_cmp pair highest) refl
  where
    by : (r : Ordering) → pair_cmp pair highest ≡ r → IsUpTo (Some highest) pair ⊎ (¬ IsUpTo (Some highest) pair)
    by Less is = inl (λ greater. let no : Less ≡ Greater = sym is ∙ greater in cc)
    by Equal is = inl (λ greater. let no : Equal ≡ Greater = sym is ∙ greater in cc)
    by Greater is = inr (λ other. other is)

-- ---- steps

pub nothing_copied : (cells : Cells) (log : List RecordValue) → IsPartlyCopied cells log 0 0 None finite.empty finite.empty
nothing_copied cells log = record {
  rows-were = λ q below. absurd (omega (arith, below));
  rows-rest = λ q past. finite.get-empty rid_cmp q;
  entries-were = λ pair up. absurd up;
  entries-rest = λ pair past. finite.get-empty pair_cmp pair;
}

module _ (cells : Cells) (log : List RecordValue) (m n : ℕ) (late : m ≤ n) where
  abbrev now : Cells
  now = cells_after cells (take n log)

  later_row : (q : Place) (row other : Option Row) → other ≡ row → WasRow cells log m q row → WasRow cells log n q other
  later_row q row other same (k, until, was) = (k, omega (arith, until, late), same ∙ was)

  later_entry : (pair : Pair) (mark other : Option Mark) → other ≡ mark → WasEntry cells log m pair mark → WasEntry cells log n pair other
  later_entry pair mark other same (k, until, was) = (k, omega (arith, until, late), same ∙ was)

  row_now : (q : Place) (row : Option Row) → row ≡ finite.get now.rows q → WasRow cells log n q row
  row_now q row is = (n, omega arith, is)

  entry_now : (pair : Pair) (mark : Option Mark) → mark ≡ finite.get now.entries pair → WasEntry cells log n pair mark
  entry_now pair mark is = (n, omega arith, is)

  a_page : (page : ℕ) (highest : Option Pair) (rows more : Table) (entries : Index) → IsPartlyCopied cells log m page highest rows entries
      → ArePageRows now page more → IsPartlyCopied cells log n (page + 1) highest (joined more rows) entries
  a_page page highest rows more entries is next = record {
    rows-were = λ q below. ⊎_elim
        (λ here. row_now q (finite.get (joined more rows) q) (get_first rid_exact more rows q (is.rows-rest q (omega (arith, here))) ∙ next.there q here))
        (λ other. later_row q (finite.get rows q) (finite.get (joined more rows) q) (get_second rid_exact more rows q (next.elsewhere q other))
        (is.rows-were q (omega (arith, below, other))))
        (cases_eq q.page page);
    rows-rest = λ q past. get_second rid_exact more rows q (next.elsewhere q (λ here. omega (arith, past, here))) ∙ is.rows-rest q (omega (arith, past));
    entries-were = λ pair up. later_entry pair (finite.get entries pair) (finite.get entries pair) refl (is.entries-were pair up);
    entries-rest = is.entries-rest;
  }

  some_entries : (pages : ℕ) (above highest : Option Pair) (rows : Table) (entries more : Index) → IsPartlyCopied cells log m pages above rows entries
      → AreNextEntries now above highest more → IsPartlyCopied cells log n pages highest rows (joined more entries)
  some_entries pages above highest rows entries more is next = record {
    rows-were = λ q below. later_row q (finite.get rows q) (finite.get rows q) refl (is.rows-were q below);
    rows-rest = is.rows-rest;
    entries-were = λ pair up. ⊎_elim
        (λ old. later_entry pair (finite.get entries pair) (finite.get (joined more entries) pair)
        (get_second pair_exact more entries pair (next.below pair old)) (is.entries-were pair old))
        (λ new. entry_now pair (finite.get (joined more entries) pair) (get_first pair_exact more entries pair (is.entries-rest pair new)
        ∙ next.there pair new up))
        (up_to_or_not above pair);
    entries-rest = λ pair past. get_second pair_exact more entries pair (next.past pair past) ∙ is.entries-rest pair (λ old. past (next.further pair old));
  }

  last_entries : (pages : ℕ) (above : Option Pair) (rows : Table) (entries more : Index) → IsPartlyCopied cells log m pages above rows entries
      → AreLastEntries now above more → IsWithin pages cells.rows
      → IsCopied cells log n (record { rows = rows; entries = joined more entries; pending = cells.pending; life = cells.life })
  last_entries pages above rows entries more is next within = record {
    rows = λ q. ⊎_elim
        (λ below. later_row q (finite.get rows q) (finite.get rows q) refl (is.rows-were q below))
        (λ past. (0, omega arith, is.rows-rest q past ∙ sym (none q past (finite.get cells.rows q) refl)))
        (cases_lt q.page pages);
    entries = λ pair. ⊎_elim
        (λ old. later_entry pair (finite.get entries pair) (finite.get (joined more entries) pair)
        (get_second pair_exact more entries pair (next.below pair old)) (is.entries-were pair old))
        (λ new. entry_now pair (finite.get (joined more entries) pair) (get_first pair_exact more entries pair (is.entries-rest pair new)
        ∙ next.there pair new))
        (up_to_or_not above pair);
    pending = refl;
    life = refl;
  }
    where
      none : (q : Place) → pages ≤ q.page → (o : Option Row) → finite.get cells.rows q ≡ o → finite.get cells.rows q ≡ None
      none q past None is_ = is_
      none q past (Some row) is_ = absurd (omega (arith, past, within q row is_))

pub page_copied : (cells : Cells) (log : List RecordValue) (m n page : ℕ) (highest : Option Pair) (rows more : Table) (entries : Index)
    → IsPartlyCopied cells log m page highest rows entries → m ≤ n
    → ArePageRows (cells_after cells (take n log)) page more → IsPartlyCopied cells log n (page + 1) highest (joined more rows) entries
page_copied cells log m n page highest rows more entries is late next = a_page cells log m n late page highest rows more entries is next

pub entries_copied : (cells : Cells) (log : List RecordValue) (m n pages : ℕ) (above highest : Option Pair) (rows : Table) (entries more : Index)
    → IsPartlyCopied cells log m pages above rows entries → m ≤ n
    → AreNextEntries (cells_after cells (take n log)) above highest more → IsPartlyCopied cells log n pages highest rows (joined more entries)
entries_copied cells log m n pages above highest rows entries more is late next = some_entries cells log m n late pages above highest rows entries more is next

pub last_copied : (cells : Cells) (log : List RecordValue) (m n pages : ℕ) (above : Option Pair) (rows : Table) (entries more : Index)
    → IsPartlyCopied cells log m pages above rows entries → m ≤ n
    → AreLastEntries (cells_after cells (take n log)) above more → IsWithin pages cells.rows
    → IsCopied cells log n (record { rows = rows; entries = joined more entries; pending = cells.pending; life = cells.life })
last_copied cells log m n pages above rows entries more is late next within = last_entries cells log m n late pages above rows entries more is next within

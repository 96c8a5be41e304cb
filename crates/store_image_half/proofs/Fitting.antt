-- An image has room for no cells, and for one more as long as there is a place left.
use Rattle.std.proofs.Common.{◌≡◌, inl, inr, ℕ, ◌+◌, ◌<◌, ◌≤◌, Bool, true, false, cond, List, [], ◌∷◌, length, Option, Some, None, is_some, unwrap_or, refl}
use Rattle.std.proofs.Common.{sym, ap, ◌∙◌, subst, arith}
use Rattle.std.specs.declared.cmp.Ordering.{Ordering}
use Rattle.std.specs.Ordering.{eq_by_cmp, nat_cmp}
use Rattle.std.specs.FinMap.{FinMap, empty, entries, get, insert, get-empty, len, len-empty, len-entries, len-insert}
use Rattle.std.proofs.lemmas.Option.{none-some}
use Rattle.std.proofs.lemmas.List.Elements.{All-nil, All-cons}
use Rattle.record_values.specs.Values.{Place}
use Rattle.records.specs.ChangeValue.{ChangeValue}
use Rattle.record_values.specs.GeometryValue.{GeometryValue}
use Rattle.record_values.specs.Orders.{rid_cmp, pair_cmp}
use Rattle.record_values.specs.Maps.{IsExact, set_at, rid_exact, pair_exact, nat_exact, key_is, get-set_at}
use Rattle.record_values.specs.declared.rid.TheConstants.{SLOTS_PER_PAGE}
use Rattle.record_values.specs.declared.txn.TheConstants.{TXNS_MAX}
use Rattle.records.specs.declared.change.TheConstants.{CHANGES_MAX}
use Rattle.record_values.specs.declared.row.Row.{Row}
use Rattle.record_values.specs.declared.pair.Pair.{Pair}
use Rattle.record_values.specs.declared.pair.Mark.{Mark}
use Rattle.model.specs.declared.life.Life.{Life}
use Rattle.model.specs.Table.{Table}
use Rattle.model.specs.Cells.{Cells, Pending, list_of, with_list}
use Rattle.model.specs.Following.{ArePlaced, IsAdmitted}
use Rattle.model.specs.Inside.{AreChangesWithin, IsLifeWithin}
use Rattle.model.proofs.InsideLaws.{entry_inside, life_inside, list_inside, nothing_inside, row_inside}
use Rattle.store_image_half.specs.Image.{no_cells}
use Rattle.store_image_half.specs.Source.{FitsImage}

-- ---- how many there are

at_most : (b : Bool) (n m : ℕ) → n < m → cond b n (n + 1) ≤ m
at_most true n m h = omega (arith, h)
at_most false n m h = omega (arith, h)

none_length : {K : Type 0} (X : Type 0) (R : K → K → Ordering) → length (entries (empty {X = X} {R = R})) ≡ 0
none_length X R = sym (len-entries (empty {X = X} {R = R})) ∙ len-empty R X

module _ {K X : Type 0} {R : K → K → Ordering} (o : IsExact R) where
  -- one more
  length_set : (m : FinMap R X) (k : K) (x : X) (n : ℕ) → length (entries m) < n → length (entries (insert m k x)) ≤ n
  length_set m k x n h =
      let less : len m < n = subst (λ l. l < n) (sym (len-entries m)) h in
      subst (λ l. l ≤ n) (sym (len-insert o.total m k x) ∙ len-entries (insert m k x)) (at_most (is_some (get m k)) (len m) n less)

  there : (o : Option X) → (o ≡ None → ⊥) → is_some o ≡ true
  there None some = absurd (some refl)
  there (Some x) some = refl

  -- one exchanged
  length_again : (m : FinMap R X) (k : K) (x : X) (n : ℕ) → (get m k ≡ None → ⊥) → length (entries m) ≤ n → length (entries (insert m k x)) ≤ n
  length_again m k x n some h =
      subst (λ l. l ≤ n) (sym (ap (λ b. cond b (len m) (len m + 1)) (there (get m k) some)) ∙ sym (len-insert o.total m k x) ∙ len-entries (insert m k x))
      (subst (λ l. l ≤ n) (sym (len-entries m)) h)

-- ---- a row

slot_set : (rows : Table) (k : Place) (x : Row) → k.slot < SLOTS_PER_PAGE → ((q : Place) (r : Row) → get rows q ≡ Some r → q.slot < SLOTS_PER_PAGE)
    → (q : Place) (r : Row) → get (set_at rows k (Some x)) q ≡ Some r → q.slot < SLOTS_PER_PAGE
slot_set rows k x slot is q r found = by_key (eq_by_cmp rid_cmp q k) refl
  where
    by_key : (b : Bool) → eq_by_cmp rid_cmp q k ≡ b → q.slot < SLOTS_PER_PAGE
    by_key true same = subst (λ (p : Place). p.slot < SLOTS_PER_PAGE) (sym (key_is rid_exact q k same)) slot
    by_key false other = is q r (sym (get-set_at rid_exact rows k (Some x) q ∙ ap (λ b. cond b (Some x) (get rows q)) other) ∙ found)

pub row_fits : (g : GeometryValue) (cells : Cells) (q : Place) (r : Row) → FitsImage g cells → q.page < g.pages → q.slot < SLOTS_PER_PAGE
    → FitsImage g (record cells { rows = set_at cells.rows q (Some r) })
row_fits g cells q r fits page slot = record {
  inside = row_inside g.pages cells q (Some r) page fits.inside;
  slots = slot_set cells.rows q r slot fits.slots;
  room = fits.room;
  txns = fits.txns;
  changes = fits.changes;
  placed = fits.placed;
}

-- ---- an entry

pub entry_fits : (g : GeometryValue) (cells : Cells) (p : Pair) (m : Mark) → FitsImage g cells → p.rid.page < g.pages
    → length (entries cells.entries) < g.entries → FitsImage g (record cells { entries = set_at cells.entries p (Some m) })
entry_fits g cells p m fits page room = record {
  inside = entry_inside g.pages cells p (Some m) page fits.inside;
  slots = fits.slots;
  room = length_set pair_exact cells.entries p m g.entries room;
  txns = fits.txns;
  changes = fits.changes;
  placed = fits.placed;
}

-- ---- a list

placed_within : (pages n : ℕ) (changes : List ChangeValue) → ArePlaced pages n changes → AreChangesWithin pages changes
placed_within pages n [] placed = All-nil (λ (c : ChangeValue). c.rid.page < pages)
placed_within pages n (c ∷ changes) placed = All-cons (λ (c : ChangeValue). c.rid.page < pages) c changes placed.1
    (placed_within pages (n + 1) changes placed.2)

-- what holds of this list and of the others holds of each
each_list : (P : List ChangeValue → Type 0) (pending : Pending) (txn : ℕ) (changes : List ChangeValue) → P changes → ((other : ℕ) → P (list_of pending other))
    → (other : ℕ) → P (list_of (with_list pending txn (Some changes)) other)
each_list P pending txn changes this others other =
    subst P (sym (ap (λ (o : Option (List ChangeValue)). unwrap_or o []) (get-set_at nat_exact pending txn (Some changes) other)))
    (by_key (eq_by_cmp nat_cmp other txn))
  where
    by_key : (b : Bool) → P (unwrap_or (cond b (Some changes) (get pending other)) [])
    by_key true = this
    by_key false = others other

txns_with : (pending : Pending) (txn : ℕ) (changes : List ChangeValue) → IsAdmitted pending txn → length (entries pending) ≤ TXNS_MAX
    → length (entries (with_list pending txn (Some changes))) ≤ TXNS_MAX
txns_with pending txn changes (inl had) few = length_again nat_exact pending txn changes TXNS_MAX had few
txns_with pending txn changes (inr less) few = length_set nat_exact pending txn changes TXNS_MAX less

pub list_fits : (g : GeometryValue) (cells : Cells) (txn : ℕ) (changes : List ChangeValue) → FitsImage g cells → IsAdmitted cells.pending txn
    → ArePlaced g.pages 0 changes → length changes ≤ CHANGES_MAX
    → FitsImage g (record cells { pending = with_list cells.pending txn (Some changes) })
list_fits g cells txn changes fits admitted placed few = record {
  slots = fits.slots;
  room = fits.room;
  inside = list_inside g.pages cells txn changes (placed_within g.pages 0 changes placed) fits.inside;
  txns = txns_with cells.pending txn changes admitted fits.txns;
  changes = each_list (λ list. length list ≤ CHANGES_MAX) cells.pending txn changes few fits.changes;
  placed = each_list (ArePlaced g.pages 0) cells.pending txn changes placed fits.placed;
}

-- ---- life, and no cells

pub life_fits : (g : GeometryValue) (cells : Cells) (life : Life) → FitsImage g cells → IsLifeWithin g.pages life → FitsImage g (record cells { life = life })
life_fits g cells life fits within = record {
  inside = life_inside g.pages cells life within fits.inside;
  slots = fits.slots;
  room = fits.room;
  txns = fits.txns;
  changes = fits.changes;
  placed = fits.placed;
}

no_list : (txn : ℕ) → list_of no_cells.pending txn ≡ []
no_list txn = ap (λ (o : Option (List ChangeValue)). unwrap_or o []) (get-empty nat_cmp txn)

pub nothing_fits : (g : GeometryValue) → FitsImage g no_cells
nothing_fits g = record {
  inside = nothing_inside g.pages;
  slots = λ q r is. absurd (none-some r (sym (get-empty rid_cmp q) ∙ is));
  room = omega (arith, none_length Mark pair_cmp);
  txns = omega (arith, none_length (List ChangeValue) nat_cmp);
  changes = λ txn. omega (arith, ap length (no_list txn));
  placed = λ txn. subst (ArePlaced g.pages 0) (sym (no_list txn)) tt;
}

-- The rows of a page, as they are taken from a range of the map.
use Rattle.std.proofs.Common.{◌≡◌, ◌⊎◌, ⊎_elim, inl, inr, ℕ, ◌<◌, ◌≤◌, Bool, true, false, cond, not, ◌&&◌, List, [], ◌∷◌, length, get_or, set, replicate}
use Rattle.std.proofs.Common.{Option, Some, None, arith, refl, sym, ap, ◌∙◌}
use Rattle.std.specs.declared.cmp.Ordering.{Ordering}
use Rattle.std.specs.declared.cmp.Ordering.TheVariants.{Less, Equal, Greater}
use Rattle.std.specs.Ordering.{nat_cmp, ordering_then, is_le, is_lt, is_gt}
use Rattle.std.specs.Cmp.{nat_cmp_is, nat_cmp_total, tied_itself}
use Rattle.std.specs.Map.{lookup}
use Rattle.std.specs.FinMap.{get, from_entries}
use Rattle.std.specs.declared.ops.Bound.{Bound}
use Rattle.std.specs.declared.ops.Bound.TheVariants.{Included}
use Rattle.std.specs.BTreeMap.{is_at}
use Rattle.std.specs.BTreeMap.Range.{entries_between, range_contains, IsInRange}
use Rattle.std.proofs.lemmas.Bool.{cases_eq}
use Rattle.std.proofs.lemmas.List.{get_or-replicate, get_or-set_other}
use Rattle.std.proofs.lemmas.Grind.{get_or-set_at}
use Rattle.std.proofs.lemmas.Map.Entries.{lookup-filter-keys}
use Rattle.std.proofs.lemmas.Map.Keys.{le_from_not_gt}
use Rattle.record_values.specs.Values.{Place}
use Rattle.record_values.specs.Orders.{rid_cmp}
use Rattle.record_values.specs.Maps.{rid_exact, key_is, other_key}
use Rattle.record_values.specs.declared.row.Row.{Row}
use Rattle.model.specs.Table.{Table}
use Rattle.model.proofs.MapLaws.{get-entries}

-- the place of a slot
abbrev pub place : ℕ → ℕ → Place
place page slot = record { page = page; slot = slot }

-- from the first slot of a page to its last
abbrev pub low : ℕ → Bound Place
low page = Included (place page 0)

abbrev pub high : ℕ → Bound Place
high page = Included (place page 62)

le_is : (a b : ℕ) → a ≤ b → is_le (nat_cmp a b) ≡ true
le_is a b h = ⊎_elim (λ (same : a ≡ b). ap is_le (sym (nat_cmp_is a b Equal same))) (λ other. ap is_le (sym (nat_cmp_is a b Less (omega (arith, h, other)))))
    (cases_eq a b)

not_lt_is : (a b : ℕ) → b ≤ a → is_lt (nat_cmp a b) ≡ false
not_lt_is a b h = ⊎_elim (λ (same : a ≡ b). ap is_lt (sym (nat_cmp_is a b Equal same))) (λ other.
    ap is_lt (sym (nat_cmp_is a b Greater (omega (arith, h, other))))) (cases_eq a b)

both : (a b : Bool) → a ≡ true → b ≡ false → (a && not b) ≡ true
both a b h k = ap (λ x. x && not b) h ∙ ap not k

-- each slot of the page lies between
between : (page slot : ℕ) → slot < 63 → range_contains rid_cmp (low page) (high page) (place page slot) ≡ true
between page slot h =
    let tied = tied_itself nat_cmp_total page in
    both _ _
    (ap (λ r. is_le (ordering_then r (nat_cmp 0 slot))) tied ∙ le_is 0 slot (omega (arith, h)))
    (ap (λ r. is_lt (ordering_then r (nat_cmp 62 slot))) tied ∙ not_lt_is 62 slot (omega (arith, h)))

first_le : (r s : Ordering) → is_gt (ordering_then r s) ≡ false → is_gt r ≡ false
first_le Less s h = refl
first_le Equal s h = refl
first_le Greater s h = h

-- and what lies between is of the page
page_is : (page : ℕ) (q : Place) → IsInRange rid_cmp (low page) (high page) q → q.page ≡ page
page_is page q h =
    let above = le_from_not_gt page q.page (first_le (nat_cmp page q.page) (nat_cmp 0 q.slot) h.0) in
    let below = le_from_not_gt q.page page (first_le (nat_cmp q.page page) (nat_cmp q.slot 62) h.1) in
    omega (arith, above, below)

-- what is found there among these entries
found : (es : List (Place × Row)) (page slot : ℕ) → slot < 63
    → lookup (is_at (rid_cmp (place page slot))) (entries_between rid_cmp (low page) (high page) es) ≡ lookup (is_at (rid_cmp (place page slot))) es
found es page slot h =
    lookup-filter-keys (is_at (rid_cmp (place page slot))) (range_contains rid_cmp (low page) (high page)) true
    (λ k at. ap (range_contains rid_cmp (low page) (high page)) (sym (key_is rid_exact (place page slot) k at)) ∙ between page slot h) es

-- The row of a slot is there, or comes with the entries that are left.
abbrev pub IsShown : Table → List (Place × Row) → List (Option Row) → Place → Type 0
IsShown m rest rows q = (get_or rows q.slot None ≡ get m q) ⊎ ((get_or rows q.slot None ≡ None) × (get m q ≡ lookup (is_at (rid_cmp q)) rest))

-- an entry of the page that is the table's
pub record IsRowOf (page : ℕ) (m : Table) (e : Place × Row) : Type 0 where
  pub page-is : e.0.page ≡ page
  pub there : get m e.0 ≡ Some e.1

pub row_of : (es : List (Place × Row)) (m : Table) (page : ℕ) (e : Place × Row) → from_entries es ≡ m → IsInRange rid_cmp (low page) (high page) e.0
    → lookup (is_at (rid_cmp e.0)) es ≡ Some e.1 → IsRowOf page m e
row_of es m page e is inside at = record {
  page-is = page_is page e.0 inside;
  there = ap (λ (t : Table). get t e.0) (sym is) ∙ get-entries rid_exact es e.0 ∙ at;
}

pub shown_first : (es : List (Place × Row)) (m : Table) (rest : List (Place × Row)) (page slot : ℕ) → from_entries es ≡ m
    → rest ≡ entries_between rid_cmp (low page) (high page) es → slot < 63
    → IsShown m rest (replicate 63 None) (place page slot)
shown_first es m rest page slot is left h = inr (
  get_or-replicate 63 slot None None h,
  ap (λ (t : Table). get t (place page slot)) (sym is) ∙ get-entries rid_exact es (place page slot) ∙ sym (found es page slot h)
      ∙ ap (lookup (is_at (rid_cmp (place page slot)))) (sym left),
)

same_place : (page slot : ℕ) (q : Place) → q.page ≡ page → slot ≡ q.slot → place page slot ≡ q
same_place page slot q p s i = record { page = sym p i; slot = s i }

pub shown_next : (m : Table) (e : Place × Row) (rest : List (Place × Row)) (rows : List (Option Row)) (page slot : ℕ) → IsRowOf page m e → slot < length rows
    → e.0.slot < length rows
    → IsShown m (e ∷ rest) rows (place page slot) → IsShown m rest (set rows e.0.slot (Some e.1)) (place page slot)
shown_next m e rest rows page slot row long fits was =
    let q = place page slot in
    ⊎_elim
    (λ (same : slot ≡ e.0.slot). inl (get_or-set_at rows e.0.slot slot (Some e.1) None same fits ∙ sym row.there
    ∙ ap (get m) (sym (same_place page slot e.0 row.page-is same))))
    (λ other.
    let stays = get_or-set_other rows e.0.slot slot (Some e.1) None other in
    let apart = other_key rid_exact q e.0 (λ is. other (ap (λ (x : Place). x.slot) is)) in
    ⊎_elim
    (λ (there : get_or rows slot None ≡ get m q). inl (stays ∙ there))
    (λ (later : (get_or rows slot None ≡ None) × (get m q ≡ lookup (is_at (rid_cmp q)) (e ∷ rest))).
    inr (stays ∙ later.0, later.1 ∙ ap (λ b. cond b (Some e.1) (lookup (is_at (rid_cmp q)) rest)) apart))
    was)
    (cases_eq slot e.0.slot)

pub shown_last : (m : Table) (rest : List (Place × Row)) (rows : List (Option Row)) (q : Place) → rest ≡ [] → IsShown m rest rows q
    → get_or rows q.slot None ≡ get m q
shown_last m rest rows q none was = ⊎_elim
    (λ (there : get_or rows q.slot None ≡ get m q). there)
    (λ (later : (get_or rows q.slot None ≡ None) × (get m q ≡ lookup (is_at (rid_cmp q)) rest)). later.0 ∙ sym (later.1 ∙ ap (lookup (is_at (rid_cmp q))) none))
    was

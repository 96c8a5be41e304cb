-- A chunk of entries as it grows.
use Rattle.std.proofs.Common.{◌≡◌, ◌≢◌, ◌⊎◌, inl, inr, ⊎_elim, ℕ, ◌+◌, ◌-◌, ◌<◌, ◌≤◌, Bool, true, false, get_or, cond, List, [], ◌∷◌, ◌++◌, length, Option}
use Rattle.std.proofs.Common.{Some, None, zero, suc, slice_get, refl, sym, ap, subst, ◌∙◌, arith, length-append}
use Rattle.std.proofs.lemmas.Option.{slice_get_cases, slice_get_past}
use Rattle.std.specs.FinMap.{empty, entries, entries-from_sorted, find, from_sorted, get, get-from_sorted, len-empty, len-entries}
use Rattle.std.specs.Ordering.{eq_by_cmp}
use Rattle.std.specs.declared.cmp.Ordering.TheVariants.{Less}
use Rattle.record_values.specs.Maps.{key_is, other_key, pair_exact, same_key}
use Rattle.record_values.specs.Orders.{pair_cmp}
use Rattle.record_values.specs.declared.pair.Mark.{Mark}
use Rattle.record_values.specs.declared.pair.Pair.{Pair}
use Rattle.record_values.specs.Entries.{Index}
use Rattle.store_image_model.specs.Partly.{joined}
use Rattle.store_image_model.specs.declared.chunk.TheConstants.{CHUNK_ENTRIES}
use Rattle.store_image_model.proofs.Ordered.{joined_entries}
use Rattle.store_image_model.proofs.Steps.{get_first, get_second}
use Rattle.btree_node.specs.Above.{IsLeastAbove}
use Rattle.core_parts.specs.View.{CoreValue}
use Rattle.core_copies.specs.Pieces.{AreEntriesOf}
use Rattle.core_copies.specs.Private.{unlisted}
use Rattle.core_copies.proofs.Copied.{AreUpTo, all_copied, below_up, none_copied, one_copied, past_none}

abbrev pub Entry : Type 0
Entry = Pair × Mark

-- ---- a list with one more

same_entry : (x y : Entry) → (◌≡◌ {A = Option Entry} (Some x) (Some y)) → x ≡ y
same_entry x y e = cc

no_mark : (m : Mark) → (◌≡◌ {A = Option Mark} None (Some m)) → ⊥
no_mark m e = absurd cc

no_entry : (x : Entry) → (◌≡◌ {A = Option Entry} None (Some x)) → ⊥
no_entry x e = absurd cc

pushed : (xs : List Entry) (x : Entry) (i : ℕ) (y : Entry) → slice_get (xs ++ x ∷ []) i ≡ Some y → (slice_get xs i ≡ Some y) ⊎ (y ≡ x)
pushed [] x zero y at = inr (sym (same_entry x y at))
pushed [] x (suc i) y at = absurd (no_entry y at)
pushed (z ∷ xs) x zero y at = inl at
pushed (z ∷ xs) x (suc i) y at = pushed xs x i y at

last_pushed : (xs : List Entry) (x : Entry) → slice_get (xs ++ x ∷ []) (length xs) ≡ Some x
last_pushed [] x = refl
last_pushed (z ∷ xs) x = last_pushed xs x

pub longer : (xs : List Entry) (x : Entry) (new : List Entry) → new ≡ xs ++ x ∷ [] → length new ≡ length xs + 1
longer xs x new is = ap length is ∙ length-append xs (x ∷ [])

pub no_more : {X : Type 0} (xs : List X) → length xs ≡ 0 → xs ≡ []
no_more [] e = refl
no_more (x ∷ xs) e = absurd (omega (arith, e))

-- these entries are those above one pair and up to another, the last of them
pub record AreCopied (all : Index) (above last : Option Pair) (items : List Entry) : Type 0 where
  pub more : Index
  pub listed : entries more ≡ items
  pub copied : AreUpTo all above last more
  pub within : (i : ℕ) (e : Entry) → slice_get items i ≡ Some e → get all e.0 ≡ Some e.1
  pub ends : (e : Entry) → slice_get items (length items - 1) ≡ Some e → last ≡ Some e.0

pub none_yet : (all : Index) (above : Option Pair) (items : List Entry) → items ≡ [] → AreCopied all above above items
none_yet all above items none = subst (AreCopied all above above) (sym none) (record {
  more = empty;
  listed = no_entries;
  copied = none_copied all above;
  within = λ i e at. absurd (no_entry e at);
  ends = λ e at. absurd (no_entry e at);
})
  where
    no_entries : entries (empty {X = Mark} {R = pair_cmp}) ≡ []
    no_entries = no_more (entries (empty {X = Mark} {R = pair_cmp})) (sym (len-entries (empty {X = Mark} {R = pair_cmp})) ∙ len-empty pair_cmp Mark)

module _ (all : Index) (above last : Option Pair) (items : List Entry) (h : AreCopied all above last items) (e : Entry)
    (least : IsLeastAbove all last (Some e)) where
  -- the map with only this entry
  abbrev single : Index
  single = from_sorted (e ∷ [])

  single_get : (p : Pair) → get single p ≡ find pair_cmp p (e ∷ [])
  single_get p = get-from_sorted pair_cmp (e ∷ []) p tt

  single_own : get single e.0 ≡ Some e.1
  single_own = single_get e.0 ∙ ap (λ b. cond b (Some e.1) None) (same_key pair_exact e.0)

  single_other : (p : Pair) → p ≢ e.0 → get single p ≡ None
  single_other p apart = single_get p ∙ ap (λ b. cond b (Some e.1) None) (other_key pair_exact p e.0 apart)

  single_is : (p : Pair) (m : Mark) → get single p ≡ Some m → p ≡ e.0
  single_is p m at = by (eq_by_cmp pair_cmp p e.0) refl (sym (single_get p) ∙ at)
    where
      by : (b : Bool) → eq_by_cmp pair_cmp p e.0 ≡ b → cond b (Some e.1) None ≡ Some m → p ≡ e.0
      by true is at = key_is pair_exact p e.0 is
      by false is at = absurd (no_mark m at)

  abbrev next : Index
  next = joined single h.more

  next_own : get next e.0 ≡ Some e.1
  next_own = get_first pair_exact single h.more e.0 (past_none all above last h.more h.copied e.0 least.0) ∙ single_own

  next_other : (p : Pair) → p ≢ e.0 → get next p ≡ get h.more p
  next_other p apart = get_second pair_exact single h.more p (single_other p apart)

  next_listed : entries next ≡ items ++ e ∷ []
  next_listed =
      joined_entries pair_exact h.more single (λ p q a b here there.
      subst (λ x. pair_cmp p x ≡ Less) (sym (single_is q b there)) (below_up all above last h.more h.copied p a here e.0 least.0))
      ∙ ap (λ xs. xs ++ entries single) h.listed
      ∙ ap (λ xs. items ++ xs) (entries-from_sorted pair_cmp (e ∷ []) tt)

  length_more : (items ++ e ∷ []) ≡ (items ++ e ∷ []) → length (items ++ e ∷ []) - 1 ≡ length items
  length_more same = omega (arith, length-append items (e ∷ []))

  pub one_more : (new : List Entry) → new ≡ items ++ e ∷ [] → AreCopied all above (Some e.0) new
  one_more new is = subst (AreCopied all above (Some e.0)) (sym is) (record {
    more = next;
    listed = next_listed;
    copied = one_copied all above last h.more h.copied e least next next_own next_other;
    within = λ i x at. ⊎_elim (λ old. h.within i x old) (λ same. subst (λ (y : Entry). get all y.0 ≡ Some y.1) (sym same) least.1) (pushed items e i x at);
    ends = λ x at. ap (λ (y : Entry). Some y.0) (same_entry e x (sym (last_pushed items e) ∙ ap (slice_get (items ++ e ∷ [])) (sym (length_more refl)) ∙ at));
  })

-- ---- as a chunk

module _ (v : CoreValue) (inside : (p : Pair) → get v.index.entries p ≢ None
    → p.rid.page < v.heap.pages) (above last : Option Pair) (items : List Entry) (h : AreCopied v.index.entries above last items) where
  some_mark : (m : Mark) → (◌≡◌ {A = Option Mark} (Some m) None) → ⊥
  some_mark m e = absurd cc

  are_inside : (i : ℕ) (e : Entry) → slice_get items i ≡ Some e → e.0.rid.page < v.heap.pages
  are_inside i e at = inside e.0 (λ none. some_mark e.1 (sym (h.within i e at) ∙ none))

  -- as many as a chunk takes
  pub full_chunk : length items ≡ CHUNK_ENTRIES → AreEntriesOf v (unlisted v) above items
  full_chunk many = record {
    more = h.more;
    listed = h.listed;
    most = omega (arith, many);
    full = λ e at. let ends : last ≡ Some e.0 = h.ends e (ap (λ n. slice_get items (n - 1)) many ∙ at) in
        let up : AreUpTo v.index.entries above (Some e.0) h.more = subst (λ (o : Option Pair). AreUpTo v.index.entries above o h.more) ends h.copied in
        record { further = up.further; there = up.there; below = up.below; past = up.past };
    rest = λ none. absurd (some_there none);
    inside = are_inside;
  }
    where
      some_there : slice_get items (CHUNK_ENTRIES - 1) ≡ None → ⊥
      some_there none = by (slice_get_cases items (CHUNK_ENTRIES - 1)).1
        where
          by : ((x : Entry) × (CHUNK_ENTRIES - 1 < length items) × (slice_get items (CHUNK_ENTRIES - 1) ≡ Some x) × (get_or items (CHUNK_ENTRIES - 1) x ≡ x))
              ⊎ ((length items ≤ CHUNK_ENTRIES - 1) × (slice_get items (CHUNK_ENTRIES - 1) ≡ None)) → ⊥
          by (inl some) = no_entry some.0 (sym none ∙ some.2)
          by (inr past) = absurd (omega (arith, many, past.0))

  -- all that are left
  pub last_chunk : length items < CHUNK_ENTRIES → IsLeastAbove v.index.entries last None → AreEntriesOf v (unlisted v) above items
  last_chunk few none = record {
    more = h.more;
    listed = h.listed;
    most = omega (arith, few);
    full = λ e at. absurd (no_entry e (sym (slice_get_past items (CHUNK_ENTRIES - 1) (omega (arith, few))) ∙ at));
    rest = λ past. record { there = λ p not. all_copied v.index.entries above last h.more h.copied none p not; below = h.copied.below };
    inside = are_inside;
  }

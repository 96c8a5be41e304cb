-- The places of the pairs of one key.
use Rattle.std.proofs.Common.{Contains, List, [], ap, append-nil, append_assoc, map, ◌++◌, refl, sym, true, ℕ, ◌&&◌, not, ◌∙◌, ◌∷◌, ◌≡◌}
use Rattle.std.proofs.lemmas.Bool.{false≢true}
use Rattle.std.specs.List.{AllByRecursion}
use Rattle.std.specs.List.Sorted.{IsStrictlySortedBy}
use Rattle.std.specs.Cmp.{tied_itself}
use Rattle.std.specs.Cmp.Lexicographic.{nat_list_cmp_total, slice_cmp}
use Rattle.std.specs.Ordering.{is_le, is_lt, nat_cmp, ordering_then}
use Rattle.std.specs.declared.cmp.Ordering.{Ordering}
use Rattle.std.specs.declared.cmp.Ordering.TheVariants.{Equal, Greater, Less}
use Rattle.record_values.specs.Orders.{pair_cmp, rid_cmp}
use Rattle.record_values.specs.Values.{Place}
use Rattle.record_values.specs.declared.pair.Pair.{Pair}
use Rattle.record_values.specs.Entries.{Index}
use Rattle.core_scan.proofs.Filtered.{has_first, has_later}
use Rattle.core_scan.specs.Ranges.{is_within}
use Rattle.core_scan.specs.Visible.{visible}
use Rattle.core_committed.proofs.Marks.{key_exact}
use Rattle.core_committed.specs.Committed.{only}

abbrev pub HaveKey : List ℕ → List Pair → Type 0
HaveKey key ps = AllByRecursion (λ (p : Pair). p.key ≡ key) ps

-- of two pairs of one key the places are in order as the pairs are
by_place : (key : List ℕ) (p q : Pair) → p.key ≡ key → q.key ≡ key → pair_cmp p q ≡ Less → rid_cmp p.rid q.rid ≡ Less
by_place key p q one other less =
    let tied = ap (λ (k : List ℕ). slice_cmp nat_cmp k q.key) (one ∙ sym other) ∙ tied_itself nat_list_cmp_total q.key in
    sym (ap (λ o. ordering_then o (rid_cmp p.rid q.rid)) tied) ∙ less

all_behind : (key : List ℕ) (p : Pair) (ps : List Pair) → p.key ≡ key → HaveKey key ps → AllByRecursion (λ q. pair_cmp p q ≡ Less) ps
    → AllByRecursion (λ r. rid_cmp p.rid r ≡ Less) (map (λ (q : Pair). q.rid) ps)
all_behind key p [] one keys less = tt
all_behind key p (q ∷ ps) one keys less = (by_place key p q one keys.0 less.0, all_behind key p ps one keys.1 less.1)

places_ascend : (key : List ℕ) (ps : List Pair) → HaveKey key ps → IsStrictlySortedBy pair_cmp ps
    → IsStrictlySortedBy rid_cmp (map (λ (q : Pair). q.rid) ps)
unfolding IsStrictlySortedBy
places_ascend key [] keys sorted = tt
places_ascend key (p ∷ ps) keys sorted = (all_behind key p ps keys.0 keys.1 sorted.0, places_ascend key ps keys.1 sorted.1)

-- ---- what a range of one key has

only_key : (key k : List ℕ) → is_within (only key) k ≡ true → k ≡ key
only_key key k within = by (slice_cmp nat_cmp key k) refl within
  where
    by : (o : Ordering) → slice_cmp nat_cmp key k ≡ o → (is_le o && not (is_lt o)) ≡ true → k ≡ key
    by Less is within = absurd (false≢true within)
    by Equal is within = sym (key_exact.only_equal key k is)
    by Greater is within = absurd (false≢true within)

each_by : (P : Pair → Type 0) (ps : List Pair) → ((p : Pair) → Contains ps p → P p) → AllByRecursion P ps
each_by P [] each = tt
each_by P (p ∷ ps) each = (each p (has_first p ps), each_by P ps (λ q later. each q (has_later p ps q later)))

pub places_of_key : (index : Index) (key : List ℕ) → IsStrictlySortedBy pair_cmp (visible index (only key))
    → ((p : Pair) → Contains (visible index (only key)) p → is_within (only key) p.key ≡ true)
    → IsStrictlySortedBy rid_cmp (map (λ (q : Pair). q.rid) (visible index (only key)))
places_of_key index key sorted within = places_ascend key (visible index (only key))
    (each_by (λ (p : Pair). p.key ≡ key) (visible index (only key)) (λ p shown. only_key key p.key (within p shown))) sorted

-- ---- places that are listed one after the other

abbrev pub rids_of : List Pair → List Place
rids_of ps = map (λ (p : Pair). p.rid) ps

pub none_placed : (all left : List Pair) (rids : List Place) → left ≡ all → rids ≡ [] → rids_of all ≡ rids ++ rids_of left
none_placed all left rids is none = ap rids_of (sym is) ∙ ap (λ (rs : List Place). rs ++ rids_of left) (sym none)

pub one_placed : (all left rest : List Pair) (p : Pair) (rids new : List Place) → rids_of all ≡ rids ++ rids_of left → left ≡ p ∷ rest
    → new ≡ rids ++ p.rid ∷ [] → rids_of all ≡ new ++ rids_of rest
one_placed all left rest p rids new so_far first is =
    so_far ∙ ap (λ (ps : List Pair). rids ++ rids_of ps) first ∙ sym (append_assoc rids (p.rid ∷ []) (rids_of rest))
    ∙ ap (λ (rs : List Place). rs ++ rids_of rest) (sym is)

pub all_placed : (all left : List Pair) (rids : List Place) → rids_of all ≡ rids ++ rids_of left → left ≡ [] → rids ≡ rids_of all
all_placed all left rids so_far none = sym (so_far ∙ ap (λ (ps : List Pair). rids ++ rids_of ps) none ∙ append-nil rids)

-- Keys of rows, the pairs that a change moves, and the pairs of a page.
use Rattle.std.proofs.Common.{Bool, List, None, Option, Some, [], ap, cond, false, inl, inr, nat_eq, refl, sym, true, true≢false}
use Rattle.std.proofs.Common.{ℕ, ◌&&◌, ◌||◌, ◌∙◌, ◌∷◌, ◌≡◌, ◌≢◌, ◌⊎◌}
use Rattle.std.specs.Cmp.Lexicographic.{nat_list_cmp_total, slice_cmp}
use Rattle.std.specs.FinMap.{entries, find, get, get-entries, nat_cmp-IsAntisymmetric, slice_cmp-IsAntisymmetric}
use Rattle.std.specs.Ordering.{eq_by_cmp, nat_cmp}
use Rattle.record_values.specs.Maps.{get-set_at_other, get-set_at_same, rid_exact, set_at}
use Rattle.record_values.specs.Orders.{pair_cmp, pair_cmp-IsAntisymmetric, pair_cmp_total, rid_cmp, rid_cmp-IsAntisymmetric}
use Rattle.record_values.specs.Values.{Place}
use Rattle.record_values.specs.declared.pair.Pair.{Pair}
use Rattle.record_values.specs.declared.row.Row.{Row}
use Rattle.model.specs.Pairs.{gone, pair_of, same_key}
use Rattle.model.specs.Table.{Table}
use Rattle.core_model.proofs.Laws.{Gone, by_test, gone_is, level, not_none, rid_decided, same_some}
use Rattle.online_model.specs.World.{is_among, is_pair_of, is_put_due}
use Rattle.core_as_host.specs.Hosting.{key_of}

-- ---- tests
pub pair_by_test : (o : Option (List ℕ)) (p : Pair) → is_pair_of o p ≡ true → o ≡ Some p.key
pair_by_test None p t = absurd (true≢false (sym t))
pair_by_test (Some key) p t = ap Some (by_test (slice_cmp-IsAntisymmetric nat_cmp-IsAntisymmetric) key p.key t)

pub test_by_pair : (o : Option (List ℕ)) (p : Pair) → o ≡ Some p.key → is_pair_of o p ≡ true
test_by_pair o p e = ap (λ v. is_pair_of v p) e ∙ level nat_list_cmp_total p.key

-- ---- a table of which one row is set
module _ (rows : Table) (r : Place) (row : Option Row) where
  pub set_here : key_of (get (set_at rows r row) r) ≡ key_of row
  set_here = ap key_of (get-set_at_same rid_exact rows r row)

  pub set_apart : (q : Place) → q ≢ r → key_of (get (set_at rows r row) q) ≡ key_of (get rows q)
  set_apart q n = ap key_of (get-set_at_other rid_exact rows r row q n)

  -- the keys are as they were, where the row has the same key
  pub set_same : key_of row ≡ key_of (get rows r) → (q : Place) → key_of (get (set_at rows r row) q) ≡ key_of (get rows q)
  set_same e q = elim (rid_decided q r) [
    | inl same ↦ ap (λ x. key_of (get (set_at rows r row) x)) same ∙ set_here ∙ e ∙ ap (λ x. key_of (get rows x)) (sym same)
    | inr n ↦ set_apart q n
  ]

-- ---- the pair that goes as a row is replaced
pub gone_key : (indexed : Bool) (r : Place) (row other : Option Row) (p : Pair) → gone indexed r row other ≡ Some p
    → (p.rid ≡ r) × (key_of row ≡ Some p.key)
gone_key indexed r row other p e =
    let g : Gone indexed r row p = gone_is indexed r row other p e in
    (ap (λ (q : Pair). q.rid) g.pair, ap key_of g.is ∙ ap (λ (q : Pair). Some q.key) (sym g.pair))

same_by : (a b : Row) (t : Bool) → same_key a b ≡ t → (p : Pair) (r : Place) → cond t None (Some (pair_of r a)) ≡ Some p → a.key ≢ b.key
same_by a b true k p r e n = not_none e refl
same_by a b false k p r e n =
    true≢false (sym (ap (λ key. eq_by_cmp (slice_cmp nat_cmp) a.key key) (sym n) ∙ level nat_list_cmp_total a.key) ∙ k)

some_keys : {a b : List ℕ} → Some a ≡ Some b → a ≡ b
some_keys e = cc

-- a pair goes only where the key changes
pub gone_apart : (indexed : Bool) (r : Place) (row other : Option Row) (p : Pair) → gone indexed r row other ≡ Some p → key_of row ≢ key_of other
gone_apart false r row other p e n = not_none e refl
gone_apart true r None other p e n = not_none e refl
gone_apart true r (Some row) None p e n = not_none (sym n) refl
gone_apart true r (Some row) (Some other) p e n = same_by row other (same_key row other) refl p r e (some_keys n)

none_by : (a b : Row) (t : Bool) → same_key a b ≡ t → (r : Place) → cond t None (Some (pair_of r a)) ≡ None → a.key ≡ b.key
none_by a b true k r e = by_test (slice_cmp-IsAntisymmetric nat_cmp-IsAntisymmetric) a.key b.key k
none_by a b false k r e = absurd (not_none refl e)

-- none goes where there was no row, or the key stays
pub gone_none : (r : Place) (row other : Option Row) → gone true r row other ≡ None → (key_of row ≡ None) ⊎ (key_of row ≡ key_of other)
gone_none r None other e = inl refl
gone_none r (Some row) None e = absurd (not_none refl e)
gone_none r (Some row) (Some other) e = inr (ap Some (none_by row other (same_key row other) refl r e))

pub no_put : (o : Option (List ℕ)) → o ≡ None → is_put_due o ≡ true → ⊥
no_put o e due = true≢false (sym due ∙ ap is_put_due e)

-- ---- the pairs of a page
abbrev chosen : (Pair → Bool) → List Pair → List Pair
chosen f [] = []
chosen f (p ∷ ps) = cond (f p) (p ∷ chosen f ps) (chosen f ps)

abbrev all_pairs : List (Place × Row) → List Pair
all_pairs [] = []
all_pairs (e ∷ es) = pair_of e.0 e.1 ∷ all_pairs es

one_of : (a b : Bool) → (a || b) ≡ true → (a ≡ true) ⊎ (b ≡ true)
one_of true b e = inl refl
one_of false b e = inr e

or_first : (a b : Bool) → a ≡ true → (a || b) ≡ true
or_first true b e = refl
or_first false b e = absurd (true≢false (sym e))

or_second : (a b : Bool) → b ≡ true → (a || b) ≡ true
or_second true b e = refl
or_second false b e = e

alike : (a b : Bool) → (a ≡ true → b ≡ true) → (b ≡ true → a ≡ true) → a ≡ b
alike true b f g = sym (f refl)
alike false true f g = g refl
alike false false f g = refl

module _ (f : Pair → Bool) (p : Pair) where
  kept_only : (q : Pair) (b : Bool) (ps : List Pair) → f q ≡ b → (is_among p ps ≡ true → f p ≡ true) → is_among p (cond b (q ∷ ps) ps) ≡ true → f p ≡ true
  kept_only q false ps e rest h = rest h
  kept_only q true ps e rest h = elim (one_of (eq_by_cmp pair_cmp p q) (is_among p ps) h) [
    | inl here ↦ ap f (by_test pair_cmp-IsAntisymmetric p q here) ∙ e
    | inr there ↦ rest there
  ]

  chosen_only : (ps : List Pair) → is_among p (chosen f ps) ≡ true → f p ≡ true
  chosen_only [] h = absurd (true≢false (sym h))
  chosen_only (q ∷ ps) h = kept_only q (f q) (chosen f ps) refl (chosen_only ps) h

  kept_all : (q : Pair) (b : Bool) (ps : List Pair) → f q ≡ b → f p ≡ true → (eq_by_cmp pair_cmp p q ≡ true) ⊎ (is_among p ps ≡ true)
      → is_among p (cond b (q ∷ ps) ps) ≡ true
  kept_all q false ps e t (inl here) = absurd (true≢false (sym t ∙ ap f (by_test pair_cmp-IsAntisymmetric p q here) ∙ e))
  kept_all q false ps e t (inr there) = there
  kept_all q true ps e t (inl here) = or_first (eq_by_cmp pair_cmp p q) (is_among p ps) here
  kept_all q true ps e t (inr there) = or_second (eq_by_cmp pair_cmp p q) (is_among p ps) there

  chosen_all : (ps : List Pair) → is_among p ps ≡ true → f p ≡ true → is_among p (chosen f ps) ≡ true
  chosen_all [] h t = absurd (true≢false (sym h))
  chosen_all (q ∷ ps) h t = kept_all q (f q) (chosen f ps) refl t (elim (one_of (eq_by_cmp pair_cmp p q) (is_among p ps) h) [
    | inl here ↦ inl here
    | inr there ↦ inr (chosen_all ps there t)
  ])

itself : (r : Place) (row : Row) (e : Place × Row) → r ≡ e.0 → row ≡ e.1 → eq_by_cmp pair_cmp (pair_of r row) (pair_of e.0 e.1) ≡ true
itself r row e here is = ap (λ q. eq_by_cmp pair_cmp q (pair_of e.0 e.1)) (λ i. pair_of (here i) (is i)) ∙ level pair_cmp_total (pair_of e.0 e.1)

found_by : (r : Place) (row : Row) (e : Place × Row) (es : List (Place × Row)) (b : Bool) → eq_by_cmp rid_cmp r e.0 ≡ b
    → cond b (Some e.1) (find rid_cmp r es) ≡ Some row → (find rid_cmp r es ≡ Some row → is_among (pair_of r row) (all_pairs es) ≡ true)
    → is_among (pair_of r row) (all_pairs (e ∷ es)) ≡ true
found_by r row e es true t is rest =
    or_first (eq_by_cmp pair_cmp (pair_of r row) (pair_of e.0 e.1)) _ (itself r row e (by_test rid_cmp-IsAntisymmetric r e.0 t) (same_some is refl))
found_by r row e es false t is rest = or_second (eq_by_cmp pair_cmp (pair_of r row) (pair_of e.0 e.1)) _ (rest is)

found_among : (r : Place) (row : Row) (es : List (Place × Row)) → find rid_cmp r es ≡ Some row → is_among (pair_of r row) (all_pairs es) ≡ true
found_among r row [] e = absurd (not_none e refl)
found_among r row (x ∷ es) e = found_by r row x es (eq_by_cmp rid_cmp r x.0) refl e (found_among r row es)

module _ (rows : Table) (n : ℕ) where
  abbrev pub is_on_page : Pair → Bool
  is_on_page p = nat_eq p.rid.page n && is_pair_of (key_of (get rows p.rid)) p

  abbrev pub page_pairs : List Pair
  page_pairs = chosen is_on_page (all_pairs (entries rows))

  its_row : (p : Pair) (o : Option Row) → get rows p.rid ≡ o → is_pair_of (key_of o) p ≡ true → is_among p (all_pairs (entries rows)) ≡ true
  its_row p None e t = absurd (true≢false (sym t))
  its_row p (Some row) e t =
      let key : row.key ≡ p.key = some_keys (pair_by_test (Some row.key) p t) in
      let is : pair_of p.rid row ≡ p = λ i. record { key = key i; rid = p.rid } in
      ap (λ q. is_among q (all_pairs (entries rows))) (sym is) ∙ found_among p.rid row (entries rows) (sym (get-entries rows p.rid) ∙ e)

  second_of : (a b : Bool) → (a && b) ≡ true → b ≡ true
  second_of true b e = e
  second_of false b e = absurd (true≢false (sym e))

  pub on_page : (p : Pair) → is_among p page_pairs ≡ is_on_page p
  on_page p = alike _ _ (chosen_only is_on_page p (all_pairs (entries rows)))
      (λ t. chosen_all is_on_page p (all_pairs (entries rows)) (its_row p (get rows p.rid) refl (second_of (nat_eq p.rid.page n) _ t)) t)

-- The entries of two maps together, where those of one are below those of the other.
use Rattle.std.proofs.Common.{◌≡◌, ◌≢◌, ⊎_elim, ℕ, Bool, true, false, cond, ◌&&◌, List, [], ◌∷◌, ◌++◌, Option, Some, None, is_some, refl, sym, ap, subst, ◌∙◌}
use Rattle.std.proofs.lemmas.Bool.{false≢true}
use Rattle.std.specs.Prelude.{T}
use Rattle.std.specs.FinMap as finite
use Rattle.std.specs.FinMap.{FinMap, find, from_sorted, get-from_sorted, entries-from_sorted, entries_sorted}
use Rattle.std.specs.FinMap.Entries.{is_sorted, below_all}
use Rattle.std.specs.Ordering.{eq_by_cmp, is_lt, ordering_reverse}
use Rattle.std.specs.Cmp.{tied_itself}
use Rattle.std.specs.declared.cmp.Ordering.{Ordering}
use Rattle.std.specs.declared.cmp.Ordering.TheVariants.{Less, Equal, Greater}
use Rattle.record_values.specs.Maps.{IsExact, same_key, alike, pair_exact}
use Rattle.record_values.specs.Orders.{pair_cmp}
use Rattle.records.specs.RecordValue.{RecordValue}
use Rattle.record_values.specs.declared.pair.Pair.{Pair}
use Rattle.record_values.specs.declared.pair.Mark.{Mark}
use Rattle.model.specs.Table.{Table}
use Rattle.record_values.specs.Entries.{Index}
use Rattle.model.specs.Cells.{Cells}
use Rattle.store_image_model.specs.Partly.{IsUpTo, joined, IsPartlyCopied, AreNextEntries, AreLastEntries}
use Rattle.store_image_model.proofs.Steps.{or_else, get-joined, up_to_or_not}

both : (a b : Bool) → T a → T b → T (a && b)
both true b h k = k
both false b h k = absurd h

first : (a b : Bool) → T (a && b) → T a
first true b h = tt
first false b h = h

second : (a b : Bool) → T (a && b) → T b
second true b h = h
second false b h = absurd h

-- a value that is there
value : {X : Type 0} (x : Option X) → is_some x ≡ true → (v : X) × (x ≡ Some v)
value (Some v) there = (v, refl)
value None there = absurd (false≢true there)

module _ {K X : Type 0} {R : K → K → Ordering} (o : IsExact R) where
  head_there : (e : K × X) (es : List (K × X)) → is_some (find R e.0 (e ∷ es)) ≡ true
  head_there e es = ap (λ b. is_some (cond b (Some e.1) (find R e.0 es))) (same_key o e.0)

  tail_there : (e : K × X) (es : List (K × X)) (q : K) → is_some (find R q es) ≡ true → is_some (find R q (e ∷ es)) ≡ true
  tail_there e es q there = by (eq_by_cmp R q e.0)
    where
      by : (b : Bool) → is_some (cond b (Some e.1) (find R q es)) ≡ true
      by true = refl
      by false = there

  -- a key that is below each key of the list
  below_each : (k : K) (es : List (K × X)) → ((q : K) → is_some (find R q es) ≡ true → R k q ≡ Less) → T (below_all R k es)
  below_each k [] below = tt
  below_each k (e ∷ es) below =
      both _ _ (subst (λ r. T (is_lt r)) (sym (below e.0 (head_there e es))) tt) (below_each k es (λ q there. below q (tail_there e es q there)))

  below_both : (k : K) (es fs : List (K × X)) → T (below_all R k es) → T (below_all R k fs) → T (below_all R k (es ++ fs))
  below_both k [] fs here there = there
  below_both k (e ∷ es) fs here there = both _ _ (first _ _ here) (below_both k es fs (second _ _ here) there)

  in_order : (es fs : List (K × X)) → T (is_sorted R es) → T (is_sorted R fs)
      → ((p q : K) → is_some (find R p es) ≡ true → is_some (find R q fs) ≡ true → R p q ≡ Less) → T (is_sorted R (es ++ fs))
  in_order [] fs low high apart = high
  in_order (e ∷ es) fs low high apart =
      both _ _ (below_both e.0 es fs (first _ _ low) (below_each e.0 fs (λ q. apart e.0 q (head_there e es))))
      (in_order es fs (second _ _ low) high (λ p q there. apart p q (tail_there e es p there)))

  either_way : (x y : Option X) → (is_some x ≡ true → is_some y ≡ true → ⊥) → or_else x y ≡ or_else y x
  either_way None None apart = refl
  either_way None (Some y) apart = refl
  either_way (Some x) None apart = refl
  either_way (Some x) (Some y) apart = absurd (apart refl refl)

  -- the lower map's entries come first
  pub joined_entries : (m n : FinMap R X) → ((p q : K) (a b : X) → finite.get m p ≡ Some a → finite.get n q ≡ Some b → R p q ≡ Less)
      → finite.entries (joined n m) ≡ finite.entries m ++ finite.entries n
  joined_entries m n apart =
      let es = finite.entries m ++ finite.entries n in
      let below : (p q : K) → is_some (finite.get m p) ≡ true → is_some (finite.get n q) ≡ true
      → R p q ≡ Less = λ p q here there. let one = value (finite.get m p) here in let two = value (finite.get n q) there in
      apart p q one.0 two.0 one.1 two.1 in
      let sorted : T (is_sorted R es) = in_order (finite.entries m) (finite.entries n) (entries_sorted m) (entries_sorted n)
      (λ p q here there. below p q (ap is_some (finite.get-entries m p) ∙ here) (ap is_some (finite.get-entries n q) ∙ there)) in
      ap finite.entries (alike o (joined n m) (from_sorted es) (λ q.
      get-joined o n m q
      ∙ either_way (finite.get n q) (finite.get m q) (λ there here. false≢true (ap is_lt (sym (tied_itself o.total q)) ∙ ap is_lt (below q q here there)))
      ∙ sym (get-joined o m n q)
      ∙ finite.get-from_entries o.total es q
      ∙ sym (get-from_sorted R es q sorted)))
      ∙ entries-from_sorted R es sorted

-- ---- entries above those that were copied

-- what is past a pair is above what is up to it
beyond : (highest : Option Pair) (low high : Pair) → IsUpTo highest low → ¬ IsUpTo highest high → pair_cmp low high ≡ Less
beyond None low high up past = absurd up
beyond (Some h) low high up past = by (pair_cmp low h) refl
  where
    greater : (r : Ordering) → pair_cmp high h ≡ r → r ≡ Greater
    greater Less is = absurd (past (λ g. let no : Less ≡ Greater = sym is ∙ g in cc))
    greater Equal is = absurd (past (λ g. let no : Equal ≡ Greater = sym is ∙ g in cc))
    greater Greater is = refl

    above : pair_cmp h high ≡ Less
    above = pair_exact.total.antisymm h high ∙ ap ordering_reverse (greater (pair_cmp high h) refl)

    by : (r : Ordering) → pair_cmp low h ≡ r → pair_cmp low high ≡ Less
    by Less is = pair_exact.total.trans low h high is above
    by Equal is = pair_exact.total.congr low h high is ∙ above
    by Greater is = absurd (up is)

-- entries of which none is past a pair, and others of which each is
joined_past : (highest : Option Pair) (entries more : Index) → ((pair : Pair) → ¬ IsUpTo highest pair → finite.get entries pair ≡ None)
    → ((pair : Pair) → IsUpTo highest pair → finite.get more pair ≡ None)
    → finite.entries (joined more entries) ≡ finite.entries entries ++ finite.entries more
joined_past highest entries more rest below = joined_entries pair_exact entries more (λ low high a b here there.
    beyond highest low high (up low a here) (λ is. none_some b (sym (below high is) ∙ there)))
  where
    none_some : {X : Type 0} (x : X) → None ≢ Some x
    none_some x is = false≢true (ap is_some is)

    up : (low : Pair) (a : Mark) → finite.get entries low ≡ Some a → IsUpTo highest low
    up low a here = ⊎_elim (λ is. is) (λ past. absurd (none_some a (sym (rest low past) ∙ here))) (up_to_or_not highest low)

pub joined_next : (cells now : Cells) (log : List RecordValue) (m pages : ℕ) (above highest : Option Pair) (rows : Table) (entries more : Index)
    → IsPartlyCopied cells log m pages above rows entries → AreNextEntries now above highest more
    → finite.entries (joined more entries) ≡ finite.entries entries ++ finite.entries more
joined_next cells now log m pages above highest rows entries more is next = joined_past above entries more is.entries-rest next.below

pub joined_last : (cells now : Cells) (log : List RecordValue) (m pages : ℕ) (above : Option Pair) (rows : Table) (entries more : Index)
    → IsPartlyCopied cells log m pages above rows entries → AreLastEntries now above more
    → finite.entries (joined more entries) ≡ finite.entries entries ++ finite.entries more
joined_last cells now log m pages above rows entries more is last = joined_past above entries more is.entries-rest last.below

-- The list of a key's live places, as far as a walk over its entries has come.
use Rattle.std.proofs.Common.{◌≡◌, ℕ, ◌+◌, ◌<◌, ◌≤◌, Bool, true, false, cond, not, List, [], ◌∷◌, ◌++◌, Option, Some, None, Contains, ◌⊎◌, inl, inr, refl, sym}
use Rattle.std.proofs.Common.{ap, subst, ◌∙◌, arith, get_or}
use Rattle.std.proofs.lemmas.List.Elements.{Contains-get_or, Contains-push, Contains-append_left, Contains-push_cases}
use Rattle.std.proofs.lemmas.List.Quantifiers.{all_pairs_push}
use Rattle.std.proofs.lemmas.Cmp.{tied_itself}
use Rattle.std.specs.FinMap as map
use Rattle.std.specs.List.{AllPairs}
use Rattle.std.specs.declared.cmp.Ordering.{Ordering}
use Rattle.std.specs.declared.cmp.Ordering.TheVariants.{Less, Equal, Greater}
use Rattle.std.specs.Ordering.{is_lt, is_eq, ordering_reverse}
use Rattle.record_values.specs.Values.{Place}
use Rattle.record_values.specs.Orders.{rid_cmp, rid_cmp_total, rid_cmp-IsAntisymmetric, pair_cmp, pair_cmp_total, pair_cmp-IsAntisymmetric}
use Rattle.record_values.specs.declared.pair.Pair.{Pair}
use Rattle.record_values.specs.declared.pair.Mark.{Mark}
use Rattle.record_values.specs.declared.pair.Mark.TheVariants.{Live}
use Rattle.record_values.specs.Entries.{Index}
use Rattle.marked_index.specs.Shown.{mark_at, IsAfter, IsNextOf}
use Rattle.marked_index.proofs.Places.{pair_at, pair_cmp-one_key}

-- r comes before the next entry, and every place does where there is none
abbrev pub IsBefore : Option (Place × Mark) → Place → Type 0
IsBefore None r = Unit {0}
IsBefore (Some e) r = rid_cmp r e.0 ≡ Less

-- the next entry of the key, if there is one, is an entry
abbrev pub IsEntry : Index → List ℕ → Option (Place × Mark) → Type 0
IsEntry m key None = Unit {0}
IsEntry m key (Some e) = mark_at m key e.0 ≡ Some e.1

abbrev pub IsAscending : List Place → Type 0
IsAscending rids = AllPairs (λ r s. rid_cmp r s ≡ Less) rids

-- the list has the live places before the next entry
pub record IsListed (m : Index) (key : List ℕ) (next : Option (Place × Mark)) (rids : List Place) : Type 0 where
  pub entry : IsEntry m key next
  pub ascending : IsAscending rids
  pub before : (r : Place) → Contains rids r → IsBefore next r
  pub live : (r : Place) → Contains rids r → mark_at m key r ≡ Some Live
  pub all : (r : Place) → mark_at m key r ≡ Some Live → IsBefore next r → Contains rids r

entry_of : (m : Index) (key : List ℕ) (start : Option Place) (next : Option (Place × Mark)) → IsNextOf m key start next → IsEntry m key next
entry_of m key start None h = tt
entry_of m key start (Some e) h = h.1

-- no live place lies between the start and the next entry
none_between : (m : Index) (key : List ℕ) (start : Option Place) (next : Option (Place × Mark)) (r : Place) → IsNextOf m key start next → IsAfter start r
    → IsBefore next r → mark_at m key r ≡ Some Live → ⊥
none_between m key start None r h after before live = absurd (cc (h r after, live))
none_between m key start (Some e) r h after before live = absurd (cc (h.2 r after before, live))

none_in : (r : Place) → Contains [] r → ⊥
none_in r h = absurd (omega (arith, h.1))

pub listed_none : (m : Index) (key : List ℕ) (next : Option (Place × Mark)) (rids : List Place) → IsNextOf m key None next → rids ≡ []
    → IsListed m key next rids
listed_none m key next rids h e = subst (IsListed m key next) (sym e) (record {
  entry = entry_of m key None next h;
  ascending = λ i j d _ short. absurd (omega (arith, short));
  before = λ r found. absurd (none_in r found);
  live = λ r found. absurd (none_in r found);
  all = λ r live before. absurd (none_between m key None next r h tt before live);
})

-- ---- one entry further

before_next : (m : Index) (key : List ℕ) (rid : Place) (next : Option (Place × Mark)) (r : Place) → IsNextOf m key (Some rid) next → (r ≡ rid)
    ⊎ (rid_cmp r rid ≡ Less) → IsBefore next r
before_next m key rid None r h o = tt
before_next m key rid (Some e) r h (inl is) = ap (λ (q : Place). rid_cmp q e.0) is ∙ h.0
before_next m key rid (Some e) r h (inr below) = rid_cmp_total.trans r rid e.0 below h.0

data Side (r s : Place) : Type 0 where
  before : rid_cmp r s ≡ Less → Side r s
  same : r ≡ s → Side r s
  after : rid_cmp s r ≡ Less → Side r s

side_by : (r s : Place) (o : Ordering) → rid_cmp r s ≡ o → Side r s
side_by r s Less e = before e
side_by r s Equal e = same (rid_cmp-IsAntisymmetric r s e)
side_by r s Greater e = after (rid_cmp_total.antisymm s r ∙ ap ordering_reverse e)

side : (r s : Place) → Side r s
side r s = side_by r s (rid_cmp r s) refl

module _ (m : Index) (key : List ℕ) (rid : Place) (next : Option (Place × Mark)) (rids : List Place) (step : IsNextOf m key (Some rid) next) where
  all_before : (x : Mark) → IsListed m key (Some (rid, x)) rids → (r : Place) → mark_at m key r ≡ Some Live → IsBefore next r → Side r rid → Contains rids r
      ⊎ (r ≡ rid)
  all_before x h r live ahead (before e) = inl (h.all r live e)
  all_before x h r live ahead (same e) = inr e
  all_before x h r live ahead (after e) = absurd (none_between m key (Some rid) next r step e ahead live)

  not_live : (x : Mark) → mark_at m key rid ≡ Some x → (x ≡ Live → ⊥) → (r : Place) → mark_at m key r ≡ Some Live → Contains rids r ⊎ (r ≡ rid)
      → Contains rids r
  not_live x entry dead r live (inl found) = found
  not_live x entry dead r live (inr is) = absurd (dead (cc (ap (mark_at m key) is, entry, live)))

  -- a marked entry is passed over
  pub listed_marked : (x : Mark) → IsListed m key (Some (rid, x)) rids → (x ≡ Live → ⊥) → IsListed m key next rids
  listed_marked x h dead = record {
    entry = entry_of m key (Some rid) next step;
    ascending = h.ascending;
    before = λ r found. before_next m key rid next r step (inr (h.before r found));
    live = h.live;
    all = λ r live ahead. not_live x h.entry dead r live (all_before x h r live ahead (side r rid));
  }

  ahead_of : (x : Mark) → IsListed m key (Some (rid, x)) rids → (r : Place) → Contains rids r ⊎ (rid ≡ r) → IsBefore next r
  ahead_of x h r (inl found) = before_next m key rid next r step (inr (h.before r found))
  ahead_of x h r (inr is) = before_next m key rid next r step (inl (sym is))

  live_of : IsListed m key (Some (rid, Live)) rids → (r : Place) → Contains rids r ⊎ (rid ≡ r) → mark_at m key r ≡ Some Live
  live_of h r (inl found) = h.live r found
  live_of h r (inr is) = ap (mark_at m key) (sym is) ∙ h.entry

  listed_of : (r : Place) → Contains rids r ⊎ (r ≡ rid) → Contains (rids ++ rid ∷ []) r
  listed_of r (inl found) = Contains-append_left rids (rid ∷ []) r found
  listed_of r (inr is) = subst (Contains (rids ++ rid ∷ [])) (sym is) (Contains-push rids rid)

  -- a live one is put at the end
  pub listed_live : (x : Mark) → IsListed m key (Some (rid, x)) rids → x ≡ Live → IsListed m key next (rids ++ rid ∷ [])
  listed_live x h is = let k : IsListed m key (Some (rid, Live)) rids = subst (λ (y : Mark). IsListed m key (Some (rid, y)) rids) is h in record {
    entry = entry_of m key (Some rid) next step;
    ascending = all_pairs_push (λ r s. rid_cmp r s ≡ Less) rids rid h.ascending (λ n d short. h.before (get_or rids n d) (Contains-get_or rids n d short));
    before = λ r found. ahead_of x h r (Contains-push_cases rids rid r found);
    live = λ r found. live_of k r (Contains-push_cases rids rid r found);
    all = λ r live ahead. listed_of r (all_before x h r live ahead (side r rid));
  }

-- at the end it has all of them, and no other
pub listed_all : (m : Index) (key : List ℕ) (next : Option (Place × Mark)) (rids : List Place) → IsListed m key next rids → next ≡ None → (r : Place)
    → (Contains rids r → mark_at m key r ≡ Some Live) × (mark_at m key r ≡ Some Live → Contains rids r)
listed_all m key next rids h e r = (h.live r, λ live. (subst (λ (n : Option (Place × Mark)). IsListed m key n rids) e h).all r live tt)

-- ---- how many entries are left to walk over

abbrev is_left : Pair → Pair → Bool
is_left p q = not (is_lt (pair_cmp q p))

abbrev how_many : (Pair → Bool) → List (Pair × Mark) → ℕ
how_many f [] = 0
how_many f (e ∷ es) = cond (f e.0) 1 0 + how_many f es

-- how many entries there are from the next one on
abbrev pub left : Index → List ℕ → Option (Place × Mark) → ℕ
left m key None = 0
left m key (Some e) = how_many (is_left (pair_at key e.0)) (map.entries m)

module _ (f g : Pair → Bool) (weaker : (p : Pair) → g p ≡ true → f p ≡ true) where
  no_more_by : (a b : Bool) (n k : ℕ) → (b ≡ true → a ≡ true) → n ≤ k → cond b 1 0 + n ≤ cond a 1 0 + k
  no_more_by true true n k h le = omega arith
  no_more_by true false n k h le = omega arith
  no_more_by false true n k h le = absurd (cc (h refl))
  no_more_by false false n k h le = omega arith

  no_more : (es : List (Pair × Mark)) → how_many g es ≤ how_many f es
  no_more [] = omega arith
  no_more (e ∷ es) = no_more_by (f e.0) (g e.0) _ _ (weaker e.0) (no_more es)

  fewer_by : (a b : Bool) (n k : ℕ) → (b ≡ true → a ≡ true) → n < k → cond b 1 0 + n < cond a 1 0 + k
  fewer_by true true n k h lt = omega arith
  fewer_by true false n k h lt = omega arith
  fewer_by false true n k h lt = absurd (cc (h refl))
  fewer_by false false n k h lt = omega arith

  fewer_here : (a b : Bool) (n k : ℕ) → a ≡ true → b ≡ false → n ≤ k → cond b 1 0 + n < cond a 1 0 + k
  fewer_here true false n k p q le = omega arith
  fewer_here true true n k p q le = cc
  fewer_here false b n k p q le = cc

  fewer_at : (p : Pair) (x : Mark) (e : Pair × Mark) (es : List (Pair × Mark)) (o : Ordering) → f p ≡ true → g p ≡ false → pair_cmp p e.0 ≡ o
      → cond (is_eq o) (Some e.1) (map.find pair_cmp p es) ≡ Some x → (map.find pair_cmp p es ≡ Some x → how_many g es < how_many f es)
      → how_many g (e ∷ es) < how_many f (e ∷ es)
  fewer_at p x e es Less counted missed is h rest = fewer_by (f e.0) (g e.0) _ _ (weaker e.0) (rest h)
  fewer_at p x e es Greater counted missed is h rest = fewer_by (f e.0) (g e.0) _ _ (weaker e.0) (rest h)
  fewer_at p x e es Equal counted missed is h rest =
      let one : p ≡ e.0 = pair_cmp-IsAntisymmetric p e.0 is in
      fewer_here (f e.0) (g e.0) _ _ (ap f (sym one) ∙ counted) (ap g (sym one) ∙ missed) (no_more es)

  -- an entry that f counts and g doesn't makes it fewer
  fewer : (p : Pair) (x : Mark) → f p ≡ true → g p ≡ false → (es : List (Pair × Mark)) → map.find pair_cmp p es ≡ Some x → how_many g es < how_many f es
  fewer p x counted missed [] found = absurd (cc (found))
  fewer p x counted missed (e ∷ es) found = fewer_at p x e es (pair_cmp p e.0) counted missed refl found (fewer p x counted missed es)

not_less : (o : Ordering) → (o ≡ Less → ⊥) → not (is_lt o) ≡ true
not_less Less h = absurd (h refl)
not_less Equal h = refl
not_less Greater h = refl

is_not_less : (o : Ordering) → not (is_lt o) ≡ true → o ≡ Less → ⊥
is_not_less Less h e = absurd (cc (h))
is_not_less Equal h e = absurd (cc (e))
is_not_less Greater h e = absurd (cc (e))

left_itself : (p : Pair) → is_left p p ≡ true
left_itself p = ap (λ o. not (is_lt o)) (tied_itself pair_cmp_total p)

passed : (p q : Pair) → pair_cmp p q ≡ Less → is_left q p ≡ false
passed p q h = ap (λ o. not (is_lt o)) h

-- each step leaves fewer
pub left_falls : (m : Index) (key : List ℕ) (rid : Place) (x : Mark) (next : Option (Place × Mark)) → mark_at m key rid ≡ Some x
    → IsNextOf m key (Some rid) next → left m key next < left m key (Some (rid, x))
left_falls m key rid x None entry step =
    let found : map.find pair_cmp (pair_at key rid) (map.entries m) ≡ Some x = sym (map.get-entries m (pair_at key rid)) ∙ entry in
    let less : how_many (λ _. false) (map.entries m) < how_many (is_left (pair_at key rid)) (map.entries m) =
    fewer (is_left (pair_at key rid)) (λ _. false) (λ p h. cc (h)) (pair_at key rid) x (left_itself (pair_at key rid)) refl (map.entries m) found in
    omega arith
left_falls m key rid x (Some e) entry step =
    let here = pair_at key rid in
    let there = pair_at key e.0 in
    let below : pair_cmp here there ≡ Less = pair_cmp-one_key key rid e.0 ∙ step.0 in
    let found : map.find pair_cmp here (map.entries m) ≡ Some x = sym (map.get-entries m here) ∙ entry in
    fewer (is_left here) (is_left there) (λ p h. not_less (pair_cmp p here) (λ less.
    is_not_less (pair_cmp p there) h (pair_cmp_total.trans p here there less below))) here x (left_itself here) (passed here there below)
    (map.entries m) found

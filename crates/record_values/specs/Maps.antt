-- What a map has after a change, under an order in which only equal keys tie.
use Rattle.std.specs.Prelude.{◌≡◌, ◌≢◌, Bool, true, false, cond, Option, Some, None}
use Rattle.std.proofs.Common.{refl, sym, ap, ◌∙◌}
use Rattle.std.specs.declared.cmp.Ordering.{Ordering}
use Rattle.std.specs.declared.cmp.Ordering.TheVariants.{Less, Equal, Greater}
use Rattle.std.specs.Ordering.{nat_cmp, eq_by_cmp, is_eq}
use Rattle.std.specs.Cmp.{IsTotalOrder, nat_cmp_total, tied_itself}
use Rattle.std.specs.FinMap.{FinMap, IsAntisymmetric, nat_cmp-IsAntisymmetric, get, insert, remove, get-empty}
use Rattle.std.specs.FinMap.{get-insert, get-remove, same_map}
use Rattle.record_values.specs.Orders.{rid_cmp, pair_cmp, rid_cmp_total, pair_cmp_total, rid_cmp-IsAntisymmetric}
use Rattle.record_values.specs.Orders.{pair_cmp-IsAntisymmetric}

-- an order in which only equal keys tie
pub record IsExact {K : Type 0} (R : K → K → Ordering) : Type 0 where
  pub total : IsTotalOrder R
  pub only_equal : IsAntisymmetric R

-- so is the order of places
pub rid_exact : IsExact rid_cmp
rid_exact = record { total = rid_cmp_total; only_equal = rid_cmp-IsAntisymmetric }

-- so is that of pairs
pub pair_exact : IsExact pair_cmp
pair_exact = record { total = pair_cmp_total; only_equal = pair_cmp-IsAntisymmetric }

-- and that of numbers
pub nat_exact : IsExact nat_cmp
nat_exact = record { total = nat_cmp_total; only_equal = nat_cmp-IsAntisymmetric }

-- the map with this value at the key, or with none there
abbrev pub set_at : {K X : Type 0} {R : K → K → Ordering} → FinMap R X → K → Option X → FinMap R X
set_at m k (Some v) = insert m k v
set_at m k None = remove m k

not_tied : (r : Ordering) → (r ≡ Equal → ⊥) → is_eq r ≡ false
not_tied Less h = refl
not_tied Equal h = absurd (h refl)
not_tied Greater h = refl

tied : (r : Ordering) → is_eq r ≡ true → r ≡ Equal
tied Less h = cc
tied Equal h = refl
tied Greater h = cc

twice : {A : Type 0} (b : Bool) (x y z : A) → cond b x (cond b y z) ≡ cond b x z
twice true x y z = refl
twice false x y z = refl

swapped : {A : Type 0} (a b : Bool) (x y z : A) → (a ≡ true → b ≡ true → ⊥)
    → cond a x (cond b y z) ≡ cond b y (cond a x z)
swapped true true x y z apart = absurd (apart refl refl)
swapped true false x y z apart = refl
swapped false b x y z apart = refl

unless : {A : Type 0} (b : Bool) (x y : A) → (b ≡ true → x ≡ y) → cond b x y ≡ y
unless true x y h = h refl
unless false x y h = refl

module _ {K : Type 0} {R : K → K → Ordering} (o : IsExact R) where
  pub same_key : (k : K) → eq_by_cmp R k k ≡ true
  same_key k = ap is_eq (tied_itself o.total k)

  pub other_key : (q k : K) → q ≢ k → eq_by_cmp R q k ≡ false
  other_key q k apart = not_tied (R q k) (λ e. apart (o.only_equal q k e))

  pub key_is : (q k : K) → eq_by_cmp R q k ≡ true → q ≡ k
  key_is q k h = o.only_equal q k (tied (R q k) h)

module _ {K X : Type 0} {R : K → K → Ordering} (o : IsExact R) where
  -- two maps that answer alike are one
  pub alike : (m n : FinMap R X) → ((q : K) → get m q ≡ get n q) → m ≡ n
  alike = same_map o.total o.only_equal

  pub get-set_at : (m : FinMap R X) (k : K) (v : Option X) (q : K)
      → get (set_at m k v) q ≡ cond (eq_by_cmp R q k) v (get m q)
  get-set_at m k (Some v) q = get-insert o.total m k v q
  get-set_at m k None q = get-remove o.total m k q

  pub get-set_at_same : (m : FinMap R X) (k : K) (v : Option X) → get (set_at m k v) k ≡ v
  get-set_at_same m k v = get-set_at m k v k ∙ ap (λ b. cond b v (get m k)) (same_key o k)

  pub get-set_at_other : (m : FinMap R X) (k : K) (v : Option X) (q : K) → q ≢ k → get (set_at m k v) q ≡ get m q
  get-set_at_other m k v q apart = get-set_at m k v q ∙ ap (λ b. cond b v (get m q)) (other_key o q k apart)

  -- the last value set at a key stays
  pub set_at-again : (m : FinMap R X) (k : K) (v w : Option X) → set_at (set_at m k v) k w ≡ set_at m k w
  set_at-again m k v w = alike _ _ (λ q.
      get-set_at (set_at m k v) k w q
      ∙ ap (cond (eq_by_cmp R q k) w) (get-set_at m k v q)
      ∙ twice (eq_by_cmp R q k) w v (get m q)
      ∙ sym (get-set_at m k w q))

  -- values at two keys may be set in either order
  pub set_at-swap : (m : FinMap R X) (k j : K) (v w : Option X) → k ≢ j
      → set_at (set_at m k v) j w ≡ set_at (set_at m j w) k v
  set_at-swap m k j v w apart = alike _ _ (λ q.
      get-set_at (set_at m k v) j w q
      ∙ ap (cond (eq_by_cmp R q j) w) (get-set_at m k v q)
      ∙ swapped (eq_by_cmp R q j) (eq_by_cmp R q k) w v (get m q) (λ a b. apart (sym (key_is o q k b) ∙ key_is o q j a))
      ∙ sym (get-set_at (set_at m j w) k v q ∙ ap (cond (eq_by_cmp R q k) v) (get-set_at m j w q)))

  -- to set what is there changes nothing
  pub set_at-get : (m : FinMap R X) (k : K) → set_at m k (get m k) ≡ m
  set_at-get m k = alike _ _ (λ q.
      get-set_at m k (get m k) q
      ∙ unless (eq_by_cmp R q k) (get m k) (get m q) (λ h. ap (get m) (sym (key_is o q k h))))

-- for `grind (rid_maps, rules)` and `grind (pair_maps, rules)`
pub ruleset rid_maps = (get-empty, get-set_at, get-insert, get-remove, rid_exact, rid_cmp_total)

pub ruleset pair_maps = (get-empty, get-set_at, get-insert, get-remove, pair_exact, pair_cmp_total)

pub ruleset txn_maps = (get-empty, get-set_at, get-insert, get-remove, nat_exact, nat_cmp_total)

-- The places reserved by all transactions together.
use Rattle.std.proofs.Common.{Bool, List, None, Option, Some, [], ap, arith, cond, false, length, refl, sym, true, unwrap_or, ℕ, ◌&&◌, ◌+◌, ◌∙◌, ◌∷◌, ◌≡◌, ◌≢◌}
use Rattle.std.specs.Cmp.{IsTotalOrder, nat_cmp_total}
use Rattle.std.specs.FinMap.{empty, entries, entries-insert, entries_sorted, get, get-entries, insert, len-empty, len-entries, remove}
use Rattle.std.specs.FinMap.Entries.{below_all, by_order, find, is_sorted, put}
use Rattle.std.specs.Ordering.{is_eq, is_lt, nat_cmp}
use Rattle.std.specs.Prelude.{T, fold, map, sum}
use Rattle.std.specs.declared.cmp.Ordering.{Ordering}
use Rattle.std.specs.declared.cmp.Ordering.TheVariants.{Equal, Greater, Less}
use Rattle.record_values.specs.Maps.{get-set_at_other, get-set_at_same, nat_exact, set_at, set_at-again, set_at-get}
use Rattle.core_model.specs.States.{Pledges}
use Rattle.core_model.specs.Steps.{all_reserved, reserved}

both_true : (a b : Bool) → T (a && b) → T a × T b
both_true true b p = (tt, p)
both_true false b p = absurd p

is_less : (o : Ordering) → T (is_lt o) → o ≡ Less
is_less Less p = refl
is_less Equal p = absurd p
is_less Greater p = absurd p

sum_from : (n : ℕ) (xs : List ℕ) → fold (λ a x. a + x) n xs ≡ n + sum xs
sum_from n [] = omega arith
sum_from n (x ∷ xs) =
    let here : fold (λ a x. a + x) (n + x) xs ≡ (n + x) + sum xs = sum_from (n + x) xs in
    let there : fold (λ a x. a + x) (0 + x) xs ≡ (0 + x) + sum xs = sum_from (0 + x) xs in
    here ∙ sum_later n x (sum xs) ∙ ap (λ y. n + y) (sym there)
  where
    sum_later : (n x y : ℕ) → (n + x) + y ≡ n + ((0 + x) + y)
    sum_later n x y = omega arith

pub sum_cons : (x : ℕ) (xs : List ℕ) → sum (x ∷ xs) ≡ x + sum xs
sum_cons x xs = sum_from (0 + x) xs ∙ ap (λ y. y + sum xs) (zero_plus x)
  where
    zero_plus : (x : ℕ) → 0 + x ≡ x
    zero_plus x = omega arith

module _ {R : ℕ → ℕ → Ordering} (o : IsTotalOrder R) where
  not_found : (k x : ℕ) (es : List (ℕ × ℕ)) → R k x ≡ Less → T (below_all R x es) → find R k es ≡ None
  not_found k x [] l b = refl
  not_found k x (e ∷ es) l b =
      let h : T (is_lt (R x e.0)) × T (below_all R x es) = both_true _ _ b in
      rw (ap is_eq (o.trans k x e.0 l (is_less _ h.0))) (not_found k x es l h.1)

  abbrev total : List (ℕ × ℕ) → ℕ
  total es = sum (map (λ (e : ℕ × ℕ). e.1) es)

  abbrev at : ℕ → List (ℕ × ℕ) → ℕ
  at k es = unwrap_or (find R k es) 0

  total_cons : (e : ℕ × ℕ) (es : List (ℕ × ℕ)) → total (e ∷ es) ≡ e.1 + total es
  total_cons e es = sum_cons e.1 (map (λ (e : ℕ × ℕ). e.1) es)

  total_by : (k v : ℕ) (e : ℕ × ℕ) (es : List (ℕ × ℕ)) (r : Ordering) → R k e.0 ≡ r → T (below_all R e.0 es) → total (put R k v es) + at k es ≡ total es + v
      → total (by_order r ((k, v) ∷ e ∷ es) ((e.0, v) ∷ es) (e ∷ put R k v es)) + unwrap_or (cond (is_eq r) (Some e.1) (find R k es)) 0 ≡ total (e ∷ es) + v
  total_by k v e es Less l b ih =
      rw (total_cons (k, v) (e ∷ es), not_found k e.0 es l b) (omega arith)
  total_by k v e es Equal l b ih = rw (total_cons (e.0, v) es, total_cons e es) (omega arith)
  total_by k v e es Greater l b ih = rw (total_cons e (put R k v es), total_cons e es) (omega arith)

  total_put : (k v : ℕ) (es : List (ℕ × ℕ)) → T (is_sorted R es) → total (put R k v es) + at k es ≡ total es + v
  total_put k v [] h = omega arith
  total_put k v (e ∷ es) h =
      let s : T (below_all R e.0 es) × T (is_sorted R es) = both_true _ _ h in
      total_by k v e es _ refl s.0 (total_put k v es s.1)

pub reserved_insert : (m : Pledges) (t v : ℕ) → all_reserved (insert m t v) + reserved m t ≡ all_reserved m + v
reserved_insert m t v =
    ap (λ es. sum (map (λ (e : ℕ × ℕ). e.1) es) + reserved m t) (entries-insert nat_cmp_total m t v)
    ∙ ap (λ o. sum (map (λ (e : ℕ × ℕ). e.1) (put nat_cmp t v (entries m))) + unwrap_or o 0) (get-entries m t)
    ∙ total_put nat_cmp_total t v (entries m) (entries_sorted m)

reserved_here : (m : Pledges) (t v : ℕ) → reserved (insert m t v) t ≡ v
reserved_here m t v = ap (λ o. unwrap_or o 0) (get-set_at_same nat_exact m t (Some v))

pub reserved_now : (m : Pledges) (t v u : ℕ) → u ≡ t → reserved (insert m t v) u ≡ v
reserved_now m t v u e = ap (reserved (insert m t v)) e ∙ reserved_here m t v

pub reserved_apart : (m : Pledges) (t v u : ℕ) → u ≢ t → reserved (insert m t v) u ≡ reserved m u
reserved_apart m t v u n = ap (λ o. unwrap_or o 0) (get-set_at_other nat_exact m t (Some v) u n)

pub left_apart : (m : Pledges) (t u : ℕ) → u ≢ t → reserved (remove m t) u ≡ reserved m u
left_apart m t u n = ap (λ o. unwrap_or o 0) (get-set_at_other nat_exact m t None u n)

left_here : (m : Pledges) (t : ℕ) → reserved (remove m t) t ≡ 0
left_here m t = ap (λ o. unwrap_or o 0) (get-set_at_same nat_exact m t None)

left_by : (m : Pledges) (t : ℕ) (o : Option ℕ) → get m t ≡ o → all_reserved (remove m t) + reserved m t ≡ all_reserved m
left_by m t None e =
    ap (λ k. all_reserved k + reserved m t) (ap (λ o. set_at m t o) (sym e) ∙ set_at-get nat_exact m t) ∙ ap (λ o. all_reserved m + unwrap_or o 0) e
    ∙ no_more (all_reserved m)
  where
    no_more : (n : ℕ) → n + 0 ≡ n
    no_more n = omega arith
left_by m t (Some v) e =
    let back : insert (remove m t) t v ≡ m = set_at-again nat_exact m t None (Some v) ∙ ap (λ o. set_at m t o) (sym e) ∙ set_at-get nat_exact m t in
    let sums : all_reserved (insert (remove m t) t v) + reserved (remove m t) t ≡ all_reserved (remove m t) + v = reserved_insert (remove m t) t v in
    ap (λ o. all_reserved (remove m t) + unwrap_or o 0) e ∙ sym sums ∙ ap (λ n. all_reserved (insert (remove m t) t v) + n) (left_here m t) ∙ no_more _
    ∙ ap all_reserved back
  where
    no_more : (n : ℕ) → n + 0 ≡ n
    no_more n = omega arith

-- what a transaction reserved is free once it has left
pub reserved_left : (m : Pledges) (t : ℕ) → all_reserved (remove m t) + reserved m t ≡ all_reserved m
reserved_left m t = left_by m t (get m t) refl

no_entries : (es : List (ℕ × ℕ)) → length es ≡ 0 → sum (map (λ (e : ℕ × ℕ). e.1) es) ≡ 0
no_entries [] h = refl
no_entries (e ∷ es) h = absurd (omega (arith, h))

pub none_reserved : all_reserved empty ≡ 0
none_reserved = no_entries (entries (empty {K = ℕ} {X = ℕ} {R = nat_cmp})) (sym (len-entries (empty {K = ℕ} {X = ℕ} {R = nat_cmp})) ∙ len-empty nat_cmp ℕ)

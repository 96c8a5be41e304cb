-- The names of views: no two that may set the stop flag come one from the other, whatever is cut or joined.
use Rattle.std.proofs.Common.{◌≡◌, ◌≢◌, ◌⊎◌, ℕ, zero, suc, Bool, true, false, true≢false, List, [], ◌∷◌, ◌++◌, length, set, refl, sym, ap, ◌∙◌, subst, inl, inr}
use Rattle.std.proofs.Common.{⊎_elim}
use mathlib.Core.Option.{some, some-injective, some-ne-none}
use lib.ListN.{get_elem?}
use Rattle.atomic_table.proofs.Lists.{at_set}
use Rattle.board.specs.declared.knowledge.Knowledge.{Knowledge}
use Rattle.board.specs.Views.{stays_as, leaves_as, part_ways}
use Rattle.board.specs.Rule.{AllApart}
use Rattle.board.specs.Steps.{staying, leaving}

pub off : {A : Type 0} → false ≡ true → A
off e = absurd (true≢false (sym e))

pub at_end : {A : Type 0} (l : List A) (a b : A) (j : ℕ) → get_elem? (l ++ a ∷ []) j ≡ some b → (get_elem? l j ≡ some b) ⊎ ((j ≡ length l) × (a ≡ b))
at_end [] a b zero e = inr (refl, some-injective a b e)
at_end [] a b (suc j) e = absurd (some-ne-none b (sym e))
at_end (x ∷ xs) a b zero e = inl e
at_end (x ∷ xs) a b (suc j) e = ⊎_elim (λ (t : get_elem? xs j ≡ some b). inl t) (λ (t : (j ≡ length xs) × (a ≡ b)). inr (ap suc t.0, t.1)) (at_end xs a b j e)

part_ways_sym : (x y : List Bool) → part_ways x y ≡ true → part_ways y x ≡ true
part_ways_sym [] y e = off e
part_ways_sym (a ∷ x) [] e = off e
part_ways_sym (true ∷ x) (true ∷ y) e = part_ways_sym x y e
part_ways_sym (true ∷ x) (false ∷ y) e = refl
part_ways_sym (false ∷ x) (true ∷ y) e = refl
part_ways_sym (false ∷ x) (false ∷ y) e = part_ways_sym x y e

-- a longer name parts ways with whatever the shorter one does
part_ways_longer : (x more y : List Bool) → part_ways x y ≡ true → part_ways (x ++ more) y ≡ true
part_ways_longer [] more y e = off e
part_ways_longer (a ∷ x) more [] e = off e
part_ways_longer (true ∷ x) more (true ∷ y) e = part_ways_longer x more y e
part_ways_longer (true ∷ x) more (false ∷ y) e = refl
part_ways_longer (false ∷ x) more (true ∷ y) e = refl
part_ways_longer (false ∷ x) more (false ∷ y) e = part_ways_longer x more y e

part_ways-leaves-stays : (x : List Bool) → part_ways (leaves_as x) (stays_as x) ≡ true
part_ways-leaves-stays [] = refl
part_ways-leaves-stays (true ∷ x) = part_ways-leaves-stays x
part_ways-leaves-stays (false ∷ x) = part_ways-leaves-stays x

-- the view v had the right to stop, and the name of w parts ways with each name that its own did
abbrev pub NoNearer : Knowledge → Knowledge → Type 0
NoNearer v w = (v.may_stop ≡ true) × ((other : List Bool) → part_ways v.name other ≡ true → part_ways w.name other ≡ true)

-- a view changes, but gets no right to stop and no name that meets another's
pub apart_set : (views : List Knowledge) (seat : ℕ) (v w : Knowledge) → get_elem? views seat ≡ some v → (w.may_stop ≡ true → NoNearer v w) → AllApart views
    → AllApart (set views seat w)
apart_set views seat v w at no_nearer apart i j a b differ here there can_a can_b =
    ⊎_elim
    (λ (x : (i ≡ seat) × (w ≡ a)).
    ⊎_elim
    (λ (y : (j ≡ seat) × (w ≡ b)). absurd (differ (x.0 ∙ sym y.0)))
    (λ (y : (j ≢ seat) × (get_elem? views j ≡ some b)).
    subst (λ (u : Knowledge). part_ways u.name b.name ≡ true) x.1 (mine j b y.0 y.1 (ap (λ (u : Knowledge). u.may_stop) x.1 ∙ can_a) can_b))
    (at_set views seat j w b there))
    (λ (x : (i ≢ seat) × (get_elem? views i ≡ some a)).
    ⊎_elim
    (λ (y : (j ≡ seat) × (w ≡ b)).
    subst (λ (u : Knowledge). part_ways a.name u.name ≡ true) y.1
    (part_ways_sym w.name a.name (mine i a x.0 x.1 (ap (λ (u : Knowledge). u.may_stop) y.1 ∙ can_b) can_a)))
    (λ (y : (j ≢ seat) × (get_elem? views j ≡ some b)). apart i j a b differ x.1 y.1 can_a can_b)
    (at_set views seat j w b there))
    (at_set views seat i w a here)
  where
    mine : (k : ℕ) (u : Knowledge) → k ≢ seat → get_elem? views k ≡ some u → w.may_stop ≡ true → u.may_stop ≡ true → part_ways w.name u.name ≡ true
    mine k u other e can can_u = let right = no_nearer can in right.1 u.name (apart seat k v u (λ (is : seat ≡ k). other (sym is)) at e right.0 can_u)

-- a new view, whose name meets no other's if it may stop
pub apart_end : (views : List Knowledge) (w : Knowledge) → AllApart views
    → ((k : ℕ) (u : Knowledge) → get_elem? views k ≡ some u → u.may_stop ≡ true → w.may_stop ≡ true → part_ways w.name u.name ≡ true)
    → AllApart (views ++ w ∷ [])
apart_end views w apart new i j a b differ here there can_a can_b =
    ⊎_elim
    (λ (x : get_elem? views i ≡ some a).
    ⊎_elim
    (λ (y : get_elem? views j ≡ some b). apart i j a b differ x y can_a can_b)
    (λ (y : (j ≡ length views) × (w ≡ b)). subst (λ (u : Knowledge). part_ways a.name u.name ≡ true) y.1
    (part_ways_sym w.name a.name (new i a x can_a (ap (λ (u : Knowledge). u.may_stop) y.1 ∙ can_b))))
    (at_end views w b j there))
    (λ (x : (i ≡ length views) × (w ≡ a)).
    ⊎_elim
    (λ (y : get_elem? views j ≡ some b). subst (λ (u : Knowledge). part_ways u.name b.name ≡ true) x.1
    (new j b y can_b (ap (λ (u : Knowledge). u.may_stop) x.1 ∙ can_a)))
    (λ (y : (j ≡ length views) × (w ≡ b)). absurd (differ (x.0 ∙ sym y.0)))
    (at_end views w b j there))
    (at_end views w a i here)

-- a view becomes two
pub apart_cut : (views : List Knowledge) (seat : ℕ) (v : Knowledge) → get_elem? views seat ≡ some v → v.may_stop ≡ true → AllApart views
    → AllApart (set views seat (staying v) ++ leaving v ∷ [])
apart_cut views seat v at can apart =
    apart_end (set views seat (staying v)) (leaving v)
    (apart_set views seat v (staying v) at (λ may. (may, λ other e. part_ways_longer v.name (false ∷ []) other e)) apart)
    (λ k u e can_u _.
    ⊎_elim
    (λ (x : (k ≡ seat) × (staying v ≡ u)). subst (λ (y : Knowledge). part_ways (leaves_as v.name) y.name ≡ true) x.1 (part_ways-leaves-stays v.name))
    (λ (x : (k ≢ seat) × (get_elem? views k ≡ some u)).
    part_ways_longer v.name (true ∷ []) u.name (apart seat k v u (λ (is : seat ≡ k). x.0 (sym is)) at x.1 can can_u))
    (at_set views seat k (staying v) u e))

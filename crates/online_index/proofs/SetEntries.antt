-- What setting one entry leaves.
use Rattle.std.proofs.Common.{Bool, None, Option, Some, ap, cond, false, is_some, subst, sym, true, true≢false, ◌∙◌, ◌≡◌}
use Rattle.std.specs.FinMap.{get}
use Rattle.std.specs.Ordering.{eq_by_cmp}
use Rattle.record_values.specs.Entries.{Index}
use Rattle.record_values.specs.Maps.{get-set_at, get-set_at_same, pair_exact, set_at, set_at-again, set_at-get}
use Rattle.record_values.specs.Orders.{pair_cmp}
use Rattle.record_values.specs.declared.error.Error.{Error}
use Rattle.record_values.specs.declared.pair.Mark.{Mark}
use Rattle.record_values.specs.declared.pair.Mark.TheVariants.{Marked}
use Rattle.record_values.specs.declared.pair.Pair.{Pair}
use Rattle.online_index.specs.Standing.{IsMissing, marked_if}
use Rattle.online_index.specs.Value.{IndexValue, IsRefusal}
use Rattle.online_model.specs.World.{built}

-- the index with this entry set
abbrev pub with_entry : IndexValue → Pair → Option Mark → IndexValue
with_entry v p mark = record v { entries = set_at v.entries p mark }

-- an entry that is there stays
pub built_there : (v : IndexValue) (p : Pair) (o : Option Mark) → o ≡ get v.entries p → is_some o ≡ true
    → v ≡ with_entry v p (built (get v.entries p))
built_there v p None e t = absurd (true≢false (sym t))
built_there v p (Some mark) e t = ap (λ (m : Index). record v { entries = m })
    (sym (ap (set_at v.entries p) (ap built (sym e) ∙ e) ∙ set_at-get pair_exact v.entries p))

-- a pair that was marked is marked
pub marked_here : (v u : IndexValue) (p : Pair) → u ≡ with_entry v p (Some Marked) → get u.entries p ≡ Some Marked
marked_here v u p e = ap (λ (x : IndexValue). get x.entries p) e ∙ get-set_at_same pair_exact v.entries p (Some Marked)

unmarked : (b : Bool) (o : Option Mark) → cond b (Some Marked) o ≡ None → o ≡ None
unmarked true o e = cc
unmarked false o e = e

-- what is missing after a mark was missing before it
pub missing_before : (v u : IndexValue) (p : Pair) (o : Option Pair) → u ≡ with_entry v p (Some Marked)
    → IsMissing u.entries o → IsMissing v.entries o
missing_before v u p None e n = n
missing_before v u p (Some q) e n = unmarked (eq_by_cmp pair_cmp q p) (get v.entries q)
    (sym (get-set_at pair_exact v.entries p (Some Marked) q) ∙ (sym (ap (λ (x : IndexValue). get x.entries q) e) ∙ n))

-- what is refused after a mark
pub refused_after : (v u : IndexValue) (p : Pair) (old : Option Pair) (e : Error) → old ≡ Some p → u ≡ with_entry v p (Some Marked)
    → IsRefusal u e → IsRefusal (record v { entries = marked_if v.entries old }) e
refused_after v u p old e is marked h =
    subst (λ o. IsRefusal (record v { entries = marked_if v.entries o }) e) (sym is) (subst (λ x. IsRefusal x e) marked h)

-- a mark that is set and taken back leaves the index as it was
pub set_back : (v u x y : IndexValue) (p : Pair) (o : Option Mark) → u ≡ with_entry v p (Some Marked) → x ≡ u
    → o ≡ get v.entries p → y ≡ with_entry x p o → y ≡ v
set_back v u x y p o marked same before back = back ∙ ap (λ z. with_entry z p o) (same ∙ marked)
    ∙ ap (λ (m : Index). record v { entries = m })
    (set_at-again pair_exact v.entries p (Some Marked) o ∙ ap (set_at v.entries p) before ∙ set_at-get pair_exact v.entries p)

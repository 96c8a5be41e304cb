-- Places that are noted while the entries of a core are looked through.
use Rattle.std.proofs.Common.{◌≡◌, ◌<◌, ℕ, List, [], ◌∷◌, Bool, false, true, Option, Some, inl}
use Rattle.std.proofs.Common.{inr, length, replicate, zero, suc, slice_index_or, slice_set, refl, sym, ◌∙◌, ap, subst, arith}
use Rattle.std.specs.FinMap.{get}
use Rattle.std.proofs.lemmas.Bool.{cases_eq, false≢true}
use Rattle.std.proofs.lemmas.List.{get_or-set_other}
use Rattle.record_values.specs.Values.{Place}
use Rattle.record_values.specs.declared.pair.Mark.{Mark}
use Rattle.record_values.specs.declared.pair.Mark.TheVariants.{Live, Marked}
use Rattle.record_values.specs.declared.pair.Pair.{Pair}
use Rattle.record_values.specs.declared.rid.TheConstants.{SLOTS_PER_PAGE}
use Rattle.record_values.specs.declared.row.Row.{Row}
use Rattle.model.specs.Pairs.{pair_of}
use Rattle.model.specs.Table.{IsPairOf}
use Rattle.core_parts.specs.Opening.{IsRowShown}
use Rattle.core_parts.specs.View.{CoreValue}
use Rattle.nsf_core.specs.Opening.{AreNoted, number_of}

pub no_flag : (n k : ℕ) → slice_index_or (replicate n false) k false ≡ false
no_flag zero k = refl
no_flag (suc n) zero = refl
no_flag (suc n) (suc k) = no_flag n k

pub none_noted : (v : CoreValue) (noted : List Bool) → ((n : ℕ) → slice_index_or noted n false ≡ false) → AreNoted v noted
none_noted v noted none r slot is = absurd (false≢true (sym (none (number_of r)) ∙ is))

-- places of one number are one
one_place : (r q : Place) → r.slot < SLOTS_PER_PAGE → q.slot < SLOTS_PER_PAGE → number_of r ≡ number_of q → r ≡ q
one_place r q first second is =
    let slot : r.slot ≡ q.slot = omega (arith, first, second, is) in
    let page : r.page ≡ q.page = omega (arith, is, slot) in
    λ i. record { page = page i; slot = slot i }

-- the row of a visible pair is shown
pub shown_live : (v : CoreValue) (p : Pair) → get v.index.entries p ≡ Some Live → IsPairOf v.heap.rows p → IsRowShown v p.rid
shown_live v p live of row is = record { complete = λ _. here; unmarked = λ marked. absurd (apart (sym here ∙ marked)) }
  where
    apart : (◌≡◌ {A = Option Mark} (Some Live) (Some Marked)) → ⊥
    apart e = absurd cc

    key : row.key ≡ p.key
    key = let both : Some row ≡ Some of.row = sym is ∙ of.is_there in ap (λ (r : Row). r.key) (let same : row ≡ of.row = cc in same) ∙ of.has_key

    here : get v.index.entries (pair_of p.rid row) ≡ Some Live
    here = ap (λ k. get v.index.entries (record { key = k; rid = p.rid })) key ∙ live

-- one place more is noted
pub one_noted : (v : CoreValue) (noted : List Bool) (q : Place) → AreNoted v noted → q.slot < SLOTS_PER_PAGE → IsRowShown v q
    → AreNoted v (slice_set noted (number_of q) true)
one_noted v noted q before inside shown r slot is = elim (cases_eq (number_of r) (number_of q)) [
  | inl same ↦ subst (IsRowShown v) (sym (one_place r q slot inside same)) shown
  | inr other ↦ before r slot (sym (get_or-set_other noted (number_of q) (number_of r) true false other) ∙ is)
]

pub no_more : {X : Type 0} (xs : List X) → length xs ≡ 0 → xs ≡ []
no_more [] e = refl
no_more (x ∷ xs) e = absurd (omega (arith, e))

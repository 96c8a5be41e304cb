-- An entry that is loaded where there is room for it.
use Rattle.std.proofs.Common.{None, Option, Some, Result, Ok, Err, OnOk, OnErr, arith, ap, cond, inl, inr, is_some, refl, subst, sym}
use Rattle.std.proofs.Common.{ℕ, ◌+◌, ◌-◌, ◌<◌, ◌≡◌, ◌≤◌}
use Rattle.std.specs.Prelude.{IsSome, ◌↔◌}
use Rattle.std.proofs.lemmas.Bool.{cases_lt}
use Rattle.std.specs.FinMap.{get, len, len-insert, len-remove}
use Rattle.record_values.specs.Maps.{set_at}
use Rattle.record_values.specs.Orders.{pair_cmp_total}
use Rattle.record_values.specs.declared.error.Error.{Error}
use Rattle.record_values.specs.declared.error.Error.TheVariants.{IndexFull}
use Rattle.record_values.specs.declared.pair.Mark.{Mark}
use Rattle.record_values.specs.declared.pair.Pair.{Pair}
use Rattle.record_values.specs.Entries.{Index}
use Rattle.core_parts.specs.Index.{IndexValue, IsAbsent, IsFull}
use Rattle.nsf_core.specs.Loading.{IsPairInside, IsQuiet}
use Rattle.core_parts.specs.View.{CoreValue, IsSafe}
use Rattle.nsf_core.proofs.Loading.{entry_safe}

more_by : (n l p c : ℕ) (o : Option Mark) → l ≡ cond (is_some o) n (n + 1) → n + p ≤ c → (o ≡ None → n + p < c) → l + p ≤ c
more_by n l p c None e within spare = let less : n + p < c = spare refl in omega (arith, e, less)
more_by n l p c (Some m) e within spare = omega (arith, e, within)

fewer_by : (n l p c : ℕ) (o : Option Mark) → l ≡ cond (is_some o) (n - 1) n → n + p ≤ c → l + p ≤ c
fewer_by n l p c None e within = omega (arith, e, within)
fewer_by n l p c (Some m) e within = omega (arith, e, within)

room_after : (m : Index) (p : Pair) (mark : Option Mark) (pledged capacity : ℕ) → len m + pledged ≤ capacity
    → (IsSome mark → get m p ≡ None → len m + pledged < capacity) → len (set_at m p mark) + pledged ≤ capacity
room_after m p None pledged capacity within spare = fewer_by (len m) (len (set_at m p None)) pledged capacity (get m p) (len-remove pair_cmp_total m p) within
room_after m p (Some x) pledged capacity within spare =
    more_by (len m) (len (set_at m p (Some x))) pledged capacity (get m p) (len-insert pair_cmp_total m p x) within (spare refl)

within_by : (a b c d e f : ℕ) → a ≡ d → b ≡ e → c ≡ f → a + b ≤ c → d + e ≤ f
within_by a b c d e f x y z most = omega (arith, x, y, z, most)

module _ (v : CoreValue) (safe : IsSafe v) where
  within : len v.index.entries + v.index.pledged ≤ v.index.capacity
  within = let h = safe.is.shown in within_by _ _ _ _ _ _ (ap len h.entries) h.pledged h.places safe.is.fit.places.fits

not_ok : {T : Type 0} (x : T) (e : Error) → Ok x ≡ Err e → ⊥
not_ok x e is = absurd cc

-- a load that was made found room for the entry, where it added one; and one that was refused changed nothing
pub load_safe : {T : Type 0} (v : CoreValue) (p : Pair) (mark : Option Mark) (new : IndexValue) (r : Result T Error) → IsQuiet v → IsPairInside v p
    → OnOk r (new ≡ record v.index { entries = set_at v.index.entries p mark })
    → ((r ≡ Err IndexFull) ↔ (IsSome mark × IsAbsent v.index.entries p × IsFull v.index)) → OnErr r (new ≡ v.index) → IsSafe v
    → IsSafe (record v { index = new })
load_safe v p mark new (Ok x) quiet inside made full same safe = subst (λ w. IsSafe (record v { index = w })) (sym made)
    (entry_safe v quiet safe p mark inside (room_after v.index.entries p mark v.index.pledged v.index.capacity (within v safe) spare))
  where
    spare : IsSome mark → get v.index.entries p ≡ None → len v.index.entries + v.index.pledged < v.index.capacity
    spare some absent = elim (cases_lt (len v.index.entries + v.index.pledged) v.index.capacity) [
      | inl less ↦ less
      | inr most ↦ absurd (not_ok x IndexFull (full.1 (some, absent, most)))
    ]
load_safe v p mark new (Err e) quiet inside made full same safe = subst (λ w. IsSafe (record v { index = w })) (sym same) safe

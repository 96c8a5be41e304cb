-- The orders of places and pairs: total, and only equal ones tie.
use Rattle.std.specs.Prelude.{◌≡◌, Bool, true, Option, Some, None}
use Rattle.std.proofs.Common.{refl}
use Rattle.std.specs.declared.cmp.Ordering.{Ordering}
use Rattle.std.specs.declared.cmp.Ordering.TheVariants.{Less, Equal, Greater}
use Rattle.std.specs.Ordering.{is_lt, nat_cmp, ordering_then}
use Rattle.std.specs.Cmp.{IsTotalOrder, nat_cmp_total, then_total, on_total}
use Rattle.std.specs.Cmp.Lexicographic.{slice_cmp, nat_list_cmp_total}
use Rattle.std.specs.FinMap.{IsAntisymmetric, nat_cmp-IsAntisymmetric, slice_cmp-IsAntisymmetric}
use Rattle.record_values.specs.Values.{Place}
use Rattle.record_values.specs.declared.pair.Pair.{Pair}

-- by page, then by slot
abbrev pub rid_cmp : Place → Place → Ordering
rid_cmp a b = ordering_then (nat_cmp a.page b.page) (nat_cmp a.slot b.slot)

-- by key in byte order, a proper beginning first, then by place
abbrev pub pair_cmp : Pair → Pair → Ordering
pair_cmp a b = ordering_then (slice_cmp nat_cmp a.key b.key) (rid_cmp a.rid b.rid)

-- whether a pair comes after this one: every pair does where there is none
abbrev pub is_above : Option Pair → Pair → Bool
is_above None q = true
is_above (Some p) q = is_lt (pair_cmp p q)

both_Equal : (a b : Ordering) → ordering_then a b ≡ Equal → (a ≡ Equal) × (b ≡ Equal)
both_Equal Less b e = cc
both_Equal Equal b e = (refl, e)
both_Equal Greater b e = cc

-- any two places are in order
pub rid_cmp_total : IsTotalOrder rid_cmp
rid_cmp_total = then_total (on_total (λ (r : Place). r.page) nat_cmp_total)
    (on_total (λ (r : Place). r.slot) nat_cmp_total)

-- any two pairs are in order
pub pair_cmp_total : IsTotalOrder pair_cmp
pair_cmp_total = then_total (on_total (λ (p : Pair). p.key) nat_list_cmp_total)
    (on_total (λ (p : Pair). p.rid) rid_cmp_total)

-- only equal places tie
pub rid_cmp-IsAntisymmetric : IsAntisymmetric rid_cmp
rid_cmp-IsAntisymmetric a b e =
    let k = both_Equal (nat_cmp a.page b.page) (nat_cmp a.slot b.slot) e in
    λ i. record {
      page = nat_cmp-IsAntisymmetric a.page b.page k.0 i;
      slot = nat_cmp-IsAntisymmetric a.slot b.slot k.1 i;
    }

-- only equal pairs tie
pub pair_cmp-IsAntisymmetric : IsAntisymmetric pair_cmp
pair_cmp-IsAntisymmetric a b e =
    let k = both_Equal (slice_cmp nat_cmp a.key b.key) (rid_cmp a.rid b.rid) e in
    λ i. record {
      key = slice_cmp-IsAntisymmetric nat_cmp-IsAntisymmetric a.key b.key k.0 i;
      rid = rid_cmp-IsAntisymmetric a.rid b.rid k.1 i;
    }

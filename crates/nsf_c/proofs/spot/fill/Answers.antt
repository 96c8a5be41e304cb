use Rattle.std.proofs.Common.{refl, sym, ◌∙◌, ap, subst, ◌≡◌, ◌<◌, ◌≤◌, ◌+◌, ℕ, arith, length, slice_set, length-set}
use Rattle.std.proofs.lemmas.List.{get_or_read}
use Rattle.nsf_c.specs.declared.spot.Spot.{Spot}
use Rattle.nsf_c.specs.Spots.{nowhere, spot_of, rid_at, spot_at}
use Rattle.nsf_c.proofs.Spots.{one_more, no_more}
use Rattle.nsf_c.proofs.spot.fill.Goals as goal

pub loop-i-init : goal.loop-i-init
loop-i-init c = (refl, (λ k lt. absurd (omega (arith, lt))), λ k le. refl)

pub loop-i-preserved : goal.loop-i-preserved
loop-i-preserved c =
    let rids = c.args.rids.now in
    let old = c.args.spots.now in
    let spots = c.loop-i.spots in
    let i = c.loop-i.i in
    let below_rids : i < length rids = omega (arith, c.loop-i-test.true, c.min-i-end.ensures) in
    let below_spots : i < length spots = omega (arith, c.loop-i-test.true, c.min-i-end.ensures, c.loop-i.invariant.0) in
    let is = c.spot_of.ensures ∙ ap spot_of (get_or_read rids i c.index-rids-i.result below_rids c.index-rids-i.is nowhere) in
    subst (λ (s : Spot). (length (slice_set spots i s) ≡ length old) × ((k : ℕ) → k < i + 1 → spot_at (slice_set spots i s) k ≡ spot_of (rid_at rids k))
    × ((k : ℕ) → i + 1 ≤ k → spot_at (slice_set spots i s) k ≡ spot_at old k)) (sym is) (
      length-set spots i (spot_of (rid_at rids i)) ∙ c.loop-i.invariant.0,
      one_more rids old spots i below_spots c.loop-i.invariant.1,
      no_more rids old spots i below_spots c.loop-i.invariant.2,
    )

pub returns : goal.returns
returns c = record {
  room = c.loop-i.invariant.0;
  front = λ k a b. c.loop-i.invariant.1 k (omega (arith, a, b, c.loop-i-test.false, c.min-i-end.ensures));
  behind = λ k le. c.loop-i.invariant.2 k (omega (arith, le, c.loop-i.auto.i-end, c.min-i-end.ensures));
}

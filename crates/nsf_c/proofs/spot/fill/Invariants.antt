use Rattle.std.proofs.Common.{◌≡◌, ℕ, ◌<◌, ◌≤◌, length}
use Rattle.nsf_c.specs.Spots.{spot_of, rid_at, spot_at}
use Rattle.nsf_c.proofs.spot.fill.Given as goal

abbrev pub invariant-loop-i : goal.invariant-loop-i
invariant-loop-i l =
    (length l.spots ≡ length l.initial.spots)
    × ((k : ℕ) → k < l.i → spot_at l.spots k ≡ spot_of (rid_at l.rids k))
    × ((k : ℕ) → l.i ≤ k → spot_at l.spots k ≡ spot_at l.initial.spots k)

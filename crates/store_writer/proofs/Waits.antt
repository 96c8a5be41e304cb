-- Records that wait behind some that were taken.
use Rattle.std.proofs.Common.{◌≡◌, ℕ, ◌≤◌, Bool, true, false, cond, List, ◌++◌, length, drop, length-append, ap, ◌∙◌, arith}
use Rattle.std.proofs.lemmas.List.{drop-append-le}
use Rattle.records.specs.RecordValue.{RecordValue}

module _ (taken : ℕ) (old more : List RecordValue) (within : taken ≤ length old) where
  -- some more wait
  pub waits_more : (b : Bool) (new : List RecordValue) → new ≡ cond b (old ++ more) old → drop taken new ≡ cond b (drop taken old ++ more) (drop taken old)
  waits_more true new is = ap (drop taken) is ∙ drop-append-le taken old more within
  waits_more false new is = ap (drop taken) is

  pub still_within : (b : Bool) (new : List RecordValue) → new ≡ cond b (old ++ more) old → taken ≤ length new
  still_within true new is = omega (arith, within, ap length is, length-append old more)
  still_within false new is = omega (arith, within, ap length is)

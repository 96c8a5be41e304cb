-- Live entries that the cleaner passes over at once.
use Rattle.std.specs.FinMap.{get}
use Rattle.std.specs.Prelude.{List, Option, Some, [], length, true, ℕ, ◌<◌, ◌∷◌, ◌≡◌}
use Rattle.record_values.specs.declared.pair.Mark.TheVariants.{Live}
use Rattle.record_values.specs.declared.pair.Pair.{Pair}
use Rattle.model.specs.Pairs.{is_indexed}
use Rattle.marked_index.specs.Passing.{IsBehindLive, IsLiveNext}
use Rattle.core_model.specs.Events.{Cleaner, Event, Kept}
use Rattle.core_parts.specs.View.{CoreValue, Serves}

-- The cleaner kept these live entries, one behind another: each was what the event `Clean` came to, and answered with
-- `Kept`. Each moved the cleaner's place, and nothing else.
abbrev pub HasKept : CoreValue → List Pair → CoreValue → Type 0
HasKept old [] new = new ≡ old
HasKept old (p ∷ ps) new = (get old.index.entries p ≡ Some Live)
    × Serves old Event.Clean (Cleaner (Kept p)) (record old { cleaned = Some p })
    × HasKept (record old { cleaned = Some p }) ps new

-- there is an index, and the entry that the cleaner comes to next is live
abbrev pub IsAtLive : CoreValue → Type 0
IsAtLive v = (is_indexed v.life ≡ true) × IsLiveNext v.index.entries v.cleaned

-- The cleaner passed over live entries, as if it had kept each of them: so many at least, or all up to the first that
-- isn't live.
pub record PassesLive (old : CoreValue) (least : ℕ) (new : CoreValue) : Type 0 where
  pub passed : List Pair
  pub kept : HasKept old passed new
  pub far : length passed < least → IsAtLive new → ⊥

-- the cleaner's place is behind some live entries that came next, and nothing else differs (no public clause cites
-- this)
abbrev pub HasPassedRun : CoreValue → CoreValue → Type 0
HasPassedRun old new = (p : Pair) × IsBehindLive old.index.entries old.cleaned p
    × (new ≡ record old { cleaned = Some p })

use Rattle.std.proofs.Common.{◌≡◌, ◌+◌, ◌-◌, ℕ, None, Some}
use Rattle.std.specs.Option.{option_map_or}
use Rattle.restart.specs.Parts.{horizon_of}
use Rattle.restart.specs.Repeated.{FlushesOn}
use Rattle.restart.specs.declared.parts.EngineParts.{EngineParts}
use Rattle.restart.proofs.engine.Engine.flush_all.Given as goal

-- what the flushes from here on tell is told by all of them, and the one before them has told how far the records are synced
abbrev pub invariant-flushes : goal.invariant-flushes
invariant-flushes g l = record {
  goes_on : (mid : EngineParts g.row.D.Denot g.row.A.Denot) → FlushesOn g.D.Device.past_of g.D.Device.failures l.last l.told l.self mid
      → FlushesOn g.D.Device.past_of g.D.Device.failures l.last None l.initial.self mid;
  known : (m : ℕ) → l.told ≡ Some m → horizon_of l.self ≡ m;
}

-- how many records were not told of yet
abbrev pub decreases-flushes : goal.decreases-flushes
decreases-flushes g l = option_map_or (λ m. l.last - m) l.told (l.last + 1)

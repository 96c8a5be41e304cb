-- A store that was opened, for the arguments that asked for it.
use Rattle.std.proofs.Common.{◌≡◌, ℕ, IfOk, Result, Ok, Err, subst}
use Rattle.record_values.specs.GeometryValue.{GeometryValue}
use Rattle.record_values.specs.declared.error.Error.{Error}
use Rattle.program_values.specs.declared.given.Arguments.{Arguments}
use Rattle.program_player.specs.Plays.{geometry_of, sectors_asked, IsCutAt, Starts, StartsFor}
use Rattle.program_player.specs.declared.session.Session.{Session}

pub starts_for : (arguments : Arguments) (sectors : ℕ) (geometry : GeometryValue) (fails_at : ℕ) (result : Result Session Error)
    → geometry ≡ geometry_of arguments → sectors ≡ sectors_asked arguments.sectors geometry → IsCutAt sectors geometry arguments.stop fails_at
    → IfOk result (Starts sectors geometry fails_at) → IfOk result (StartsFor arguments)
starts_for arguments sectors geometry fails_at (Ok session) of_arguments asked cut starts = (
  fails_at,
  subst (λ (g : GeometryValue). IsCutAt (sectors_asked arguments.sectors g) g arguments.stop fails_at) of_arguments
      (subst (λ (n : ℕ). IsCutAt n geometry arguments.stop fails_at) asked cut),
  subst (λ (g : GeometryValue). Starts (sectors_asked arguments.sectors g) g fails_at session) of_arguments
      (subst (λ (n : ℕ). Starts n geometry fails_at session) asked starts),
)
starts_for _ _ _ _ (Err _) _ _ _ starts = starts

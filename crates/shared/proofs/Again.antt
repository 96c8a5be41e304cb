-- What goes on behind a refusal.
use Rattle.std.proofs.Common.{◌≡◌, ◌⊎◌, ℕ, List, Option, Some, None}
use Rattle.records.specs.RecordValue.{RecordValue}
use Rattle.record_values.specs.declared.error.Error.{Error}
use Rattle.core_model.specs.Events.{Event, Refused}
use Rattle.core_model.specs.Histories.{Opened}
use Rattle.model.specs.declared.write.Write.{Write}
use Rattle.core_parts.specs.View.{CoreValue, IsSafe, Serves}
use Rattle.locked_core.specs.Names.{IsShared}
use Rattle.threads_sessions.specs.Values.{SessionValue}
use Rattle.shared.specs.Changed.{HasChanged, IsGoingBack}
use Rattle.shared.specs.Served.{HasUndone, WasAborted, WasServed, WasServedTo}
use Rattle.shared.proofs.Backward.{back_joined}
use Rattle.shared.proofs.Made.{more_made}
use Rattle.shared.proofs.Undone.{more_undone}

-- a call that is refused leaves a core as it was (what `refused_calls` says)
abbrev pub LeavesAll : Type 0
LeavesAll = (old new : CoreValue) (e : Event) (error : Error) → IsSafe old → Serves old e (Refused error) new → new ≡ old

module _ (leaves : LeavesAll) (o : Opened) where
  safe : (core : CoreValue) (pushed : List RecordValue) (book : List SessionValue) → IsShared o core pushed book → IsSafe core
  safe core pushed book all =
      let replied = all.register.kept.replied in
      record { state = replied.state; standing = replied.standing; is = replied.stands }

  pub nothing_changed : (e : Event) (error : Error) (was : WasServed o e (Refused error)) → was.new ≡ was.core
  nothing_changed e error was = leaves was.core was.new e error (safe was.core was.pushed was.book was.shared) was.serves

  pub nothing_changed_to : (seat : ℕ) (p : SessionValue) (e : Event) (error : Error) (was : WasServedTo o seat p e (Refused error)) → was.new ≡ was.core
  nothing_changed_to seat p e error was = leaves was.core was.new e error (safe was.core was.pushed was.book was.shared) was.serves

pub changed_then : (t : ℕ) (w : Write) (error : Error) (refusal : Option Error) (p q r : SessionValue) → HasChanged p t w (Some error) q
    → HasChanged q t w refusal r → HasChanged p t w refusal r
changed_then t w error None p q r a b = (more_made t w p q r a.0 b.0, b.1)
changed_then t w error (Some e) p q r a b = (more_made t w p q r a.0 b.0, b.1)

pub aborted_then : (o : Opened) (seat t : ℕ) (p q : SessionValue) → HasUndone o seat p t q → (q ≡ p) ⊎ IsGoingBack p t q → WasAborted o seat q t
    → WasAborted o seat p t
aborted_then o seat t p q undone back then = record {
  last = then.last;
  back = back_joined t p q then.last back then.back;
  undone = more_undone o seat t p q then.last undone then.undone;
  taken = then.taken;
}

use Rattle.std.proofs.Common.{◌≡◌, ℕ, replicate}
use Rattle.core_model.specs.Events.{Event, Reply}
use Rattle.locked_core.specs.Locked.{locked_of}
use Rattle.threads_sessions.specs.Steps.{ended}
use Rattle.shared.specs.AtOnce.{AreServed, IsLeft}
use Rattle.shared.proofs.shared.Shared.clear_held.Given as goal

abbrev pub invariant-loop : goal.invariant-loop
invariant-loop g l = record {
  left : IsLeft (ended l.fn.part.session l.fn.txn) l.fn.txn l.part.session;
  served : ∥ ((undone : ℕ) × AreServed (locked_of l.fn.locked).core (replicate undone (Event.Undo l.fn.txn, Reply.Undone)) (locked_of l.locked).core) ∥₁;
  number : l.part.number ≡ l.fn.part.number;
}

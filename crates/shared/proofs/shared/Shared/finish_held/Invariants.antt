use Rattle.std.proofs.Common.{◌≡◌, ℕ, replicate}
use Rattle.model.specs.declared.write.Write.{Write}
use Rattle.core_model.specs.Events.{Event, Stepped}
use Rattle.locked_core.specs.Locked.{locked_of}
use Rattle.threads_sessions.specs.Steps.{ended}
use Rattle.shared.specs.AtOnce.{AreServed, IsChanging}
use Rattle.shared.proofs.shared.Shared.finish_held.Given as goal

abbrev pub invariant-loop : goal.invariant-loop
invariant-loop g l = record {
  served : ∥ ((steps : ℕ) × AreServed (locked_of l.fn.locked).core (replicate steps (Event.Step l.fn.txn, Stepped)) (locked_of l.locked).core) ∥₁;
  changing : (change : Write) → IsChanging l.fn.part.session l.fn.txn change → IsChanging l.part.session l.fn.txn change;
  others : ended l.part.session l.fn.txn ≡ ended l.fn.part.session l.fn.txn;
  number : l.part.number ≡ l.fn.part.number;
}

use Rattle.std.proofs.Common.{◌≡◌, None, Some}
use Rattle.model.specs.declared.write.Write.{Write}
use Rattle.shared.specs.Changed.{IsUnderWay, unfinished_of}
use Rattle.shared.proofs.shared.Shared.finish_change.Given as goal

abbrev pub invariant-loop : goal.invariant-loop
invariant-loop g l = record {
  seat : l.seat ≡ record l.fn.seat { session = l.seat.session };
  none : unfinished_of l.fn.seat.session l.fn.txn ≡ None → l.seat.session ≡ l.fn.seat.session;
  steps : (change : Write) → unfinished_of l.fn.seat.session l.fn.txn ≡ Some change → IsUnderWay l.fn.seat.session l.fn.txn change l.seat.session;
}

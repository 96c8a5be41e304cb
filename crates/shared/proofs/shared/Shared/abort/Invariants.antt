use Rattle.std.proofs.Common.{◌≡◌, true}
use Rattle.threads_sessions.specs.Values.{is_active}
use Rattle.shared.specs.Served.{HasUndone}
use Rattle.shared.proofs.Backward.{IsBackFrom}
use Rattle.shared.proofs.shared.Shared.abort.Given as goal

abbrev pub invariant-loop : goal.invariant-loop
invariant-loop g l = record {
  seat : l.seat ≡ record l.fn.seat { session = l.seat.session };
  own : is_active l.seat.session l.fn.txn ≡ true;
  back : IsBackFrom l.fn.txn l.fn.seat.session l.seat.session;
  undone : ∥ HasUndone g.B.Group.site.opened l.fn.seat.number l.fn.seat.session l.fn.txn l.seat.session ∥₁;
}

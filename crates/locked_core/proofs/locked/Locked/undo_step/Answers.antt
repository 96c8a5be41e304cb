use Rattle.std.proofs.Common.{map, refl, arith}
use Rattle.nsf_core.specs.Value.{value_of}
use Rattle.threads_sessions.specs.Halves.{shown}
use Rattle.locked_core.proofs.Book.{book_set, count_set, half_after, meets, shown_set, there}
use Rattle.locked_core.proofs.Kept.{kept_in, undo_kept}
use Rattle.locked_core.proofs.locked.Locked.undo_step.Goals as goal

pub index_mut-requires : goal.index_mut-requires
index_mut-requires g c =
    let was = c.args.self.now in
    omega (arith, was.seats, was.book.ok.0, c.seat.invariant.1)

pub change-requires : goal.change-requires
change-requires g c =
    let was = c.args.self.now in
    let can = meets _ _ _ _ _ _ _ _ was.seats c.seat.invariant.1 c.index_mut.ensures.value c.seat.invariant.0 was.halves c.requires in
    record { mine = can.0; theirs = can.1; number = can.2 }

pub invariant_of-self : goal.invariant_of-self
invariant_of-self g c =
    let o = g.B.Group.site.opened in
    let was = c.args.self.now in
    let step = c.undo_step-undone in
    let n = c.seat.inside.number in
    let is = c.change.ensures.theirs in
    record {
      queue = was.queue;
      seats = count_set _ _ _ _ _ _ _ was.seats c.seat.invariant.1 c.index_mut.ensures.value c.seat.invariant.0 c.change.ensures.agree
          was.halves _ _ is;
      halves = book_set _ _ _ _ _ _ _ was.seats c.seat.invariant.1 c.index_mut.ensures.value c.seat.invariant.0 c.change.ensures.agree
          was.halves _ _ is;
      shared = kept_in o (value_of was.core) (value_of step.new.core) was.pusher.records (map shown was.book.items) _ n step.new.self
          (shown_set _ _ _ _ _ _ _ was.seats c.seat.invariant.1 c.index_mut.ensures.value c.seat.invariant.0 c.change.ensures.agree was.halves _ _ is)
          was.shared (λ shared. undo_kept o (value_of was.core) (value_of step.new.core) was.pusher.records (map shown was.book.items) n
          c.seat.inside.session step.new.self
          (there _ _ _ _ _ _ _ was.seats c.seat.invariant.1 c.index_mut.ensures.value c.seat.invariant.0 c.change.ensures.agree)
          shared c.args.txn step.result step.ensures.foreign step.ensures.served step.ensures.ok step.ensures.unchanged);
    }

pub invariant_of-seat : goal.invariant_of-seat
invariant_of-seat g c = (half_after _ _ _ _ _ _ _ c.seat.invariant.0 refl c.change.ensures.mine, c.seat.invariant.1)

pub returns : goal.returns
returns g c =
    rw (← c.seat.view_is) (
    let was = c.args.self.now in
    let step = c.undo_step-undone in
    let mine = there _ _ _ _ _ _ _ was.seats c.seat.invariant.1 c.index_mut.ensures.value c.seat.invariant.0 c.change.ensures.agree in
    record {
      before = mine;
      foreign = step.ensures.foreign;
      served = step.ensures.served;
      ok = step.ensures.ok;
      refused = step.ensures.unchanged;
      number = refl;
      book = shown_set _ _ _ _ _ _ _ was.seats c.seat.invariant.1 c.index_mut.ensures.value c.seat.invariant.0 c.change.ensures.agree was.halves _ _
          c.change.ensures.theirs;
      pushed = refl;
    })

use Rattle.std.proofs.Common.{map, sym, ap, ◌∙◌, refl, arith}
use Rattle.nsf_core.specs.Value.{value_of}
use Rattle.threads_sessions.specs.Halves.{shown}
use Rattle.threads_sessions.specs.Values.{is_active, is_unfinished}
use Rattle.locked_core.specs.Seats.{SeatValue}
use Rattle.locked_core.proofs.Book.{book_set, changed_after, count_set, half_after, meets, meets_again, shown_set, there}
use Rattle.locked_core.proofs.Kept.{kept_in}
use Rattle.locked_core.proofs.Owed.{next_kept, owes_now}
use Rattle.locked_core.proofs.ReadBack.{step_row}
use Rattle.locked_core.proofs.locked.Locked.next_step.Goals as goal

pub index_mut-theirs-requires : goal.index_mut-theirs-requires
index_mut-theirs-requires g c =
    let was = c.args.self.now in
    omega (arith, was.seats, was.book.ok.0, c.seat.invariant.1)

pub compare-requires : goal.compare-requires
compare-requires g c =
    let was = c.args.self.now in
    let can = meets _ _ _ _ _ _ _ _ was.seats c.seat.invariant.1 c.index_mut-theirs.ensures.value c.seat.invariant.0 was.halves c.requires.registry in
    record { mine = can.0; theirs = can.1; number = can.2 }

pub next_step-stepped-requires : goal.next_step-stepped-requires
next_step-stepped-requires g c = λ own.
    let was = c.args.self.now in
    owes_now g.B.Group.site.opened (value_of was.core) was.pusher.records (map shown was.book.items) c.seat.inside.number c.seat.inside.session
    (there _ _ _ _ _ _ _ was.seats c.seat.invariant.1 c.index_mut-theirs.ensures.value c.seat.invariant.0 c.compare.ensures.agree) was.shared c.args.txn
    (ap (λ (s : SeatValue). is_unfinished s.session c.args.txn) c.seat.view_is
    ∙ c.requires.unfinished (ap (λ (s : SeatValue). is_active s.session c.args.txn) (sym c.seat.view_is) ∙ own))

pub change-requires : goal.change-requires
change-requires g c =
    let was = c.args.self.now in
    let can = meets_again _ _ _ _ _ c.compare.ensures.mine c.compare.ensures.theirs
    (meets _ _ _ _ _ _ _ _ was.seats c.seat.invariant.1 c.index_mut-theirs.ensures.value c.seat.invariant.0 was.halves c.requires.registry) in
    record { mine = can.0; theirs = can.1; number = can.2 }

pub invariant_of-self : goal.invariant_of-self
invariant_of-self g c =
    let o = g.B.Group.site.opened in
    let was = c.args.self.now in
    let step = c.next_step-stepped in
    let n = c.seat.inside.number in
    let is = (changed_after _ _ _ _ c.compare.ensures.theirs c.change.ensures.theirs) in
    record {
      queue = was.queue;
      seats = count_set _ _ _ _ _ _ _ was.seats c.seat.invariant.1 c.index_mut-theirs.ensures.value c.seat.invariant.0 c.compare.ensures.agree
          was.halves _ _ is;
      halves = book_set _ _ _ _ _ _ _ was.seats c.seat.invariant.1 c.index_mut-theirs.ensures.value c.seat.invariant.0 c.compare.ensures.agree
          was.halves _ _ is;
      shared = kept_in o (value_of was.core) (value_of step.new.core) was.pusher.records (map shown was.book.items) _ n step.new.self
          (shown_set _ _ _ _ _ _ _ was.seats c.seat.invariant.1 c.index_mut-theirs.ensures.value c.seat.invariant.0 c.compare.ensures.agree was.halves _ _ is)
          was.shared (λ shared. next_kept o (value_of was.core) (value_of step.new.core) was.pusher.records (map shown was.book.items) n
          c.seat.inside.session step.new.self
          (there _ _ _ _ _ _ _ was.seats c.seat.invariant.1 c.index_mut-theirs.ensures.value c.seat.invariant.0 c.compare.ensures.agree)
          shared c.args.txn step.result step.ensures.foreign step.ensures.served step.ensures.ok step.ensures.unchanged);
    }

pub invariant_of-seat : goal.invariant_of-seat
invariant_of-seat g c = (half_after _ _ _ _ _ _ _ c.seat.invariant.0 c.compare.ensures.mine c.change.ensures.mine, c.seat.invariant.1)

pub returns : goal.returns
returns g c =
    rw (← c.seat.view_is) (
    let was = c.args.self.now in
    let step = c.next_step-stepped in
    let mine = there _ _ _ _ _ _ _ was.seats c.seat.invariant.1 c.index_mut-theirs.ensures.value c.seat.invariant.0 c.compare.ensures.agree in
    record {
      before = mine;
      foreign = step.ensures.foreign;
      served = step.ensures.served;
      ok = step.ensures.ok;
      row = step_row g.B.Group.site.opened (value_of was.core) (value_of step.new.core) was.pusher.records (map shown was.book.items)
          c.seat.inside.number c.seat.inside.session step.new.self mine
          was.shared c.args.txn step.result step.ensures.foreign step.ensures.served step.ensures.ok;
      refused = step.ensures.unchanged;
      number = refl;
      book = shown_set _ _ _ _ _ _ _ was.seats c.seat.invariant.1 c.index_mut-theirs.ensures.value c.seat.invariant.0 c.compare.ensures.agree was.halves _ _
          (changed_after _ _ _ _ c.compare.ensures.theirs c.change.ensures.theirs);
      pushed = refl;
    })

use Rattle.std.proofs.Common.{map, refl, arith}
use Rattle.records.specs.declared.record.Action.TheVariants.{OfIndex}
use Rattle.records.specs.declared.record.IndexAction.{IndexAction}
use Rattle.core_model.specs.Events.{Event}
use Rattle.nsf_core.specs.Value.{value_of}
use Rattle.threads_register.proofs.Laws.{create_record}
use Rattle.threads_sessions.specs.Halves.{shown}
use Rattle.locked_core.proofs.Book.{book_set, count_set, half_after, meets, shown_set, there}
use Rattle.locked_core.proofs.Kept.{create_kept, kept_in}
use Rattle.locked_core.proofs.Recorded.{recorded}
use Rattle.locked_core.proofs.locked.Locked.create_index.Goals as goal

pub index_mut-requires : goal.index_mut-requires
index_mut-requires g c =
    let was = c.args.self.now in
    omega (arith, was.seats, was.book.ok.0, c.seat.invariant.1)

pub change-requires : goal.change-requires
change-requires g c =
    let was = c.args.self.now in
    let can = meets _ _ _ _ _ _ _ _ was.seats c.seat.invariant.1 c.index_mut.ensures.value c.seat.invariant.0 was.halves c.requires in
    record { mine = can.0; theirs = can.1; number = can.2 }

pub invariant_of-self : goal.invariant_of-self
invariant_of-self g c =
    let o = g.B.Group.site.opened in
    let was = c.args.self.now in
    let step = c.create_index-created in
    let n = c.seat.inside.number in
    let is = c.change.ensures.theirs in
    record {
      queue = was.queue;
      seats = count_set _ _ _ _ _ _ _ was.seats c.seat.invariant.1 c.index_mut.ensures.value c.seat.invariant.0 c.change.ensures.agree
          was.halves _ _ is;
      halves = book_set _ _ _ _ _ _ _ was.seats c.seat.invariant.1 c.index_mut.ensures.value c.seat.invariant.0 c.change.ensures.agree
          was.halves _ _ is;
      shared = kept_in o (value_of was.core) (value_of step.new.core) was.pusher.records (map shown was.book.items) _ n step.new.self
          (shown_set _ _ _ _ _ _ _ was.seats c.seat.invariant.1 c.index_mut.ensures.value c.seat.invariant.0 c.change.ensures.agree was.halves _ _ is)
          was.shared (λ shared. create_kept o (value_of was.core) (value_of step.new.core) was.pusher.records (map shown was.book.items) n
          c.seat.inside.session step.new.self
          (there _ _ _ _ _ _ _ was.seats c.seat.invariant.1 c.index_mut.ensures.value c.seat.invariant.0 c.change.ensures.agree)
          shared step.result step.ensures.served step.ensures.ok step.ensures.unchanged);
    }

pub invariant_of-seat : goal.invariant_of-seat
invariant_of-seat g c = (half_after _ _ _ _ _ _ _ c.seat.invariant.0 refl c.change.ensures.mine, c.seat.invariant.1)

pub returns : goal.returns
returns g c =
    rw (← c.seat.view_is) (
    let was = c.args.self.now in
    let step = c.create_index-created in
    let new = value_of step.new.core in
    let mine = there _ _ _ _ _ _ _ was.seats c.seat.invariant.1 c.index_mut.ensures.value c.seat.invariant.0 c.change.ensures.agree in
    record {
      before = mine;
      served = step.ensures.served;
      ok = step.ensures.ok;
      recorded = recorded g.B.Group.site.opened (value_of was.core) new was.pusher.records (map shown was.book.items)
          was.shared Event.Create (OfIndex IndexAction.Create)
          (λ kept ticket serves. create_record g.B.Group.site.opened was.pusher.records (value_of was.core) kept ticket new serves) step.result
          step.ensures.served;
      refused = step.ensures.unchanged;
      number = refl;
      book = shown_set _ _ _ _ _ _ _ was.seats c.seat.invariant.1 c.index_mut.ensures.value c.seat.invariant.0 c.change.ensures.agree was.halves _ _
          c.change.ensures.theirs;
      pushed = refl;
    })

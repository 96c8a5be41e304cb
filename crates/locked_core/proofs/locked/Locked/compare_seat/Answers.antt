use Rattle.std.proofs.Common.{List, refl, ap, ◌∙◌, subst, sym, arith}
use Rattle.nsf_core.specs.Value.{value_of}
use Rattle.threads_sessions.specs.Values.{SessionValue}
use Rattle.locked_core.specs.Locked.{LockedValue}
use Rattle.locked_core.specs.Names.{IsShared}
use Rattle.locked_core.proofs.Book.{book_set, count_set, meets, same_set, there}
use Rattle.locked_core.proofs.locked.Locked.compare_seat.Goals as goal

pub index_mut-requires : goal.index_mut-requires
index_mut-requires g c =
    let was = c.args.self.now in
    omega (arith, was.seats, was.book.ok.0, c.seat.invariant.1)

pub compare-requires : goal.compare-requires
compare-requires g c =
    let was = c.args.self.now in
    let can = meets _ _ _ _ _ _ _ _ was.seats c.seat.invariant.1 c.index_mut.ensures.value c.seat.invariant.0 was.halves c.requires in
    record { mine = can.0; theirs = can.1; number = can.2 }

pub invariant_of-self : goal.invariant_of-self
invariant_of-self g c =
    let o = g.B.Group.site.opened in
    let was = c.args.self.now in
    let is = c.compare.ensures.theirs in
    record {
      queue = was.queue;
      seats = count_set _ _ _ _ _ _ _ was.seats c.seat.invariant.1 c.index_mut.ensures.value c.seat.invariant.0 c.compare.ensures.agree
          was.halves _ c.index_mut.result.now.session is;
      halves = book_set _ _ _ _ _ _ _ was.seats c.seat.invariant.1 c.index_mut.ensures.value c.seat.invariant.0 c.compare.ensures.agree
          was.halves _ c.index_mut.result.now.session is;
      shared = subst (λ (l : List SessionValue). ∥ IsShared o (value_of was.core) was.pusher.records l ∥₁)
          (sym (same_set _ _ _ _ _ _ _ was.seats c.seat.invariant.1 c.index_mut.ensures.value c.seat.invariant.0 c.compare.ensures.agree _ is)) was.shared;
    }

pub invariant_of-seat : goal.invariant_of-seat
invariant_of-seat g c = (c.compare.ensures.mine ∙ c.seat.invariant.0, c.seat.invariant.1)

pub returns : goal.returns
returns g c =
    rw (← c.seat.view_is) (
    let was = c.args.self.now in
    record {
      before = there _ _ _ _ _ _ _ was.seats c.seat.invariant.1 c.index_mut.ensures.value c.seat.invariant.0 c.compare.ensures.agree;
      seat = refl;
      same = ap (λ (book : List SessionValue). (λ (l : LockedValue). l) (record { core = value_of was.core; pushed = was.pusher.records; book = book }))
          (same_set _ _ _ _ _ _ _ was.seats c.seat.invariant.1 c.index_mut.ensures.value c.seat.invariant.0 c.compare.ensures.agree _ c.compare.ensures.theirs);
    })

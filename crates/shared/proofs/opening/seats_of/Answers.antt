use Rattle.std.proofs.Common.{◌≡◌, ℕ, ap, ◌∙◌, arith, length, subst, sym}
use Rattle.std.proofs.lemmas.Result.{err_from_is_err_and}
use Rattle.board.specs.Views.{Sighting}
use Rattle.locked_core.specs.Seats.{SeatValue}
use Rattle.shared.specs.Seats.{AreNewSeats}
use Rattle.shared.proofs.Seats.{all_halves, first_half, more_seats, no_seats, rest_halves, sees_nothing, stays_blind}
use Rattle.shared.proofs.opening.seats_of.Goals as goal

pub returns-in_err-seats : goal.returns-in_err-seats
returns-in_err-seats g c =
    let p = err_from_is_err_and c.from_residual.result c.from_residual.ensures.1 in
    rw p.1 (record { seats = tt; no_memory = p.2 })

pub another-view-requires : goal.another-view-requires
another-view-requires g c = c.loop-half.invariant.board ∙ sym c.requires.board

pub new-part-requires : goal.new-part-requires
new-part-requires g c = record {
  half = first_half g.B.Group.site.table c.loop-half.number _ _ c.in-Some.half c.loop-half.invariant.halves c.in-Some.ensures.steps.0;
  number = omega (arith, c.loop-half.invariant.left, ap length c.in-Some.ensures.steps.0);
}

pub invariant_of-push_reserved : goal.invariant_of-push_reserved
invariant_of-push_reserved g c =
    let leaves = c.another-view.ensures.leaves in
    let was = c.loop-half.invariant in (
      ap (λ (v : Sighting). v.board) leaves ∙ was.board,
      sym (ap (λ (v : Sighting). v.mark) leaves ∙ ap (λ (v : Sighting). v.mark) was.nothing),
    )

pub push_reserved-requires : goal.push_reserved-requires
push_reserved-requires g c = omega (arith, c.loop-half.invariant.room, ap length c.in-Some.ensures.steps.0, c.loop-half.seats.ok.0)

pub loop-half-preserved : goal.loop-half-preserved
loop-half-preserved g c =
    let was = c.loop-half.invariant in
    let is = c.new-part.ensures in
    record {
      seats = more_seats g.B.Group.site.board c.loop-half.number c.loop-half.seats.items c.push_reserved.new.self.items _ was.seats (
        ap (λ (s : SeatValue). s.number) is,
        ap (λ (s : SeatValue). s.session) is,
        sees_nothing g.B.Group.site.board c.loop-half.view _ _ was.nothing c.another-view.ensures.leaves,
      ) c.push_reserved.ensures.items;
      board = ap (λ (v : Sighting). v.board) c.another-view.ensures.stays ∙ was.board;
      nothing = stays_blind g.B.Group.site.board c.loop-half.view _ _ was.nothing c.another-view.ensures.stays;
      left = omega (arith, was.left, ap length c.in-Some.ensures.steps.0);
      halves = rest_halves g.B.Group.site.table c.loop-half.number _ _ c.in-Some.half was.halves c.in-Some.ensures.steps.0;
      room = omega (
        arith,
        was.room,
        ap length c.in-Some.ensures.steps.0,
        c.push_reserved.ensures.len,
        c.push_reserved.ensures.capacity,
        c.loop-half.seats.ok.0,
        c.push_reserved.new.self.ok.0,
      );
    }

pub loop-half-init : goal.loop-half-init
loop-half-init g c =
    let z = g.B.Group.site in
    let all = c.into_iter-half-iterator.ensures.into_iter_gives.0 in
    record {
      seats = no_seats z.board c.in_ok-seats.seats.items c.in_ok-seats.ensures.items;
      board = ap (λ (v : Sighting). v.board) c.requires.view;
      nothing = c.requires.view;
      left = omega (arith, ap length all, c.requires.counted);
      halves = all_halves z.table _ _ c.requires.halves all;
      room = omega (arith, ap length all, c.in_ok-seats.ensures.exact, ap length c.in_ok-seats.ensures.items, c.len.ensures, c.args.halves.ok.0);
    }

pub returns : goal.returns
returns g c =
    let z = g.B.Group.site in
    let none = c.in-None.ensures.steps.0 in
    let all : c.loop-half.number ≡ z.seats = omega (arith, c.loop-half.invariant.left, none, c.loop-half.half-iterator.rest.ok) in
    record { seats = subst (λ (n : ℕ). AreNewSeats z.board n c.loop-half.seats.items) all c.loop-half.invariant.seats; no_memory = tt }

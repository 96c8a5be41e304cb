use Rattle.std.proofs.Common.{ap, ◌∙◌}
use Rattle.nsf.specs.Seats.{SeatValue}
use Rattle.test_nsf.proofs.busy.turn.Goals as goal

pub returns-in_err-txn : goal.returns-in_err-txn
returns-in_err-txn g c =
    let n = λ (s : SeatValue). s.number in
    ap n c.in_err-txn.ensures.refused

pub returns-in_err-key : goal.returns-in_err-key
returns-in_err-key g c =
    let n = λ (s : SeatValue). s.number in
    ap n c.in_ok-txn.ensures.ok

pub returns-in_err-new : goal.returns-in_err-new
returns-in_err-new g c =
    let n = λ (s : SeatValue). s.number in
    ap n c.in_ok-txn.ensures.ok

pub returns-in_err-insert_if_ready : goal.returns-in_err-insert_if_ready
returns-in_err-insert_if_ready g c =
    let n = λ (s : SeatValue). s.number in
    ap n c.in_err-insert_if_ready.ensures.seat ∙ ap n c.in_ok-txn.ensures.ok

pub returns-in_err-rid : goal.returns-in_err-rid
returns-in_err-rid g c =
    let n = λ (s : SeatValue). s.number in
    ap n c.in_ok-insert_if_ready.ensures.seat ∙ ap n c.in_ok-txn.ensures.ok

pub returns-in_err-delete_if_ready : goal.returns-in_err-delete_if_ready
returns-in_err-delete_if_ready g c =
    let n = λ (s : SeatValue). s.number in
    ap n c.in_err-delete_if_ready.ensures.seat ∙ ap n c.in_ok-insert_if_ready.ensures.seat ∙ ap n c.in_ok-txn.ensures.ok

pub returns-in_err-whole : goal.returns-in_err-whole
returns-in_err-whole g c =
    let n = λ (s : SeatValue). s.number in
    ap n c.in_ok-delete_if_ready.ensures.seat ∙ ap n c.in_ok-insert_if_ready.ensures.seat ∙ ap n c.in_ok-txn.ensures.ok

pub returns-in_err-commit_if_ready : goal.returns-in_err-commit_if_ready
returns-in_err-commit_if_ready g c =
    let n = λ (s : SeatValue). s.number in
    ap n c.in_err-commit_if_ready.ensures.seat ∙ ap n c.in_ok-delete_if_ready.ensures.seat ∙ ap n c.in_ok-insert_if_ready.ensures.seat
    ∙ ap n c.in_ok-txn.ensures.ok

pub returns : goal.returns
returns g c =
    let n = λ (s : SeatValue). s.number in
    ap n c.in_ok-commit_if_ready.ensures.seat ∙ ap n c.in_ok-delete_if_ready.ensures.seat ∙ ap n c.in_ok-insert_if_ready.ensures.seat
    ∙ ap n c.in_ok-txn.ensures.ok

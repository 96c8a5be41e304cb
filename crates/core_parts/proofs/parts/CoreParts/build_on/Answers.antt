use Rattle.std.proofs.Common.{arith, sym, ◌<◌, ◌≤◌}
use Rattle.std.proofs.lemmas.Result.{err_from_is_err_and}
use Rattle.record_values.specs.declared.limits.TheConstants.{ATTEMPTS_PER_CHECKPOINT}
use Rattle.core_parts.specs.Parts.{parts_of}
use Rattle.core_parts.proofs.Building.{attempt_serves, checkpoint_serves, finish_serves, no_checkpoint, no_finish, no_page, page_serves}
use Rattle.core_parts.proofs.parts.CoreParts.build_on.Goals as goal

pub returns-in_err-ticket : goal.returns-in_err-ticket
returns-in_err-ticket g c =
    let p = err_from_is_err_and c.from_residual.result c.from_residual.ensures.1 in
    let many : ATTEMPTS_PER_CHECKPOINT ≤ (parts_of c.args.self.now).tried = omega (arith, c.from.ensures, c.if-self-from.true) in
    rw (p.1, p.2) (no_checkpoint (parts_of c.args.self.now) c.requires.building many c.last_attempted-pair.result c.last_attempted-pair.ensures _ _
    c.in_err-ticket.ensures.refused c.in_err-ticket.ensures.unchanged)

pub returns-then-self-from : goal.returns-then-self-from
returns-then-self-from g c =
    let many : ATTEMPTS_PER_CHECKPOINT ≤ (parts_of c.args.self.now).tried = omega (arith, c.from.ensures, c.if-self-from.true) in
    checkpoint_serves (parts_of c.args.self.now) c.requires.building many c.last_attempted-pair.result c.last_attempted-pair.ensures _ _
    c.in_ok-ticket.ensures.ticket c.in_ok-ticket.ensures.no_commit c.in_ok-ticket.ensures.left c.in_ok-ticket.ensures.ok

pub returns-in_err-take_page : goal.returns-in_err-take_page
returns-in_err-take_page g c =
    let p = err_from_is_err_and c.from_residual-in_err-take_page.result c.from_residual-in_err-take_page.ensures.1 in
    let few : (parts_of c.args.self.now).tried < ATTEMPTS_PER_CHECKPOINT = omega (arith, c.from.ensures, c.if-self-from.false) in
    rw (p.1, p.2) (no_page (parts_of c.args.self.now) c.requires.building few c.in-Some.page
    (sym c.in-Some.ensures.page) _ _ c.in_err-take_page.ensures.no_memory c.in_err-take_page.ensures.unchanged)

pub returns-in-Some : goal.returns-in-Some
returns-in-Some g c =
    let few : (parts_of c.args.self.now).tried < ATTEMPTS_PER_CHECKPOINT = omega (arith, c.from.ensures, c.if-self-from.false) in
    page_serves (parts_of c.args.self.now) c.requires.building few c.in-Some.page (sym c.in-Some.ensures.page) _ c.in_ok-take_page.ensures.taken

pub returns-in-Some-next : goal.returns-in-Some-next
returns-in-Some-next g c =
    let few : (parts_of c.args.self.now).tried < ATTEMPTS_PER_CHECKPOINT = omega (arith, c.from.ensures, c.if-self-from.false) in
    attempt_serves (parts_of c.args.self.now) c.requires.building few c.in-Some-next.pair c.in-Some-next.ensures.next _ _ c.attempt.ensures.attempted
    c.attempt.ensures.refused c.attempt.ensures.unchanged

pub returns-in_err-ticket-2 : goal.returns-in_err-ticket-2
returns-in_err-ticket-2 g c =
    let p = err_from_is_err_and c.from_residual-in_err-ticket-2.result c.from_residual-in_err-ticket-2.ensures.1 in
    let few : (parts_of c.args.self.now).tried < ATTEMPTS_PER_CHECKPOINT = omega (arith, c.from.ensures, c.if-self-from.false) in
    rw (p.1, p.2) (no_finish (parts_of c.args.self.now) c.requires.building few
    (c.in_default-next.ensures.end (sym c.in_default.ensures.page)) _ _ c.in_err-ticket-2.ensures.refused c.in_err-ticket-2.ensures.unchanged)

pub returns : goal.returns
returns g c =
    let few : (parts_of c.args.self.now).tried < ATTEMPTS_PER_CHECKPOINT = omega (arith, c.from.ensures, c.if-self-from.false) in
    finish_serves (parts_of c.args.self.now) c.requires.building few
    (c.in_default-next.ensures.end (sym c.in_default.ensures.page)) _ _ c.in_ok-ticket-2.ensures.ticket c.in_ok-ticket-2.ensures.no_commit
    c.in_ok-ticket-2.ensures.left c.in_ok-ticket-2.ensures.ok

use Rattle.std.proofs.Common.{◌≡◌, ◌++◌, ◌∷◌, [], IfSome, List, Option, refl, subst, sym}
use Rattle.core_parts.specs.declared.parts.Ticket.{Ticket}
use Rattle.shared.specs.Seats.{AckValue}
use Rattle.program_team.specs.Private.{HasMade, Tells}
use Rattle.program_team.specs.declared.writer.Acknowledged.{Acknowledged}
use Rattle.program_team.proofs.Keeping.{adds_none, tells_more, tells_one}
use Rattle.program_team.proofs.writer.note.Goals as goal

pub returns-clause-tells : goal.returns-clause-tells
returns-clause-tells g c tells =
    let w = c.args.writer.now in
    let made = subst (λ (o : Option (Ticket × AckValue)). IfSome o (λ a. HasMade w.seat a.0 × (a.1.ticket ≡ a.0))) c.in-Some.is c.requires in
    subst (λ (list : List AckValue). Tells w.seat list c.push-2.new.self.items) (sym c.in_ok-push.ensures.items)
    (subst (λ (list : List Acknowledged). Tells w.seat (w.acks.items ++ c.in-Some.ack ∷ []) list) (sym c.in_ok-push-2.ensures.items)
    (tells_one w.seat w.acks.items c.in-Some.ack w.acknowledged.items
    (record { writer = w.number; change = c.args.turn.change; «record» = c.in-Some.ticket.«record»; commit = c.in-Some.ticket.commit }) made.0 made.1 tells))

pub returns-in_err-push-2-clause-tells : goal.returns-in_err-push-2-clause-tells
returns-in_err-push-2-clause-tells g c tells =
    let w = c.args.writer.now in
    subst (λ (list : List AckValue). Tells w.seat list c.push-2.new.self.items) (sym c.in_ok-push.ensures.items)
    (subst (λ (list : List Acknowledged). Tells w.seat (w.acks.items ++ c.in-Some.ack ∷ []) list) (sym c.in_err-push-2.ensures.items)
    (tells_more w.seat w.seat w.acks.items (c.in-Some.ack ∷ []) w.acknowledged.items (adds_none w.seat w.seat (refl, refl)) tells))

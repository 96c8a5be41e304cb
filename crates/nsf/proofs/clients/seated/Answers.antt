use Rattle.std.proofs.Common.{◌∙◌, ap, length, subst, sym}
use Rattle.std.proofs.lemmas.List.{length-map}
use Rattle.std.proofs.lemmas.Result.{err_from_is_err_and}
use Rattle.nsf.specs.Serving.{HasRoom}
use Rattle.nsf.proofs.clients.seated.Goals as goal

pub returns : goal.returns
returns g c =
    let given = c.in_ok-chairs.ensures in
    let chairs = c.in_ok-chairs.chairs in
    let room = c.in_ok-room.room in
    let has = c.in_ok-room.ensures in
    record {
      seats = given.seats;
      clients = chairs.ok.0 ∙ (sym (length-map chairs.items (λ d. d.client)) ∙ (ap length given.clients ∙ sym c.args.clients.ok.0));
      order = given.clients;
      room = subst (HasRoom room.clients) c.len.ensures has.clients;
      places = subst (HasRoom room.seats) c.len.ensures has.seats;
      marks = subst (HasRoom room.marks) c.len.ensures has.marks;
    }

pub returns-in_err-chairs : goal.returns-in_err-chairs
returns-in_err-chairs g c =
    rw (err_from_is_err_and c.from_residual.result c.from_residual.ensures.1).1
    (record { seats = tt; clients = tt; order = tt; room = tt; places = tt; marks = tt })

pub returns-in_err-room : goal.returns-in_err-room
returns-in_err-room g c =
    rw (err_from_is_err_and c.from_residual-in_err-room.result c.from_residual-in_err-room.ensures.1).1
    (record { seats = tt; clients = tt; order = tt; room = tt; places = tt; marks = tt })

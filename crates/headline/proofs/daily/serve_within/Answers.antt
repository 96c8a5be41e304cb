use Rattle.std.proofs.Common.{inl, inr, refl}
use Rattle.std.proofs.lemmas.List.{nil_from_length}
use Rattle.headline.proofs.daily.serve_within.Goals as goal

pub returns-in-None : goal.returns-in-None
returns-in-None g c = inl (nil_from_length c.args.requests.now c.in-None.ensures.cases, c.new.ensures.items, refl, refl)

pub returns-in-Ok : goal.returns-in-Ok
returns-in-Ok g c = inr (c.in-Some.events.now, c.in-Some.last.now, c.in-Some.ensures.cases.0, c.in-Ok.ensures.served)

pub returns-in-Err : goal.returns-in-Err
returns-in-Err g c = (c.in-Err.ensures.no_memory, refl, c.in-Err.ensures.refused)

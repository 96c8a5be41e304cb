use Rattle.core_parts.proofs.parts.CoreParts.put.Goals as goal

pub place-requires : goal.place-requires
place-requires g c = record { number = c.in-Ok.ensures.number; left = c.in-Ok.ensures.left }

pub returns-in-Ok : goal.returns-in-Ok
returns-in-Ok g c = record { put = c.place.ensures.put; refused = c.place.ensures.refused; unchanged = c.place.ensures.unchanged }

pub reject-requires : goal.reject-requires
reject-requires g c = record { exhausted = c.in-Err.ensures.exhausted.1 }

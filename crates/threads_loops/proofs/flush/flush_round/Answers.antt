use Rattle.threads_loops.proofs.flush.flush_round.Goals as goal

pub round-requires : goal.round-requires
round-requires g c = record { copying = c.requires.copying }

pub returns : goal.returns
returns g c = record { through = c.round.ensures.through; copying = c.round.ensures.copying }

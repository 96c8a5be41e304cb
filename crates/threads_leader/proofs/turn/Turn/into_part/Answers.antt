use Rattle.threads_leader.proofs.turn.Turn.into_part.Goals as goal

pub returns : goal.returns
returns g c = c.self.invariant

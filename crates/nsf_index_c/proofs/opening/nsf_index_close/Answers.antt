use Rattle.std.proofs.Common.{inl, refl}
use Rattle.nsf_index_c.proofs.opening.nsf_index_close.Goals as goal

pub returns-in-Some-clause-status : goal.returns-in-Some-clause-status
returns-in-Some-clause-status c = inl (refl, (c.in-Some._held.value, c.in-Some.ensures.taken))

use Rattle.std.proofs.Common.{inr, refl}
use Rattle.nsf_index_c.proofs.held.Held.make_asked.Goals as goal

pub returns-in-Err : goal.returns-in-Err
returns-in-Err c = inr (c.in-Err.ensures.bad, refl)

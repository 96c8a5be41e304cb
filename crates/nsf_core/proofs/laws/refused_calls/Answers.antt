use Rattle.nsf_core.proofs.Refusing.{refused_unchanged}
use Rattle.nsf_core.proofs.laws.refused_calls.Goals as goal

pub returns : goal.returns
returns c = refused_unchanged

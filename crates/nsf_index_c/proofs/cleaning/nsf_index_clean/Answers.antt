use Rattle.std.proofs.Common.{inr, subst}
use Rattle.nsf_index_c.specs.Cleaning.{Cleans}
use Rattle.nsf_index_c.specs.Seen.{Seen}
use Rattle.nsf_index_c.proofs.cleaning.nsf_index_clean.Goals as goal

pub returns : goal.returns
returns c = inr (
  c.in-Some.held.value,
  c.clean-cleaned.new.self,
  c.in-Some.ensures.taken,
  c.put.ensures,
  subst (λ (v : Seen).
      Cleans c.args.pair.now c.clean-cleaned.result.status c.clean-cleaned.result.did v c.clean-cleaned.new.self)
      c.deref_mut.ensures.value c.clean-cleaned.ensures,
)

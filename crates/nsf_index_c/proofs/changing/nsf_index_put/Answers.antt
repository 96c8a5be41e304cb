use Rattle.std.proofs.Common.{inr, subst}
use Rattle.nsf_index_c.specs.Changing.{IsPairless, IsPutOf, MakesAsked}
use Rattle.nsf_index_c.specs.Seen.{Seen}
use Rattle.nsf_index_c.proofs.changing.nsf_index_put.Goals as goal

pub returns : goal.returns
returns c = inr (
  c.in-Some.held.value,
  c.put-status.new.self,
  c.in-Some.ensures.taken,
  c.put.ensures,
  subst (λ (v : Seen). MakesAsked (IsPutOf c.args.pair.now) (IsPairless c.args.pair.now) c.put-status.result v c.put-status.new.self)
      c.deref_mut.ensures.value c.put-status.ensures,
)

use Rattle.std.proofs.Common.{inr, subst}
use Rattle.nsf_index_c.specs.Changing.{IsMarkOf, IsPairless, MakesAsked}
use Rattle.nsf_index_c.specs.Seen.{Seen}
use Rattle.nsf_index_c.proofs.changing.nsf_index_mark.Goals as goal

pub returns : goal.returns
returns c = inr (
  c.in-Some.held.value,
  c.mark-status.new.self,
  c.in-Some.ensures.taken,
  c.put.ensures,
  subst (λ (v : Seen). MakesAsked (IsMarkOf c.args.pair.now) (IsPairless c.args.pair.now) c.mark-status.result v c.mark-status.new.self)
      c.deref_mut.ensures.value c.mark-status.ensures,
)

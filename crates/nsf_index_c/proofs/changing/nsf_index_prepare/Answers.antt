use Rattle.std.proofs.Common.{inr, subst}
use Rattle.nsf_index_c.specs.Changing.{AsksPrepared, IsNotPrepared, MakesAsked}
use Rattle.nsf_index_c.specs.Seen.{Seen}
use Rattle.nsf_index_c.proofs.changing.nsf_index_prepare.Goals as goal

pub returns : goal.returns
returns c = inr (
  c.in-Some.held.value,
  c.prepare-status.new.self,
  c.in-Some.ensures.taken,
  c.put.ensures,
  subst (λ (v : Seen). MakesAsked (AsksPrepared c.args.change.now) (IsNotPrepared c.args.change.now) c.prepare-status.result v c.prepare-status.new.self)
      c.deref_mut.ensures.value c.prepare-status.ensures,
)

use Rattle.std.proofs.Common.{inr, subst}
use Rattle.nsf_index_c.specs.Opening.{Reopens}
use Rattle.nsf_index_c.specs.Seen.{Seen}
use Rattle.nsf_index_c.proofs.opening.nsf_index_reopen.Goals as goal

pub returns : goal.returns
returns c = inr (
  c.in-Some.held.value,
  c.reopen-status.new.self,
  c.in-Some.ensures.taken,
  c.put.ensures,
  subst (λ (v : Seen). Reopens c.args.pages c.reopen-status.result v c.reopen-status.new.self) c.deref_mut.ensures.value c.reopen-status.ensures,
)

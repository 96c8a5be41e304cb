use Rattle.std.proofs.Common.{inr, subst}
use Rattle.nsf_index_c.specs.Applying.{Applies}
use Rattle.nsf_index_c.specs.Seen.{Seen}
use Rattle.nsf_index_c.proofs.changing.nsf_index_apply.Goals as goal

pub returns : goal.returns
returns c = inr (
  c.in-Some.held.value,
  c.apply-status.new.self,
  c.in-Some.ensures.taken,
  c.put.ensures,
  subst (λ (v : Seen).
      Applies c.args.changes.now c.apply-status.result c.apply-status.new.made v c.apply-status.new.self)
      c.deref_mut.ensures.value c.apply-status.ensures,
)

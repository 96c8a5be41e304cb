use Rattle.std.proofs.Common.{inr, subst}
use Rattle.nsf_index_c.specs.Opening.{Redoes}
use Rattle.nsf_index_c.specs.Seen.{Seen}
use Rattle.nsf_index_c.proofs.opening.nsf_index_redo.Goals as goal

pub returns : goal.returns
returns c = inr (
  c.in-Some.held.value,
  c.redo-status.new.self,
  c.in-Some.ensures.taken,
  c.put.ensures,
  subst (λ (v : Seen). Redoes c.args.record.now c.redo-status.result v c.redo-status.new.self) c.deref_mut.ensures.value c.redo-status.ensures,
)

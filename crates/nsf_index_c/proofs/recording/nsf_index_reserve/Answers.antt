use Rattle.std.proofs.Common.{inr, ◌∙◌}
use Rattle.nsf_index_c.proofs.recording.nsf_index_reserve.Goals as goal

pub returns : goal.returns
returns c = inr (
  c.in-Some.held.value,
  c.reserve-status.new.self,
  c.in-Some.ensures.taken,
  c.put.ensures,
  (c.reserve-status.ensures.0 ∙ c.deref_mut.ensures.value, c.reserve-status.ensures.1),
)

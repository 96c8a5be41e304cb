use Rattle.std.proofs.Common.{ap, inr, refl, ◌∙◌}
use Rattle.nsf_index_c.specs.Reading.{stat_of}
use Rattle.nsf_index_c.proofs.reading.nsf_index_stat.Goals as goal

pub returns : goal.returns
returns c = inr (
  c.in-Some.held.value,
  c.in-Some.held.value,
  c.in-Some.ensures.taken,
  c.put.ensures,
  (refl, refl, c.stat.ensures ∙ ap stat_of c.deref.ensures),
)

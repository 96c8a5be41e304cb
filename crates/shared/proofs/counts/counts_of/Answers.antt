use Rattle.std.proofs.Common.{subst}
use Rattle.core_parts.specs.View.{CoreValue}
use Rattle.nsf_core.specs.Counts.{AreCounts}
use Rattle.shared.proofs.counts.counts_of.Goals as goal

pub returns : goal.returns
returns g c = subst (λ (core : CoreValue). AreCounts core c.counts.result) c.core.ensures (record {
  rows = c.counts.ensures.rows;
  entries = c.counts.ensures.entries;
  marked = c.counts.ensures.marked;
  visible = c.counts.ensures.visible;
})

use Rattle.marked_index.proofs.Counted.{counted_none}
use Rattle.marked_index.proofs.entries.Entries.take.Goals as goal

pub invariant_of-self : goal.invariant_of-self
invariant_of-self g c = counted_none _ c.take.ensures.empty

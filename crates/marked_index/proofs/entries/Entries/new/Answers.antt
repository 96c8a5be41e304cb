use Rattle.marked_index.proofs.Counted.{counted_none}
use Rattle.marked_index.proofs.entries.Entries.new.Goals as goal

pub invariant_of-result : goal.invariant_of-result
invariant_of-result g c = counted_none _ c.new.ensures.empty

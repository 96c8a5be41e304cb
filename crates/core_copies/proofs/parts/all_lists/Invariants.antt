use Rattle.nsf_core.specs.Value.{value_of}
use Rattle.core_copies.proofs.Listing.{AreListedTo}
use Rattle.core_copies.proofs.parts.all_lists.Given as goal

abbrev pub invariant-loop-index : goal.invariant-loop-index
invariant-loop-index g l = AreListedTo (value_of l.core).txns.active l.index l.lists

use Rattle.marked_index.proofs.Listing.{IsListed, left}
use Rattle.marked_index.proofs.index.MarkedIndex.shown_of.Given as goal

abbrev pub invariant-loop-next : goal.invariant-loop-next
invariant-loop-next g l = IsListed l.self.entries l.key l.next l.shown.items

abbrev pub decreases-loop-next : goal.decreases-loop-next
decreases-loop-next g l = left l.self.entries l.key l.next

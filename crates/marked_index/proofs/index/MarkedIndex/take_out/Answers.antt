use Rattle.std.proofs.Common.{is_some, sym, ap}
use Rattle.marked_index.proofs.Actions.{room_removed, removed_none}
use Rattle.marked_index.proofs.index.MarkedIndex.take_out.Goals as goal

pub invariant_of-self : goal.invariant_of-self
invariant_of-self g c = room_removed c.self.inside.entries _ c.args.pair.now _ _ c.self.invariant c.remove.ensures

pub returns-in_default : goal.returns-in_default
returns-in_default g c = removed_none c.args.self.now c.args.pair.now (ap is_some (sym c.in_default.ensures))

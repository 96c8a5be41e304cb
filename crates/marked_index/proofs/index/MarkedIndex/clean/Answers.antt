use Rattle.std.proofs.Common.{◌≡◌, Some, ◌∙◌}
use Rattle.record_values.specs.declared.pair.Mark.TheVariants.{Marked}
use Rattle.marked_index.proofs.Actions.{room_removed, after_no_clean}
use Rattle.marked_index.proofs.index.MarkedIndex.clean.Goals as goal
use Rattle.marked_index.proofs.index.MarkedIndex.clean.Goals.{then-is_marked, else-is_marked}

pub invariant_of-self : goal.invariant_of-self
invariant_of-self g c = room_removed c.self.inside.entries _ c.args.pair.now _ _ c.self.invariant c.remove.ensures

pub returns-else-takes_out-clause-entries : goal.returns-else-takes_out-clause-entries
returns-else-takes_out-clause-entries g c =
    after_no_clean c.args.self.now c.args.pair.now c.args.allowed (elim c.if-is_marked.branch [
      | then-is_marked w ↦ λ is marked. absurd (cc (is, w.takes_out-is, c.if-takes_out.false))
      | else-is_marked w ↦ λ is marked.
          let found : c.get.result ≡ Some Marked = c.get.ensures ∙ marked in
          let tested = rw found at c.eq-is_marked.ensures in
          absurd (cc (tested, w.if-is_marked.false))
    ])

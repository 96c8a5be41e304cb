use Rattle.std.proofs.Common.{arith, ◌≡◌, ◌<◌, true, is_some, sym, subst}
use Rattle.std.specs.FinMap as map
use Rattle.marked_index.specs.Index.{IndexValue, IsAbsent}
use Rattle.marked_index.proofs.Actions.{room_changed, room_added, there_of}
use Rattle.marked_index.proofs.index.MarkedIndex.step.Goals as goal

pub invariant_of-self-then-not-is_added : goal.invariant_of-self-then-not-is_added
invariant_of-self-then-not-is_added g c =
    let there : is_some (map.get c.self.inside.entries c.args.pair.now) ≡ true =
    there_of _ c.in_ok-is_added.is_added c.in_ok-is_added.ensures.added c.if-not-is_added.true in
    room_changed c.self.inside.entries _ c.args.pair.now c.args.mark _ _ c.self.invariant there c.in_ok-is_added.ensures.set

pub invariant_of-self-2 : goal.invariant_of-self-2
invariant_of-self-2 g c =
    let none : IsAbsent c.self.inside.entries c.args.pair.now = c.in_ok-is_added.ensures.added.0 c.if-not-is_added.false in
    let absent : IsAbsent c.args.self.now.entries c.args.pair.now = subst (λ (v : IndexValue). IsAbsent v.entries c.args.pair.now) c.self.view_is none in
    let place : 0 < c.self.inside.pledged = subst (λ (v : IndexValue). 0 < v.pledged) (sym c.self.view_is) (c.requires.place absent) in
    room_added c.self.inside.entries _ c.args.pair.now c.args.mark _ _ (omega (arith, place, c.self.invariant.within)) c.self.invariant.most none
    c.in_ok-is_added.ensures.set

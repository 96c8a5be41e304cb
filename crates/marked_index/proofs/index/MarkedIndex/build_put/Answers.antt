use Rattle.std.proofs.Common.{◌≡◌, ◌+◌, ◌<◌, None, sym, subst}
use Rattle.std.specs.FinMap as map
use Rattle.marked_index.specs.Index.{IndexValue}
use Rattle.marked_index.proofs.Actions.{place_left, room_built}
use Rattle.marked_index.proofs.index.MarkedIndex.build_put.Goals as goal

pub invariant_of-self-2 : goal.invariant_of-self-2
invariant_of-self-2 g c =
    let room : map.get c.self.inside.entries c.args.pair.now ≡ None
    → map.len c.self.inside.entries + c.self.inside.pledged < c.self.inside.capacity =
    subst (λ (v : IndexValue). map.get v.entries c.args.pair.now ≡ None → map.len v.entries + v.pledged < v.capacity) (sym c.self.view_is)
    (place_left c.args.self.now c.args.pair.now _ c.lacks_place.ensures c.if-lacks_place.false) in
    room_built c.self.inside.entries _ c.args.pair.now _ _ c.put_absent.result c.self.invariant room c.put_absent.ensures.put
    c.put_absent.ensures.unchanged

pub invariant_of-self-then-is_added : goal.invariant_of-self-then-is_added
invariant_of-self-then-is_added g c =
    let room : map.get c.self.inside.entries c.args.pair.now ≡ None
    → map.len c.self.inside.entries + c.self.inside.pledged < c.self.inside.capacity =
    subst (λ (v : IndexValue). map.get v.entries c.args.pair.now ≡ None → map.len v.entries + v.pledged < v.capacity) (sym c.self.view_is)
    (place_left c.args.self.now c.args.pair.now _ c.lacks_place.ensures c.if-lacks_place.false) in
    room_built c.self.inside.entries _ c.args.pair.now _ _ c.put_absent.result c.self.invariant room c.put_absent.ensures.put
    c.put_absent.ensures.unchanged

use Rattle.std.proofs.Common.{◌∙◌, sym}
use Rattle.model.proofs.MapLaws.{length-entries, has_list}
use Rattle.model.proofs.FollowingLaws.{room_test, room_there, none_is}
use Rattle.model.proofs.list_map.ListMap.has_room.Goals as goal

pub returns-then-contains_key : goal.returns-then-contains_key
returns-then-contains_key g c =
    room_there c.args.self.now c.args.txn c.contains_key.result
    (has_list c.self.inside.lists.entries c.args.txn c.args.self.now c.contains_key.result c.self.view_is c.contains_key.ensures) c.if-contains_key.true

pub returns-else-contains_key : goal.returns-else-contains_key
returns-else-contains_key g c =
    let none = none_is _ (sym (has_list c.self.inside.lists.entries c.args.txn c.args.self.now c.contains_key.result c.self.view_is c.contains_key.ensures)
    ∙ c.if-contains_key.false) in
    room_test c.args.self.now c.args.txn c.len.result none (c.len.ensures.len
    ∙ sym (length-entries c.self.inside.lists.entries c.args.self.now c.len.ensures.ordered c.self.view_is))

use Rattle.std.proofs.Common.{◌≡◌, ◌<◌, None, Some, true, is_some, ap, sym, subst, refl, ◌∙◌}
use Rattle.std.proofs.lemmas.Result.{err_from_is_err_and}
use Rattle.std.specs.FinMap as map
use Rattle.btree_node.specs.declared.limits.TheConstants.{ENTRIES_MAX}
use Rattle.record_values.specs.declared.pair.Mark.TheVariants.{Live}
use Rattle.record_values.specs.declared.key_action.KeyAction.TheVariants.{BuildPut}
use Rattle.record_values.specs.Entries.{Index}
use Rattle.btree_node.specs.Contents.{contents}
use Rattle.marked_index.specs.Index.{entries_after}
use Rattle.marked_index.proofs.Actions.{added_is, build_new, build_there, found_is, found_not_added, no_room_is, no_room_not_added, none_added}
use Rattle.marked_index.proofs.Counted.{counted_insert}
use Rattle.marked_index.proofs.entries.Entries.put_absent.Goals as goal

pub invariant_of-self : goal.invariant_of-self
invariant_of-self g c =
    let m = contents c.self.inside.tree in
    let p = c.args.pair.now in
    let absent : map.get m p ≡ None = added_is _ _ c.in-Added.ensures.outcome in
    let room : map.get m p ≡ None → map.len m < ENTRIES_MAX =
    subst (λ (i : Index). map.get i p ≡ None → map.len i < ENTRIES_MAX) (sym c.self.view_is) c.requires.room in
    counted_insert m _ p None _ _ c.self.invariant absent Live (λ none. room absent) (c.in-Added.ensures.added refl) refl

pub returns-in-Found-clause-put : goal.returns-in-Found-clause-put
returns-in-Found-clause-put g c =
    let m = contents c.self.inside.tree in
    let there : is_some (map.get m c.args.pair.now) ≡ true = ap is_some (found_is _ _ _ c.in-Found.ensures.outcome) in
    ap contents (c.in-Found.ensures.unchanged (found_not_added _)) ∙ build_there m c.args.pair.now there
    ∙ ap (λ (i : Index). entries_after i BuildPut c.args.pair.now) c.self.view_is

pub plant-requires : goal.plant-requires
plant-requires g c =
    let p = c.args.pair.now in
    let absent : map.get c.args.self.now p ≡ None =
    subst (λ (i : Index). map.get i p ≡ None) c.self.view_is (no_room_is _ _ c.in-NoRoom.ensures.outcome) in
    let same : contents c.put_in_leaf.new.self ≡ c.args.self.now = ap contents (c.in-NoRoom.ensures.unchanged no_room_not_added) ∙ c.self.view_is in
    let left : c.put_beside.new.self ≡ c.args.self.now = c.put_beside.ensures.unchanged c.if-put_beside.false ∙ same in
    record {
      room = subst (λ (i : Index). map.len i < ENTRIES_MAX) (sym left) (c.requires.room absent);
      absent = subst (λ (i : Index). map.get i p ≡ None) (sym left) absent;
    }

pub returns-in-Added : goal.returns-in-Added
returns-in-Added g c =
    let p = c.args.pair.now in
    let absent : map.get c.args.self.now p ≡ None =
    subst (λ (i : Index). map.get i p ≡ None) c.self.view_is (added_is _ _ c.in-Added.ensures.outcome) in
    record {
      put = build_new _ _ p absent (c.in-Added.ensures.added refl ∙ ap (λ (i : Index). map.insert i p Live) c.self.view_is);
      added = (λ _. absent, λ _. refl);
      no_memory = tt;
      unchanged = tt;
    }

pub returns-in-Found-clause-added : goal.returns-in-Found-clause-added
returns-in-Found-clause-added g c =
    let p = c.args.pair.now in
    let there : map.get c.args.self.now p ≡ Some c.in-Found.field-0 =
    subst (λ (i : Index). map.get i p ≡ Some c.in-Found.field-0) c.self.view_is (found_is _ _ _ c.in-Found.ensures.outcome) in
    none_added _ _ there

pub returns-then-put_beside : goal.returns-then-put_beside
returns-then-put_beside g c =
    let p = c.args.pair.now in
    let absent : map.get c.args.self.now p ≡ None =
    subst (λ (i : Index). map.get i p ≡ None) c.self.view_is (no_room_is _ _ c.in-NoRoom.ensures.outcome) in
    let same : contents c.put_in_leaf.new.self ≡ c.args.self.now = ap contents (c.in-NoRoom.ensures.unchanged no_room_not_added) ∙ c.self.view_is in
    record {
      put = build_new _ _ p absent (c.put_beside.ensures.put c.if-put_beside.true ∙ ap (λ (i : Index). map.insert i p Live) same);
      added = (λ _. absent, λ _. refl);
      no_memory = tt;
      unchanged = tt;
    }

pub returns-in_err-plant : goal.returns-in_err-plant
returns-in_err-plant g c =
    let p = c.args.pair.now in
    let absent : map.get c.args.self.now p ≡ None =
    subst (λ (i : Index). map.get i p ≡ None) c.self.view_is (no_room_is _ _ c.in-NoRoom.ensures.outcome) in
    let same : contents c.put_in_leaf.new.self ≡ c.args.self.now = ap contents (c.in-NoRoom.ensures.unchanged no_room_not_added) ∙ c.self.view_is in
    let left : c.put_beside.new.self ≡ c.args.self.now = c.put_beside.ensures.unchanged c.if-put_beside.false ∙ same in
    let e = err_from_is_err_and c.from_residual.result c.from_residual.ensures.1 in
    rw e.1 (record {
      put = tt;
      added = tt;
      no_memory = (e.2 ∙ c.in_err-plant.ensures.no_memory, absent);
      unchanged = c.in_err-plant.ensures.unchanged ∙ left;
    })

pub returns : goal.returns
returns g c =
    let p = c.args.pair.now in
    let absent : map.get c.args.self.now p ≡ None =
    subst (λ (i : Index). map.get i p ≡ None) c.self.view_is (no_room_is _ _ c.in-NoRoom.ensures.outcome) in
    let same : contents c.put_in_leaf.new.self ≡ c.args.self.now = ap contents (c.in-NoRoom.ensures.unchanged no_room_not_added) ∙ c.self.view_is in
    let left : c.put_beside.new.self ≡ c.args.self.now = c.put_beside.ensures.unchanged c.if-put_beside.false ∙ same in
    record {
      put = build_new _ _ p absent (c.in_ok-plant.ensures.planted ∙ ap (λ (i : Index). map.insert i p Live) left);
      added = (λ _. absent, λ _. refl);
      no_memory = tt;
      unchanged = tt;
    }

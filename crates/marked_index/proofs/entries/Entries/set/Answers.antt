use Rattle.std.proofs.Common.{◌≡◌, ◌<◌, None, Some, ap, sym, subst, refl, ◌∙◌}
use Rattle.std.proofs.lemmas.Result.{err_from_is_err_and}
use Rattle.std.specs.FinMap as map
use Rattle.btree_node.specs.declared.limits.TheConstants.{ENTRIES_MAX}
use Rattle.record_values.specs.declared.pair.Mark.{Mark}
use Rattle.node_parts.specs.Tree.{Tree}
use Rattle.record_values.specs.Entries.{Index}
use Rattle.btree_node.specs.Contents.{contents}
use Rattle.marked_index.proofs.Actions.{added_is, found_is, found_not_added, no_room_is, no_room_not_added, none_added}
use Rattle.marked_index.proofs.Counted.{among_all, counted_insert, few_marked}
use Rattle.marked_index.proofs.entries.Entries.set.Goals as goal

some_not_none : (m : Mark) → Some m ≡ None → ⊥
some_not_none m e = cc

pub recount-self-inside-requires-clause-few : goal.recount-self-inside-requires-clause-few
recount-self-inside-requires-clause-few g c = few_marked _ _ c.self.invariant

pub invariant_of-self : goal.invariant_of-self
invariant_of-self g c =
    let m = contents c.self.inside.tree in
    let p = c.args.pair.now in
    let absent : map.get m p ≡ None = added_is _ _ c.in-Added.ensures.outcome in
    let room : map.get m p ≡ None → map.len m < ENTRIES_MAX =
    subst (λ (i : Index). map.get i p ≡ None → map.len i < ENTRIES_MAX) (sym c.self.view_is) c.requires.room in
    counted_insert m _ p None _ _ c.self.invariant absent c.args.mark (λ none. room absent) (c.in-Added.ensures.added refl) c.recount-self-inside.ensures

pub recount-self-inside-requires-in-Found-clause-among : goal.recount-self-inside-requires-in-Found-clause-among
recount-self-inside-requires-in-Found-clause-among g c =
    among_all (contents c.self.inside.tree) _ c.args.pair.now (Some c.in-Found.before) c.self.invariant (found_is _ _ _ c.in-Found.ensures.outcome)

pub recount-self-inside-requires-in-Found-clause-few : goal.recount-self-inside-requires-in-Found-clause-few
recount-self-inside-requires-in-Found-clause-few g c = few_marked _ _ c.self.invariant

pub invariant_of-self-in-Found : goal.invariant_of-self-in-Found
invariant_of-self-in-Found g c =
    let m = contents c.self.inside.tree in
    let p = c.args.pair.now in
    counted_insert m _ p (Some c.in-Found.before) _ _ c.self.invariant (found_is _ _ _ c.in-Found.ensures.outcome) c.args.mark
    (λ none. absurd (some_not_none _ none))
    (c.set_mark.ensures ∙ ap (λ (t : Tree). map.insert (contents t) p c.args.mark) (c.in-Found.ensures.unchanged (found_not_added _)))
    c.recount-self-inside-in-Found.ensures

pub plant-requires : goal.plant-requires
plant-requires g c =
    let p = c.args.pair.now in
    let absent : map.get c.args.self.now p ≡ None =
    subst (λ (i : Index). map.get i p ≡ None) c.self.view_is (no_room_is _ _ c.in-NoRoom.ensures.outcome) in
    let same : contents c.put_in_leaf.new.self ≡ c.args.self.now = ap contents (c.in-NoRoom.ensures.unchanged no_room_not_added) ∙ c.self.view_is in
    record {
      room = subst (λ (i : Index). map.len i < ENTRIES_MAX) (sym same) (c.requires.room absent);
      absent = subst (λ (i : Index). map.get i p ≡ None) (sym same) absent;
    }

pub returns-in-Added : goal.returns-in-Added
returns-in-Added g c =
    let p = c.args.pair.now in
    let absent : map.get c.args.self.now p ≡ None =
    subst (λ (i : Index). map.get i p ≡ None) c.self.view_is (added_is _ _ c.in-Added.ensures.outcome) in
    record {
      set = c.in-Added.ensures.added refl ∙ ap (λ (i : Index). map.insert i p c.args.mark) c.self.view_is;
      added = (λ _. absent, λ _. refl);
      no_memory = tt;
      unchanged = tt;
    }

pub returns-in-Found : goal.returns-in-Found
returns-in-Found g c =
    let p = c.args.pair.now in
    let there : map.get c.args.self.now p ≡ Some c.in-Found.before =
    subst (λ (i : Index). map.get i p ≡ Some c.in-Found.before) c.self.view_is (found_is _ _ _ c.in-Found.ensures.outcome) in
    record {
      set = c.set_mark.ensures ∙ ap (λ (i : Index). map.insert i p c.args.mark)
          (ap contents (c.in-Found.ensures.unchanged (found_not_added _)) ∙ c.self.view_is);
      added = none_added _ _ there;
      no_memory = tt;
      unchanged = tt;
    }

pub returns-in_err-plant : goal.returns-in_err-plant
returns-in_err-plant g c =
    let p = c.args.pair.now in
    let absent : map.get c.args.self.now p ≡ None =
    subst (λ (i : Index). map.get i p ≡ None) c.self.view_is (no_room_is _ _ c.in-NoRoom.ensures.outcome) in
    let same : contents c.put_in_leaf.new.self ≡ c.args.self.now = ap contents (c.in-NoRoom.ensures.unchanged no_room_not_added) ∙ c.self.view_is in
    let e = err_from_is_err_and c.from_residual.result c.from_residual.ensures.1 in
    rw e.1 (record {
      set = tt;
      added = tt;
      no_memory = (e.2 ∙ c.in_err-plant.ensures.no_memory, absent);
      unchanged = c.in_err-plant.ensures.unchanged ∙ same;
    })

pub returns : goal.returns
returns g c =
    let p = c.args.pair.now in
    let absent : map.get c.args.self.now p ≡ None =
    subst (λ (i : Index). map.get i p ≡ None) c.self.view_is (no_room_is _ _ c.in-NoRoom.ensures.outcome) in
    let same : contents c.put_in_leaf.new.self ≡ c.args.self.now = ap contents (c.in-NoRoom.ensures.unchanged no_room_not_added) ∙ c.self.view_is in
    record {
      set = c.in_ok-plant.ensures.planted ∙ ap (λ (i : Index). map.insert i p c.args.mark) same;
      added = (λ _. absent, λ _. refl);
      no_memory = tt;
      unchanged = tt;
    }

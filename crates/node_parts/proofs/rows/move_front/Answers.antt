use Rattle.std.proofs.Common.{rules, subst, drop, length-drop, ◌≡◌, ◌-◌, [], ◌∷◌, ◌++◌, take, length, refl, sym, ap, ◌∙◌, append_assoc, arith}
use Rattle.std.proofs.Common.{length-append, length-take}
use Rattle.std.specs.Vec.Iter.{drain_items, drain_kept, drain_lender, drain_capacity, DrainKeepsAlong}
use Rattle.std.proofs.lemmas.List.{append-nil}
use Rattle.node_parts.proofs.rows.move_front.Goals as goal

pub loop-item-init : goal.loop-item-init
loop-item-init g c = record { can_next = tt; finite = tt; moved = sym (append-nil _); len = omega arith; capacity = refl; rest = refl }

pub loop-item-preserved : goal.loop-item-preserved
loop-item-preserved g c =
    let is = c.loop-item.invariant in
    let put = c.push_reserved.ensures in
    let yielded = c.loop-item.yielded in
    let more = c.in-Some.item ∷ [] in
    record {
      can_next = tt;
      finite = tt;
      moved = put.items ∙ ap (λ xs. xs ++ more) is.moved ∙ append_assoc c.args.left.now.items yielded more;
      len = omega (arith, put.len, is.len, length-append yielded more);
      capacity = put.capacity ∙ is.capacity;
      rest = append_assoc yielded more (drain_items c.next.new.self) ∙ ap (λ xs. yielded ++ xs) (sym c.in-Some.ensures.steps.0) ∙ is.rest;
    }

pub loop-item-smaller : goal.loop-item-smaller
loop-item-smaller g c = omega (arith, c.in-Some.ensures.steps.1)

pub push_reserved-requires : goal.push_reserved-requires
push_reserved-requires g c =
    let is = c.loop-item.invariant in
    let drained : drain_items c.into_iter-item-iterator.result ≡ take (c.args.count - 0) c.args.right.now.items =
    (λ i. drain_items (c.into_iter-item-iterator.ensures.into_iter_gives i)) ∙ c.drain-item-items.ensures.rest in
    omega (
      arith,
      c.requires.room,
      is.len,
      is.capacity,
      ap length (is.rest ∙ drained),
      length-append c.loop-item.yielded (drain_items c.loop-item.item-iterator),
      ap length c.in-Some.ensures.steps.0,
      length-take (c.args.count - 0) c.args.right.now.items,
    )

pub returns-clause-moved : goal.returns-clause-moved
returns-clause-moved g c =
    let is = c.loop-item.invariant in
    let yielded = c.loop-item.yielded in
    let drained : drain_items c.into_iter-item-iterator.result ≡ take (c.args.count - 0) c.args.right.now.items =
    (λ i. drain_items (c.into_iter-item-iterator.ensures.into_iter_gives i)) ∙ c.drain-item-items.ensures.rest in
    let all = sym (append-nil yielded) ∙ ap (λ xs. yielded ++ xs) (sym c.in-None.ensures.steps.0) ∙ is.rest ∙ drained in
    let whole : c.args.count - 0 ≡ c.args.count = omega arith in
    is.moved ∙ ap (λ xs. c.args.left.now.items ++ xs) (all ∙ ap (λ n. take n c.args.right.now.items) whole)

pub returns-clause-len : goal.returns-clause-len
returns-clause-len g c =
    let is = c.loop-item.invariant in
    let drained : drain_items c.into_iter-item-iterator.result ≡ take (c.args.count - 0) c.args.right.now.items =
    (λ i. drain_items (c.into_iter-item-iterator.ensures.into_iter_gives i)) ∙ c.drain-item-items.ensures.rest in
    omega (
      arith,
      is.len,
      ap length (is.rest ∙ drained),
      length-append c.loop-item.yielded (drain_items c.loop-item.item-iterator),
      ap length c.in-None.ensures.steps.0,
      length-take (c.args.count - 0) c.args.right.now.items,
      c.requires.in_range,
      c.args.right.now.ok.0,
    )

pub returns-clause-kept : goal.returns-clause-kept
returns-clause-kept g c =
    let begun = c.into_iter-item-iterator.ensures.into_iter_gives in
    let ended = c.in-None.ensures.steps.1 in
    let keeps = subst DrainKeepsAlong (sym begun) c.drain-item-items.ensures.stays c.loop-item.yielded c.loop-item.item-iterator c.loop-item.yielded_by in
    let lender = ap drain_lender ended ∙ keeps.0 ∙ ap drain_lender begun ∙ c.drain-item-items.ensures.same_reference in
    let left : c.drop-item-iterator.new.self.0.items ≡ drop c.args.count c.args.right.now.items =
    c.drop-item-iterator.ensures.items ∙ ap drain_kept ended ∙ keeps.1 ∙ ap drain_kept begun ∙ c.drain-item-items.ensures.kept in
    search (rules, lender, left)

pub returns-clause-right_capacity : goal.returns-clause-right_capacity
returns-clause-right_capacity g c =
    let begun = c.into_iter-item-iterator.ensures.into_iter_gives in
    let ended = c.in-None.ensures.steps.1 in
    let keeps = subst DrainKeepsAlong (sym begun) c.drain-item-items.ensures.stays c.loop-item.yielded c.loop-item.item-iterator c.loop-item.yielded_by in
    let lender = ap drain_lender ended ∙ keeps.0 ∙ ap drain_lender begun ∙ c.drain-item-items.ensures.same_reference in
    let same = c.drop-item-iterator.ensures.capacity ∙ ap drain_capacity ended ∙ keeps.2 ∙ ap drain_capacity begun ∙ c.drain-item-items.ensures.capacity in
    search (rules, lender, same)

pub returns-clause-right_len : goal.returns-clause-right_len
returns-clause-right_len g c =
    omega (
      arith,
      ap length (returns-clause-kept g c),
      length-drop c.args.count c.args.right.now.items,
      c.args.right.now.ok.0,
      c.requires.in_range,
    )

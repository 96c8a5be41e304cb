use Rattle.std.proofs.Common.{rules, arith, ◌≡◌, ℕ, ◌-◌, ◌≤◌, [], ◌++◌, take, drop, List, length, sym, ap, ◌∙◌}
use Rattle.std.specs.List.{insert}
use Rattle.std.proofs.lemmas.List.{take-append-drop}
use Rattle.std.proofs.lemmas.List.Edits.{insert-append_left, insert-append_right}
use Rattle.std.proofs.Math.ListN.{length-take}
use Rattle.node_parts.proofs.rows.split_into.Goals as goal

low_half : {X : Type 0} (xs : List X) (n i : ℕ) (y : X) → i ≤ n → n ≤ length xs → insert (take n xs) i y ++ ([] ++ drop n xs) ≡ insert xs i y
low_half xs n i y h k = sym (insert-append_left (take n xs) (drop n xs) i y (omega (arith, length-take n xs))) ∙ ap (λ w. insert w i y) (take-append-drop n xs)

high_half : {X : Type 0} (xs : List X) (n i : ℕ) (y : X) → n ≤ i → n ≤ length xs → take n xs ++ insert ([] ++ drop n xs) (i - n) y ≡ insert xs i y
high_half xs n i y h k = sym (insert-append_right (take n xs) (drop n xs) n i y (omega (arith, length-take n xs)) h)
    ∙ ap (λ w. insert w i y) (take-append-drop n xs)

pub returns-then-place-le-LEAST-clause-joined : goal.returns-then-place-le-LEAST-clause-joined
returns-then-place-le-LEAST-clause-joined g c =
    let n : 16 ≤ length c.args.row.now.items = search rules in
    rw (c.insert_at.ensures.items, c.move_upper.ensures.kept, c.move_upper.ensures.moved, c.requires.empty)
    (low_half c.args.row.now.items 16 c.args.place c.args.item c.if-place-le-LEAST.true n)

pub returns-clause-joined : goal.returns-clause-joined
returns-clause-joined g c =
    let n : 16 ≤ length c.args.row.now.items = search rules in
    rw (c.insert_at-2.ensures.items, c.move_upper.ensures.kept, c.move_upper.ensures.moved, c.requires.empty)
    (high_half c.args.row.now.items 16 c.args.place c.args.item (omega arith) n)

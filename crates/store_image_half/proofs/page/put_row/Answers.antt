use Rattle.std.proofs.Common.{◌≡◌, ℕ, ◌+◌, ◌*◌, ◌-◌, ◌<◌, ◌≤◌, List, length, take, ap, ◌∙◌, arith}
use Rattle.std.proofs.lemmas.Slice.{between-put_mid}
use Rattle.store_image_half.proofs.Cut.{part_before, front_before, rest_behind}
use Rattle.store_image_half.proofs.page.put_row.Goals as goal

pub returns-clause-before : goal.returns-clause-before
returns-clause-before c = λ k below.
    part_before _ _ c.args.page.now c.copy_from_slice.new.self (omega (arith, c.requires, c.told-page)) (64 + 128 * k) (64 + 128 * (k + 1))
    (omega (arith, below))

pub returns-clause-behind : goal.returns-clause-behind
returns-clause-behind c = λ k above.
    ap (take (64 + 128 * (k + 1) - (64 + 128 * k))) (rest_behind _ _ c.args.page.now c.copy_from_slice.new.self (omega (arith, c.requires, c.told-page))
    (64 + 128 * k) (omega (arith, above, c.requires)) (omega arith))

pub returns-clause-edges : goal.returns-clause-edges
returns-clause-edges c = λ was. record {
  front = front_before _ _ c.args.page.now c.copy_from_slice.new.self (omega (arith, c.requires, c.told-page)) 64 (omega arith) ∙ was.front;
  behind = rest_behind _ _ c.args.page.now c.copy_from_slice.new.self (omega (arith, c.requires, c.told-page)) (64 + 128 * 63) (omega (arith, c.requires))
      (omega arith) ∙ was.behind;
}

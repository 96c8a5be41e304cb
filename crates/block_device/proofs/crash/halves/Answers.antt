use Rattle.std.proofs.Common.{◌≡◌, ◌∙◌, ap, arith, List, ℕ, [], ◌++◌, take, drop, length-drop}
use Rattle.std.proofs.lemmas.List.{append-nil, drop_all, take_all}
use Rattle.block_device.proofs.crash.halves.Goals as goal

pub returns : goal.returns
returns c =
    let front = c.args.front.now in
    let back = c.args.back.now in
    let rest : c.copy_from_slice.new.self ≡ drop 2048 back =
    c.copy_from_slice.ensures.after ∙ take_all 2048 (drop 2048 back) (omega (arith, length-drop 2048 back, c.told-back)) in
    let none : drop 2048 (drop 2048 front) ≡ [] = drop_all 2048 (drop 2048 front) (omega (arith, length-drop 2048 front, c.told-front)) in
    ap (λ (l : List ℕ). take 2048 front ++ (l ++ drop 2048 (drop 2048 front))) rest
    ∙ ap (λ (l : List ℕ). take 2048 front ++ (drop 2048 back ++ l)) none
    ∙ ap (λ (l : List ℕ). take 2048 front ++ l) (append-nil (drop 2048 back))

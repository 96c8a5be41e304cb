use Rattle.std.proofs.Common.{◌<◌, ◌%◌, length, slice_index_or, arith}
use Rattle.std.proofs.lemmas.List.Elements.{All-set}
use Rattle.std.proofs.lemmas.List.Sorted.{IsPermutation-trans}
use Rattle.sorted_scan.proofs.abbreviated.settle.Goals as goal

pub loop-i-preserved : goal.loop-i-preserved
loop-i-preserved c =
    let n = length c.args.pairs.now in
    let here = c.loop-i-test.true in
    let number = slice_index_or c.args.numbers.now c.loop-i.i 0 in
    let inside = c.requires.inside c.loop-i.i 0 (omega (arith, here, c.requires.numbers)) in
    let at = c.loop-i.invariant.1 (number % 65536) 0 (omega (arith, inside, c.loop-i.auto.places, c.requires.places.0)) in
    let moved = c.loop-i.invariant.2 c.loop-i.i 0 (omega (arith, here, c.loop-i.auto.standing, c.requires.standing.0)) in (
      IsPermutation-trans c.args.pairs.now c.loop-i.pairs c.swap.new.self c.loop-i.invariant.0 c.swap.ensures.permutation,
      All-set (λ p. p < n) c.loop-i.places _ _ at c.loop-i.invariant.1,
      All-set (λ p. p < n) c.loop-i.standing _ _ moved c.loop-i.invariant.2,
    )

use Rattle.std.proofs.Common.{rules, ◌≡◌, ◌++◌, List, length-append, min, arith, ap, sym, subst}
use Rattle.record_values.specs.declared.pair.Pair.{Pair}
use Rattle.std.specs.BinaryHeap.{heap_items}
use Rattle.std.specs.List.Sorted.{IsPermutation}
use Rattle.sorted_scan.specs.FullRuns.{runs_of}
use Rattle.sorted_scan.specs.Merges.{pairs_in}
use Rattle.sorted_scan.specs.Pairs.{AreSame}
use Rattle.sorted_scan.proofs.Counts.{from_permutation, same_length}
use Rattle.sorted_scan.proofs.Cutting.{two_added}
use Rattle.sorted_scan.proofs.merge.Merge.add.Goals as goal

-- what was arranged are the pairs that were gathered, and the last ones
arranged : (all grown moved run : List Pair) → grown ≡ all → IsPermutation grown moved → run ≡ moved → AreSame all run
arranged all grown moved run is other same =
    subst (AreSame all) (sym same) (subst (λ (l : List Pair). AreSame l moved) is (from_permutation grown moved other))

pub push_pairs-requires-clause-short : goal.push_pairs-requires-clause-short
push_pairs-requires-clause-short g c =
    let gathered = c.args.gathered.now.items in
    let last = c.args.last.now in
    let same = arranged (gathered ++ last) _ _ c.replace.result.items c.in_ok-extend_from_slice.ensures.items c.arrange.ensures.permutation
    (ap (λ v. v.items) c.replace.ensures.value) in
    omega (arith, same_length (gathered ++ last) c.replace.result.items same, length-append gathered last, c.requires.short)

pub returns-clause-added : goal.returns-clause-added
returns-clause-added g c =
    let gathered = c.args.gathered.now.items in
    let last = c.args.last.now in
    let same = arranged (gathered ++ last) _ _ c.replace.result.items c.in_ok-extend_from_slice.ensures.items c.arrange.ensures.permutation
    (ap (λ v. v.items) c.replace.ensures.value) in
    search (
      rules,
      two_added (gathered ++ last) c.replace.result.items c.args.others.items (pairs_in (heap_items c.reserve.new.self))
          (pairs_in (heap_items c.push_pairs.new.runs)) (pairs_in (heap_items c.push_pairs-2.new.runs)) same c.push_pairs.ensures.added
          c.push_pairs-2.ensures.added,
    )

pub returns-clause-runs : goal.returns-clause-runs
returns-clause-runs g c =
    let gathered = c.args.gathered.now.items in
    let last = c.args.last.now in
    let same = arranged (gathered ++ last) _ _ c.replace.result.items c.in_ok-extend_from_slice.ensures.items c.arrange.ensures.permutation
    (ap (λ v. v.items) c.replace.ensures.value) in
    let one : runs_of (gathered ++ last) ≡ runs_of c.replace.result.items = ap (min 1) (same_length (gathered ++ last) c.replace.result.items same) in
    search (rules, one)

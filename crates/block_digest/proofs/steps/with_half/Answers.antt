use Rattle.std.proofs.Common.{◌≡◌, ◌%◌, arith, false, length, nat_lt, refl, true}
use Rattle.std.proofs.lemmas.Bool.Decides.{nat_tests}
use Rattle.block_digest.specs.Digest.{with_half}
use Rattle.block_digest.proofs.steps.with_half.Goals as goal

pub returns-then-bytes-lt4 : goal.returns-then-bytes-lt4
unfolding with_half
returns-then-bytes-lt4 c =
    let none : nat_lt (length c.args.bytes.now % 8) 4 ≡ true = grind (arith, nat_tests) in
    rw none refl

pub returns : goal.returns
unfolding with_half
returns c =
    let one : nat_lt (length c.args.bytes.now % 8) 4 ≡ false = grind (arith, nat_tests) in
    rw one (simp (c.rotate_left.ensures, c.half_at-half.ensures))

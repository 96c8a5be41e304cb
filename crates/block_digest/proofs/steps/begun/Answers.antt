use Rattle.std.proofs.Common.{◌≡◌, arith, false, length, nat_lt, refl, true}
use Rattle.std.proofs.lemmas.Bool.Decides.{nat_tests}
use Rattle.block_digest.specs.Digest.{begun}
use Rattle.block_digest.proofs.steps.begun.Goals as goal

pub returns-then-bytes-lt32 : goal.returns-then-bytes-lt32
unfolding begun
returns-then-bytes-lt32 c =
    let few : nat_lt (length c.args.bytes.now) 32 ≡ true = grind (arith, nat_tests) in
    rw few refl

pub returns-else-bytes-lt32 : goal.returns-else-bytes-lt32
unfolding begun
returns-else-bytes-lt32 c =
    let many : nat_lt (length c.args.bytes.now) 32 ≡ false = grind (arith, nat_tests) in
    rw many c.of_stripes.ensures

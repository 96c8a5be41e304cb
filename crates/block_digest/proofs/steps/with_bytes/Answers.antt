use Rattle.std.proofs.Common.{◌≡◌, suc, ◌+◌, slice_index, ap, arith, refl, ◌∙◌}
use Rattle.block_digest.specs.Digest.{with_byte, with_bytes}
use Rattle.block_digest.proofs.steps.with_bytes.Goals as goal

pub loop-n-init : goal.loop-n-init
unfolding with_bytes
loop-n-init c = refl

pub loop-n-preserved : goal.loop-n-preserved
unfolding with_bytes
loop-n-preserved c =
    let next : suc c.loop-n.n ≡ c.loop-n.n + 1 = omega arith in
    c.with_byte-so_far.ensures ∙ ap (λ sum. with_byte sum (slice_index c.args.bytes.now (c.args.place + c.loop-n.n))) c.loop-n.invariant
    ∙ ap (with_bytes c.args.bytes.now c.args.place c.args.sum) next

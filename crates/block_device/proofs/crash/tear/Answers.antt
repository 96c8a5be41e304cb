use Rattle.std.proofs.Common.{length, ◌<◌, subst, arith}
use Rattle.block_device.specs.Blocks.{block}
use Rattle.block_device.specs.Crash.{HasFate}
use Rattle.block_device.proofs.Tear.{torn_start, torn_kept, torn_loose, torn_end}
use Rattle.block_device.proofs.crash.tear.Goals as goal
use Rattle.block_device.proofs.crash.tear.Goals.{then-loose-k, else-loose-k}

pub loop-k-init : goal.loop-k-init
loop-k-init c = torn_start _ _

pub loop-k-preserved : goal.loop-k-preserved
loop-k-preserved c =
    let k = c.loop-k.k in
    let below : k < length c.args.content.now = c.loop-k-test.true in
    let flag : k < length c.args.loose.now = omega (arith, below, c.requires.loose) in
    elim c.if-loose-k.branch [
      | then-loose-k w ↦
          let fate = subst (λ f. HasFate f (block c.args.synced.now k) (block c.loop-k.content k) w.torn.result) w.fate.ensures w.torn.ensures in
          let step = torn_loose _ _ _ _ _ c.loop-k.invariant below flag w.torn.result w.if-loose-k.true fate in
          rw (w.content-is, w.next-is) step
      | else-loose-k w ↦
          let step = torn_kept _ _ _ _ _ c.loop-k.invariant below flag w.if-loose-k.false in
          rw (w.content-is, w.next-is) step
    ]

pub returns : goal.returns
returns c = torn_end _ _ _ _ _ (omega arith) c.loop-k.invariant

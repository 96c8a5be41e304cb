use Rattle.std.proofs.Common.{◌∙◌, ℕ, ◌+◌, ◌*◌, ap, arith, length-set}
use Rattle.block_device.specs.Blocks.{zero_block}
use Rattle.block_batch.specs.Batch.{block_digest}
use Rattle.block_file.proofs.NewFile.{set_more}
use Rattle.block_file.proofs.making.zero_digests.Goals as goal

pub loop-i-preserved : goal.loop-i-preserved
loop-i-preserved c =
    let so_far = c.loop-i.invariant in
    let i = c.loop-i.i in
    let table = c.args.table in
    let k = c.args.k in
    record {
      size = length-set c.loop-i.words i c.block_digest.result ∙ so_far.size;
      each = set_more c.loop-i.words i c.block_digest.result (λ (j : ℕ). block_digest (table + (512 * k + j)) zero_block)
          (omega (arith, so_far.size, c.loop-i-test.true)) (c.block_digest.ensures ∙ ap (block_digest (table + (512 * k + i))) c.zero_block-zeros.ensures)
          so_far.each;
    }

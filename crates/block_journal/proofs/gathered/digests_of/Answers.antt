use Rattle.std.proofs.Common.{◌<◌, length, ◌∙◌, arith, length-set}
use Rattle.block_journal.proofs.Entries.{digests_more}
use Rattle.block_journal.proofs.gathered.digests_of.Goals as goal

pub loop-i-preserved : goal.loop-i-preserved
loop-i-preserved c =
    let so_far = c.loop-i.invariant in
    let digests = c.loop-i.digests in
    let i = c.loop-i.i in
    let digest = c.block_digest.result in
    let room : i < length digests = omega (arith, so_far.size, c.loop-i-test.true, c.requires.few) in
    record {
      size = length-set digests i digest ∙ so_far.size;
      digests = digests_more c.args.area.now c.args.places.now digests i digest room so_far.digests c.block_digest.ensures;
    }

use Rattle.std.proofs.Common.{ap, ◌∙◌, arith, length, length-set}
use Rattle.std.proofs.Math.ListN.{length-replicate}
use Rattle.sector_device.specs.Disk.{Disk, sector}
use Rattle.sector_device.specs.Values.{zero_sector}
use Rattle.store_file.specs.FileDisk.{past_of}
use Rattle.store_file.proofs.Holding.{one_more, all_same}
use Rattle.store_file.proofs.mirror.FileDisk.holding.Goals as goal

pub loop-n-init : goal.loop-n-init
loop-n-init g c = (
  c.in_ok-disk.ensures.failures,
  ap length c.in_ok-disk.ensures.zeros
      ∙ length-replicate (length c.args.sectors.now) zero_sector,
  (λ k lt. absurd (omega (arith, lt))),
  c.in_ok-disk.ensures.sound,
)

pub loop-n-preserved : goal.loop-n-preserved
loop-n-preserved g c =
    let old = (past_of c.loop-n.disk).disk.content in
    let wanted = c.args.sectors.now in
    let is = ap (λ (d : Disk). d.content) c.put.ensures.disk in (
      c.put.ensures.failures ∙ c.loop-n.invariant.0,
      ap length is ∙ length-set old c.loop-n.n (sector wanted c.loop-n.n) ∙ c.loop-n.invariant.1,
      one_more old _ wanted c.loop-n.n (omega (arith, c.loop-n-test.true, c.loop-n.invariant.1)) is c.loop-n.invariant.2,
      c.put.ensures.failed ∙ c.loop-n.invariant.3,
    )

pub returns-clause-content : goal.returns-clause-content
returns-clause-content g c = ap (λ (d : Disk). d.content) c.settle.ensures.disk
    ∙ all_same _ c.args.sectors.now c.loop-n.invariant.1 (λ k lt. c.loop-n.invariant.2 k (omega (arith, lt, c.loop-n-test.false)))

pub returns-clause-synced : goal.returns-clause-synced
returns-clause-synced g c = λ k. ap (λ (d : Disk). d.unsynced k) c.settle.ensures.disk

pub returns-clause-sound : goal.returns-clause-sound
returns-clause-sound g c = c.settle.ensures.failed ∙ c.loop-n.invariant.3

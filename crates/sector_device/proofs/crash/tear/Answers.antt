use Rattle.std.proofs.Common.{Bool, length, take, ◌<◌, subst, arith}
use Rattle.std.proofs.lemmas.List.{length-take}
use Rattle.std.proofs.lemmas.List.Sums.{count_by-le-length}
use Rattle.sector_device.specs.Disk.{sector}
use Rattle.sector_device.specs.Memory.{unsynced_since}
use Rattle.sector_device.specs.Crash.{HasFate}
use Rattle.sector_device.proofs.Tear.{torn_start, torn_synced, torn_unsynced, torn_end}
use Rattle.sector_device.proofs.Record.{is_unsynced, is_synced, length-unsynced}
use Rattle.sector_device.proofs.crash.tear.Goals as goal
use Rattle.sector_device.proofs.crash.tear.Goals.{then-synced_at-written_at, else-synced_at-written_at}

pub loop-k-init : goal.loop-k-init
loop-k-init c = torn_start _ _

pub loop-k-preserved : goal.loop-k-preserved
loop-k-preserved c =
    let k = c.loop-k.k in
    let synced_at = c.args.synced_at in
    let written_at = c.args.written_at.now in
    let below : k < length c.args.content.now = c.loop-k-test.true in
    let there : k < length written_at = omega (arith, below, c.requires.written) in
    let flag : k < length (unsynced_since synced_at written_at) = omega (arith, there, length-unsynced synced_at written_at) in
    elim c.if-synced_at-written_at.branch [
      | then-synced_at-written_at w ↦
          let fate = subst (λ f. HasFate f (sector c.args.before.now k) (sector c.loop-k.content k) w.torn.result) w.fate.ensures w.torn.ensures in
          let step = torn_unsynced _ _ _ _ _ c.loop-k.invariant below flag w.torn.result
          (is_unsynced synced_at written_at k there w.if-synced_at-written_at.true) fate in
          rw (w.content-is, w.next-is) step
      | else-synced_at-written_at w ↦
          let step = torn_synced _ _ _ _ _ c.loop-k.invariant below flag (is_synced synced_at written_at k w.if-synced_at-written_at.false) in
          rw (w.content-is, w.next-is) step
    ]

pub returns : goal.returns
returns c = torn_end _ _ _ _ _ (omega arith) c.loop-k.invariant

pub overflow_add-next : goal.overflow_add-next
overflow_add-next c =
    let flags = unsynced_since c.args.synced_at c.args.written_at.now in
    let few = count_by-le-length (λ (is : Bool). is) (take c.loop-k.k flags) in
    omega (arith, c.loop-k.invariant.count, few, length-take c.loop-k.k flags, c.loop-k-test.true)

pub bounds-written_at-k : goal.bounds-written_at-k
bounds-written_at-k c = omega (arith, c.loop-k-test.true, c.requires.written)

pub bounds-before-k : goal.bounds-before-k
bounds-before-k c = omega (arith, c.loop-k-test.true, c.requires.before)

pub bounds-content-k : goal.bounds-content-k
bounds-content-k c = omega (arith, c.loop-k-test.true, c.loop-k.auto.content)

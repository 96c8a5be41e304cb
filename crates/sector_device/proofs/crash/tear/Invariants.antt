use Rattle.sector_device.specs.Memory.{unsynced_since}
use Rattle.sector_device.proofs.Tear.{TornBelow}
use Rattle.sector_device.proofs.crash.tear.Given as goal

abbrev pub invariant-loop-k : goal.invariant-loop-k
invariant-loop-k l = TornBelow l.fates (record { content = l.initial.content; synced = l.before; unsynced = unsynced_since l.synced_at l.written_at }) l.content
    l.k l.next

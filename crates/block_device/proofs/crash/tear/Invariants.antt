use Rattle.block_device.proofs.Tear.{TornBelow}
use Rattle.block_device.proofs.crash.tear.Given as goal

abbrev pub invariant-loop-k : goal.invariant-loop-k
invariant-loop-k l = TornBelow l.fates (record { content = l.initial.content; synced = l.synced; loose = l.loose }) l.content l.k l.next

use Rattle.std.proofs.Common.{◌≡◌, length}
use Rattle.store_file.specs.FileDisk.{past_of, failures_of, has_failed_of}
use Rattle.store_file.proofs.mirror.FileDisk.load.Given as goal

abbrev pub invariant-loop-k : goal.invariant-loop-k
invariant-loop-k g l =
    (failures_of l.self ≡ failures_of l.initial.self)
    × (length (past_of l.self).disk.content ≡ l.sectors)
    × (length l.buffer ≡ 128)
    × (has_failed_of l.self ≡ has_failed_of l.initial.self)

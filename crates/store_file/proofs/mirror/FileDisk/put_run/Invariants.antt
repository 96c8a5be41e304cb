use Rattle.std.proofs.Common.{◌≡◌, length}
use Rattle.store_file.specs.FileDisk.{past_of, failures_of, has_failed_of}
use Rattle.store_file.proofs.mirror.FileDisk.put_run.Given as goal

abbrev pub invariant-loop-n : goal.invariant-loop-n
invariant-loop-n g l =
    (failures_of l.self ≡ failures_of l.initial.self)
    × (length (past_of l.self).disk.content ≡ length (past_of l.initial.self).disk.content)
    × (has_failed_of l.self ≡ has_failed_of l.initial.self)

use Rattle.std.proofs.Common.{◌≡◌, length, take}
use Rattle.gate_log.specs.Group.{spellings}
use Rattle.gate_log.proofs.group.spelled_len.Given as goal

abbrev pub invariant-loop-record : goal.invariant-loop-record
invariant-loop-record l = l.len ≡ length (spellings (take l.record-index l.records))

use Rattle.std.proofs.Common.{◌≡◌, ◌≤◌, length, take}
use Rattle.gate_log.specs.Group.{spellings}
use Rattle.gate_log.proofs.group.group_len.Given as goal

abbrev pub invariant-loop-count : goal.invariant-loop-count
invariant-loop-count l = record {
  len : l.len ≡ length (spellings (take l.count l.records));
  short : l.len ≤ 3580;
}

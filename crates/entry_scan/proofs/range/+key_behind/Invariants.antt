use Rattle.std.proofs.Common.{length}
use Rattle.entry_scan.proofs.range.+key_behind.Given as goal

abbrev pub decreases-key_behind : goal.decreases-key_behind
decreases-key_behind l = length l.bytes.now

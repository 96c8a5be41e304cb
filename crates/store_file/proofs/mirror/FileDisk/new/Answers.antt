use Rattle.std.proofs.Common.{rules}
use Rattle.store_file.proofs.Mirrors.{mirror_blank}
use Rattle.store_file.proofs.mirror.FileDisk.new.Goals as goal

pub invariant_of-result : goal.invariant_of-result
invariant_of-result g c = record { mirrors = mirror_blank _ _ _ c.new.ensures c.in_ok-zeros.ensures }

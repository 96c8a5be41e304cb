use Rattle.std.proofs.Common.{rules}
use Rattle.store_file.proofs.Mirrors.{mirror_sync, disk_synced}
use Rattle.store_file.proofs.mirror.FileDisk.settle.Goals as goal

pub invariant_of-self : goal.invariant_of-self
invariant_of-self g c = record { mirrors = mirror_sync _ _ _ _ c.args.self.now.mirrors _ c.note.ensures }

pub returns-clause-disk : goal.returns-clause-disk
returns-clause-disk g c = disk_synced _ _ _ _ c.args.self.now.mirrors _ c.note.ensures

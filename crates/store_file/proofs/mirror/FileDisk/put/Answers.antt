use Rattle.std.proofs.Common.{rules, ◌≡◌, arith, ◌<◌, ap, length}
use Rattle.store_file.proofs.Mirrors.{mirror_write, disk_written}
use Rattle.store_file.proofs.mirror.FileDisk.put.Goals as goal

pub invariant_of-self : goal.invariant_of-self
invariant_of-self g c =
    let d = c.args.self.now in
    let below : c.args.n < length d.content.items = omega (arith, c.requires, ap length d.mirrors.holds) in
    record {
      mirrors = mirror_write _ _ _ _ d.mirrors c.args.n c.args.bytes.now c.note.ensures below
          (record { size = c.told-bytes; are_bytes = c.fits-bytes });
    }

pub returns-clause-disk : goal.returns-clause-disk
returns-clause-disk g c =
    let d = c.args.self.now in
    let below : c.args.n < length d.content.items = omega (arith, c.requires, ap length d.mirrors.holds) in
    disk_written _ _ _ _ d.mirrors c.args.n c.args.bytes.now c.note.ensures below

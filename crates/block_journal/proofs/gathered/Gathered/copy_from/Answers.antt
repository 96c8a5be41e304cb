use Rattle.std.proofs.Common.{rules, ◌≡◌, length, refl, sym, ◌∙◌, ap}
use Rattle.block_device.specs.Blocks.{CrashFile}
use Rattle.block_journal.specs.Entries.{entries_in}
use Rattle.block_journal.proofs.Buffers.{copied_buffer}
use Rattle.block_journal.proofs.gathered.Gathered.copy_from.Goals as goal

pub returns : goal.returns
returns g c =
    let b = c.args.self.now in
    let o = c.args.other.now in
    let stored : c.copy_from_slice.new.self.items ≡ o.area.items = search rules in
    record {
      entries = ap (λ (l : CrashFile). entries_in l o.places o.count) stored;
      buffer = copied_buffer o _ c.requires.other stored refl refl;
      size = ap length stored ∙ sym c.requires.size;
    }

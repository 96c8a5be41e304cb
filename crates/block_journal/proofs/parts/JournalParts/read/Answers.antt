use Rattle.std.proofs.Common.{refl}
use Rattle.block_journal.proofs.Parting.{sound_read}
use Rattle.block_journal.proofs.parts.JournalParts.read.Goals as goal

pub read_block-requires : goal.read_block-requires
read_block-requires g c = record {
  inside = c.requires.sound.inside;
  small = c.requires.sound.small;
  kept = c.requires.kept;
  last = c.requires.sound.last;
  next = c.requires.sound.next;
}

pub returns : goal.returns
returns g c =
    let done = c.read_block.ensures in
    record {
      ok = done.ok;
      err = done.err;
      rest = refl;
      reads = done.reads;
      back = done.back;
      counts = done.counts;
      sound = sound_read g.B.Blocks.past_of c.args.self.now c.requires.sound c.read_block.new.below done.reads.file;
    }

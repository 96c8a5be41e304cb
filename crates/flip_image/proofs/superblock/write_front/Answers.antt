use Rattle.std.proofs.Common.{refl}
use Rattle.records.specs.Spelling.{u64}
use Rattle.flip_image.proofs.Spelled.{front_written}
use Rattle.flip_image.proofs.superblock.write_front.Goals as goal

pub returns : goal.returns
unfolding u64
returns c = front_written c.args.geometry _ _ c.args.bytes.now c.write_u64.new.buf c.write_numbers.new.bytes c.number_of-version.ensures c.write_u64.ensures
    c.write_numbers.ensures refl

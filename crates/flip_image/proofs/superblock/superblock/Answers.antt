use Rattle.record_values.specs.declared.version.Version.TheVariants.{Two}
use Rattle.flip_image.proofs.Spelled.{superblock_filled}
use Rattle.flip_image.proofs.ZeroRows.{zero_rest}
use Rattle.flip_image.proofs.superblock.superblock.Goals as goal

pub returns : goal.returns
returns c = superblock_filled Two c.args.geometry c.write_front.new.bytes _ tt c.write_front.ensures (zero_rest 24 512)

use Rattle.std.proofs.Common.{◌++◌, drop, refl, ap, ◌∙◌}
use Rattle.record_values.specs.GeometryValue.{GeometryValue}
use Rattle.records.specs.Spelling.{u32}
use Rattle.flip_image.proofs.Spelled.{numbers_written}
use Rattle.flip_image.proofs.superblock.write_numbers.Goals as goal

pub returns : goal.returns
returns c =
    let g = c.geometry.inside in
    numbers_written c.args.version g.pages g.entries g.slots _ c.args.bytes.now c.write_pair.new.bytes c.write_pair-2.new.bytes c.write_pair.ensures
    c.write_pair-2.ensures refl
    ∙ ap (λ (x : GeometryValue). u32 c.args.version ++ (u32 x.pages ++ (u32 x.entries ++ (u32 x.slots ++ drop 16 c.args.bytes.now))))
    c.geometry.view_is

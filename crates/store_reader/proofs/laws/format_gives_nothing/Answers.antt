use Rattle.std.proofs.Common.{sym}
use Rattle.flip_image.specs.declared.half.Half.TheVariants.{A}
use Rattle.record_values.specs.declared.version.Version.TheVariants.{Two}
use Rattle.model.specs.Given.{nothing}
use Rattle.store_reader.proofs.Readings.{formatted_untouched, untouched_gives}
use Rattle.store_reader.proofs.laws.format_gives_nothing.Goals as goal

pub returns-clause-untouched : goal.returns-clause-untouched
returns-clause-untouched c g image whole formatted closed =
    formatted_untouched g image (c.fresh_image.ensures.image g A image whole formatted.store.room formatted.fresh) formatted closed

pub returns-clause-gives : goal.returns-clause-gives
returns-clause-gives c g image whole formatted closed =
    untouched_gives Two image g (sym (c.beginnings.ensures.again nothing)) (returns-clause-untouched c g image whole formatted closed)

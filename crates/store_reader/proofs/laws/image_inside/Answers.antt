use Rattle.record_values.specs.declared.version.Version.TheVariants.{Two}
use Rattle.flip_image.specs.Layout.{header_sector}
use Rattle.store_reader.proofs.Inside.{inside, numbered, few, lists_short, lists_placed}
use Rattle.store_reader.proofs.laws.image_inside.Goals as goal

pub returns-clause-inside : goal.returns-clause-inside
returns-clause-inside c g half image base cells is = inside Two g (header_sector g half) image base cells is

pub returns-clause-numbered : goal.returns-clause-numbered
returns-clause-numbered c g half image base cells is = numbered Two g (header_sector g half) image base cells is

pub returns-clause-few : goal.returns-clause-few
returns-clause-few c g half image base cells is = few Two g (header_sector g half) image base cells is

pub returns-clause-short : goal.returns-clause-short
returns-clause-short c g half image base cells is txn = lists_short Two g (header_sector g half) image base cells is txn

pub returns-clause-placed : goal.returns-clause-placed
returns-clause-placed c g half image base cells is txn = lists_placed Two g (header_sector g half) image base cells is txn

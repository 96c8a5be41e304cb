use Rattle.store_image_half.proofs.OneImage.{same_base, same_cells}
use Rattle.store_image_half.proofs.laws.one_image.Goals as goal

pub returns-clause-base : goal.returns-clause-base
returns-clause-base c = same_base

pub returns-clause-cells : goal.returns-clause-cells
returns-clause-cells c = same_cells

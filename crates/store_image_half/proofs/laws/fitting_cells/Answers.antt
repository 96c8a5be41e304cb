use Rattle.store_image_half.proofs.Fitting.{entry_fits, life_fits, list_fits, nothing_fits, row_fits}
use Rattle.store_image_half.proofs.laws.fitting_cells.Goals as goal

pub returns-clause-none : goal.returns-clause-none
returns-clause-none c = nothing_fits

pub returns-clause-life : goal.returns-clause-life
returns-clause-life c = life_fits

pub returns-clause-row : goal.returns-clause-row
returns-clause-row c = row_fits

pub returns-clause-entry : goal.returns-clause-entry
returns-clause-entry c = entry_fits

pub returns-clause-list : goal.returns-clause-list
returns-clause-list c = list_fits

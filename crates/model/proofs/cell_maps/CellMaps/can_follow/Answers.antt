use Rattle.std.proofs.Common.{rules}
use Rattle.model.proofs.cell_maps.CellMaps.can_follow.Goals as goal

pub returns-then-get-last : goal.returns-then-get-last
returns-then-get-last g c = search rules

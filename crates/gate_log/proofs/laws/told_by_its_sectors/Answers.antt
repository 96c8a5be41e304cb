use Rattle.gate_log.proofs.Areas as areas
use Rattle.gate_log.proofs.laws.told_by_its_sectors.Goals as goal

pub returns : goal.returns
returns c = areas.holds_same

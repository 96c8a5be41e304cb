use Rattle.std.proofs.Common.{rules}
use Rattle.record_values.proofs.geometry.Geometry.sectors.Goals as goal

pub returns : goal.returns
returns c = search rules

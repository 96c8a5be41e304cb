use Rattle.std.proofs.Common.{rules}
use Rattle.records.proofs.within.row_fits.Goals as goal

pub returns-then-as_slice-key_max : goal.returns-then-as_slice-key_max
returns-then-as_slice-key_max c = search rules

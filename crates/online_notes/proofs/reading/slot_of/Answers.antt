use Rattle.std.proofs.Common.{rules}
use Rattle.online_notes.proofs.Bytes.{slot_same}
use Rattle.online_notes.proofs.reading.slot_of.Goals as goal

pub returns-clause-spelled : goal.returns-clause-spelled
returns-clause-spelled c = slot_same c.args.bytes.now c.from_be_bytes.result (search rules) (search rules) c.from_be_bytes.ensures

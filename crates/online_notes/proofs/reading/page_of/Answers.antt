use Rattle.std.proofs.Common.{rules}
use Rattle.online_notes.proofs.Bytes.{page_same}
use Rattle.online_notes.proofs.reading.page_of.Goals as goal

pub returns-clause-spelled : goal.returns-clause-spelled
returns-clause-spelled c = page_same c.args.bytes.now c.from_be_bytes.result (search rules) (search rules) c.from_be_bytes.ensures

use Rattle.nsf_core.specs.Value.{value_of}
use Rattle.core_laws.specs.Holds.{committed_rows}
use Rattle.core_committed.proofs.Marks.{shows_in}
use Rattle.core_committed.proofs.walk.shows.Goals as goal

pub returns-then-contains : goal.returns-then-contains
returns-then-contains g c =
    shows_in c.args.range.now (committed_rows (value_of c.args.core.now)) c.args.pair.now c.is_committed.result c.if-contains.ensures c.is_committed.ensures

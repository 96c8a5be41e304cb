use Rattle.std.proofs.Common.{arith}
use Rattle.block_journal.proofs.Entries.{length-entries}
use Rattle.block_journal.proofs.journal.Journal.room.Goals as goal

pub returns : goal.returns
returns g c =
    rw (← c.self.view_is) (
    let next = c.self.inside.parts.next in
    omega (arith, length-entries next.area.items next.places next.count))

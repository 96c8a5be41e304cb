use Rattle.block_journal.specs.JournalParts.{value_of}
use Rattle.block_journal.proofs.Committing.{ready_stands}
use Rattle.block_journal.proofs.journal.Journal.stands.Goals as goal

pub returns : goal.returns
returns g c =
    rw (← c.self.view_is) (record {
      inside = c.self.invariant.inside;
      synced = λ good. (c.self.invariant.ready good).synced;
      here = λ good. (c.self.invariant.ready good).stands.here;
      survives = λ good image crash honest. ready_stands g.B.Blocks.past_of (value_of c.self.inside.parts) (c.self.invariant.ready good) image crash honest;
      honest = λ good. (c.self.invariant.ready good).honest;
      last = λ good. (c.self.invariant.ready good).known.has_last;
      latest = λ good. (c.self.invariant.ready good).known.none_later;
    })

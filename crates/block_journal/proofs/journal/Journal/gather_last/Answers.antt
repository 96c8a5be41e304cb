use Rattle.std.proofs.Common.{List, sym, ◌∙◌, ap}
use Rattle.block_batch.specs.Batch.{Entry}
use Rattle.block_journal.specs.JournalParts.{value_of}
use Rattle.block_journal.proofs.Parting.{sound_put}
use Rattle.block_journal.proofs.journal.Journal.gather_last.Goals as goal

pub copy_from-requires : goal.copy_from-requires
copy_from-requires g c = record { other = c.self.invariant.last; size = c.self.invariant.next_size ∙ sym c.self.invariant.last_size }

pub returns : goal.returns
returns g c =
    rw (← c.self.view_is) (
    ap (λ (l : List Entry). record (value_of c.self.inside.parts) { next = l }) c.copy_from.ensures.entries)

pub invariant_of-self : goal.invariant_of-self
invariant_of-self g c =
    sound_put g.B.Blocks.past_of c.self.inside.parts c.self.invariant c.copy_from.new.self c.copy_from.ensures.buffer c.copy_from.ensures.size

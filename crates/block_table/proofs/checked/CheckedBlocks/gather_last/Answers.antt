use Rattle.std.proofs.Common.{List, sym, ◌∙◌, ap}
use Rattle.block_batch.specs.Batch.{Entry, replayed}
use Rattle.block_journal.specs.Value.{JournalValue, settled_of}
use Rattle.block_table.proofs.Contents.{content_gathered, step_same}
use Rattle.block_table.proofs.checked.CheckedBlocks.gather_last.Goals as goal

pub returns : goal.returns
returns g c =
    rw (← c.self.view_is) (record {
      rest = ap (λ (w : JournalValue g.row.B.Denot). record { journal = w; blocks = c.self.inside.blocks }) c.gather_last.ensures;
      same = content_gathered g.B.Blocks.past_of c.self.inside.journal c.gather_last.new.self c.gather_last.ensures;
    })

pub invariant_of-self : goal.invariant_of-self
invariant_of-self g c =
    let h = g.B.Blocks.past_of in
    let v : JournalValue g.row.B.Denot = c.self.inside.journal in
    let m : JournalValue g.row.B.Denot = c.gather_last.new.self in
    let none = rw (← c.self.view_is) at c.requires in (
      step_same h v m c.self.inside.rows.items c.self.inside.known c.self.inside.blocks c.self.invariant.0
          (ap (λ (w : JournalValue g.row.B.Denot). w.shape) c.gather_last.ensures)
          (content_gathered h v m c.gather_last.ensures ∙ sym (ap (λ (l : List Entry). replayed l (settled_of h v)) none)),
      tt,
    )

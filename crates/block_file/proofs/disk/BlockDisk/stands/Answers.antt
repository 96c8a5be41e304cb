use Rattle.std.proofs.Common.{◌≡◌, ◌%◌, sym, ◌∙◌, ap, subst}
use Rattle.block_journal.specs.declared.shape.Shape.{Shape}
use Rattle.block_journal.specs.Layout.{IsHonest, IsInside, found, recovered}
use Rattle.block_file.specs.declared.parts.DiskParts.{DiskParts}
use Rattle.block_file.specs.Disks.{journal_in}
use Rattle.block_file.proofs.Heading.{tells_still}
use Rattle.block_file.proofs.Reopening.{reopens_now}
use Rattle.block_file.proofs.disk.BlockDisk.stands.Goals as goal

pub returns : goal.returns
returns g c =
    let h = g.B.Blocks.past_of in
    let d : DiskParts g.row.B.Denot g.row.A.Denot = c.self.inside.parts in
    let shape : (journal_in d.now).shape ≡ d.plan.shape = c.self.invariant.kept.shape in
    rw (← c.self.view_is) (record {
      each = c.self.invariant.each;
      now = c.self.invariant.kept.now;
      offers = c.self.invariant.offers;
      honest = λ good. subst (λ (s : Shape). IsHonest (journal_in d.now).offered s (h (journal_in d.now).below).file.content) shape
          (c.stands.ensures.honest good);
      survives = λ good image crash honest. ap (λ (s : Shape). recovered s image) (sym shape)
          ∙ c.stands.ensures.survives good image crash (subst (λ (s : Shape). IsHonest (journal_in d.now).offered s image) (sym shape) honest);
      opens = λ good image crash honest. reopens_now h d (journal_in d.now).last image c.self.invariant good
          (subst (λ (s : Shape). IsInside s (h (journal_in d.now).below).file.content) shape c.stands.ensures.inside)
          (c.stands.ensures.synced good.sound)
          (ap (λ (s : Shape). found s (h (journal_in d.now).below).file.content ((journal_in d.now).last.number % 2)) (sym shape)
          ∙ c.stands.ensures.here good.sound)
          (ap (λ (s : Shape). recovered s image) (sym shape)
          ∙ c.stands.ensures.survives good.sound image crash (subst (λ (s : Shape). IsHonest (journal_in d.now).offered s image) (sym shape) honest)) crash;
      plan = c.self.invariant.plan;
      shape = shape;
      headers = c.self.invariant.before;
      told = tells_still g.B.Blocks.past_of c.self.inside.parts c.self.invariant.before;
    })

use Rattle.std.proofs.Common.{[], ◌≡◌, ◌≤◌, None, length}
use Rattle.store_writer.specs.Parts.{halves_of}
use Rattle.store_writer.specs.declared.copying.Copying.TheVariants.{Steps}
use Rattle.restart.specs.Copies.{Succeeds, copies_left}
use Rattle.restart.specs.Groups.{MayFlip, WritesGroups}
use Rattle.restart.specs.Handing.{MovesOn}
use Rattle.restart.specs.Parts.{unhanded, unwritten, writer_of}
use Rattle.restart.specs.Store.{CopiesAround}
use Rattle.restart.proofs.parts.EngineParts.flip.Given as goal

abbrev pub invariant-groups : goal.invariant-groups
invariant-groups g l = record {
  moves : MovesOn g.D.Device.past_of l.fn.self l.self;
  well : Succeeds g.D.Device.failures l.fn.self l.self;
  all : unhanded l.self ≡ [];
  copying : l.self.writer.copying ≡ Steps None;
  halves : halves_of (writer_of l.self) ≡ halves_of (writer_of l.fn.self);
  left : copies_left l.self ≤ copies_left l.fn.self;
  behind : MayFlip (writer_of l.fn.self) → l.self ≡ l.fn.self;
  groups : WritesGroups (writer_of l.fn.self) (writer_of l.self);
  around : CopiesAround g.D.Device.past_of l.fn.self l.self;
}

abbrev pub decreases-groups : goal.decreases-groups
decreases-groups g l = length (unwritten l.self)

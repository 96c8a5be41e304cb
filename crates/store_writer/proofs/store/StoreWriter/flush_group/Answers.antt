use Rattle.std.proofs.Common.{ap}
use Rattle.store_writer.proofs.Flushing.{nothing_then, idle_then}
use Rattle.store_writer.proofs.store.StoreWriter.flush_group.Goals as goal

pub flush-requires : goal.flush-requires
flush-requires g c = c.self.invariant

pub invariant_of-self : goal.invariant_of-self
invariant_of-self g c =
    let (run, handed, is) = c.self.invariant in
    (run, handed, c.flush.ensures.writer run handed is)

pub returns-clause-writer : goal.returns-clause-writer
returns-clause-writer g c = rw (← c.self.view_is) c.flush.ensures.writer

pub returns-clause-images : goal.returns-clause-images
returns-clause-images g c = rw (← c.self.view_is) c.flush.ensures.images

pub returns-clause-flushed : goal.returns-clause-flushed
returns-clause-flushed g c = rw (← c.self.view_is) c.flush.ensures.flushed

pub returns-clause-image : goal.returns-clause-image
returns-clause-image g c = rw (← c.self.view_is) c.flush.ensures.image

pub returns-clause-copying : goal.returns-clause-copying
returns-clause-copying g c = rw (← c.self.view_is) c.flush.ensures.copying-is

pub returns-clause-sound : goal.returns-clause-sound
returns-clause-sound g c = rw (← c.self.view_is) c.flush.ensures.sound

pub returns-clause-full : goal.returns-clause-full
returns-clause-full g c = rw (← c.self.view_is) c.flush.ensures.full

pub returns-clause-err : goal.returns-clause-err
returns-clause-err g c = rw (← c.self.view_is) c.flush.ensures.err

pub returns-clause-kept : goal.returns-clause-kept
returns-clause-kept g c = rw (← c.self.view_is) c.flush.ensures.kept

pub returns-clause-quiet : goal.returns-clause-quiet
returns-clause-quiet g c = rw (← c.self.view_is) c.flush.ensures.quiet

pub returns-clause-later : goal.returns-clause-later
returns-clause-later g c = rw (← c.self.view_is) c.flush.ensures.later

pub returns-clause-around : goal.returns-clause-around
returns-clause-around g c = rw (← c.self.view_is) c.flush.ensures.around

pub returns-clause-slot : goal.returns-clause-slot
returns-clause-slot g c = rw (← c.self.view_is) c.flush.ensures.slot

pub returns-clause-left : goal.returns-clause-left
returns-clause-left g c = rw (← c.self.view_is) c.flush.ensures.left

pub returns-clause-nothing : goal.returns-clause-nothing
returns-clause-nothing g c =
    rw (← c.self.view_is) (
    λ replies run handed is.
    nothing_then g.D.Device.past_of g.D.Device.failures c.self.inside.writer c.flush.new.self run handed is c.flush.result c.flush.ensures.flushed replies)

pub returns-clause-idle : goal.returns-clause-idle
returns-clause-idle g c =
    rw (← c.self.view_is) (
    λ run handed is sound all.
    idle_then g.D.Device.past_of g.D.Device.failures c.self.inside.writer c.flush.new.self run handed is c.flush.result c.flush.ensures.flushed
    c.flush.ensures.err sound all)

pub returns-clause-knows : goal.returns-clause-knows
returns-clause-knows g c =
    rw (← c.self.view_is) (
    let same = c.flush.ensures.known-is in
    (ap (λ k. k.changed.items) same, ap (λ k. k.current) same, ap (λ k. k.other) same))

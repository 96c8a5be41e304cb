use Rattle.std.proofs.Common.{refl}
use Rattle.store_writer.specs.declared.copying.Copying.TheVariants.{GivenUp}
use Rattle.store_writer.proofs.Opening.{without}
use Rattle.store_writer.proofs.store.StoreWriter.give_up.Goals as goal

pub returns-clause-writer : goal.returns-clause-writer
returns-clause-writer g c =
    rw (← c.self.view_is) (
    λ run handed is. without g.D.Device.past_of run handed GivenUp c.self.inside.writer refl is)

pub invariant_of-self : goal.invariant_of-self
invariant_of-self g c =
    let (run, handed, is) = c.self.invariant in
    (run, handed, without g.D.Device.past_of run handed GivenUp c.self.inside.writer refl is)

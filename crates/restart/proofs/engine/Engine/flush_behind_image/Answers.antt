use Rattle.std.proofs.Common.{inl, subst}
use Rattle.restart.specs.Repeated.{TakesImage}
use Rattle.restart.specs.declared.event.Reply.{Reply}
use Rattle.restart.proofs.engine.Engine.flush_behind_image.Goals as goal

-- the image is current
pub returns-in-Flipped : goal.returns-in-Flipped
returns-in-Flipped g c =
    let mid = c.take_image.new.self in
    inl (
      _,
      mid,
      subst (λ (r : Reply g.row.A.Denot). TakesImage g.D.Device.past_of g.D.Device.failures r c.args.self.now mid) c.in-Flipped.is
          c.take_image.ensures,
      record { lawful = c.serve.ensures.lawful; runs = c.serve.ensures.serves; sectors = c.serve.ensures.sectors },
    )

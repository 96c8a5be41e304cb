use Rattle.std.proofs.Common.{refl}
use Rattle.restart.proofs.Apart.{leaves_parts}
use Rattle.restart.proofs.engine.Engine.into_parts.Goals as goal

pub returns-clause-parts : goal.returns-clause-parts
returns-clause-parts g c =
    rw (← c.self.view_is) (record { core-is = refl; records-are = refl; writer-is = c.forget_image.ensures.forgets })

pub returns-clause-left : goal.returns-clause-left
returns-clause-left g c =
    rw (← c.self.view_is) (
    leaves_parts g.D.Device.past_of c.self.inside.parts _ _ _
    (record { core-is = refl; records-are = refl; writer-is = c.forget_image.ensures.forgets }) c.forget_image.ensures.writer)

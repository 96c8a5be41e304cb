use Rattle.std.proofs.Common.{◌≡◌, true, false}
use Rattle.restart.specs.Repeated.{Serves, is_on_the_way}
use Rattle.restart.specs.declared.event.Event.TheVariants.{Copy}
use Rattle.restart.proofs.WholeImages.{fewer_left, last_copy, one_copy_more}
use Rattle.restart.proofs.engine.Engine.take_image.Goals as goal

-- this reply is the final one
pub returns-then-not-is_on_the_way : goal.returns-then-not-is_on_the_way
returns-then-not-is_on_the_way g c =
    let told = c.serve-reply.result in
    let new = c.serve-reply.new.self in
    let served : Serves g.D.Device.past_of g.D.Device.failures Copy told c.copies.self new =
    record { lawful = c.serve-reply.ensures.lawful; runs = c.serve-reply.ensures.serves; sectors = c.serve-reply.ensures.sectors } in
    let ends : is_on_the_way told ≡ false = cc in
    c.copies.invariant.goes_on told new (last_copy g.D.Device.past_of g.D.Device.failures told c.copies.self new ends served)

-- this reply comes before those that follow
pub copies-preserved : goal.copies-preserved
copies-preserved g c =
    let told = c.serve-reply.result in
    let mid = c.serve-reply.new.self in
    let served : Serves g.D.Device.past_of g.D.Device.failures Copy told c.copies.self mid =
    record { lawful = c.serve-reply.ensures.lawful; runs = c.serve-reply.ensures.serves; sectors = c.serve-reply.ensures.sectors } in
    let on_the_way : is_on_the_way told ≡ true = cc in
    record {
      goes_on = λ final new on.
          c.copies.invariant.goes_on final new (one_copy_more g.D.Device.past_of g.D.Device.failures final told c.copies.self mid new on_the_way served on);
    }

-- fewer copies are left
pub copies-smaller : goal.copies-smaller
copies-smaller g c =
    let told = c.serve-reply.result in
    let new = c.serve-reply.new.self in
    let served : Serves g.D.Device.past_of g.D.Device.failures Copy told c.copies.self new =
    record { lawful = c.serve-reply.ensures.lawful; runs = c.serve-reply.ensures.serves; sectors = c.serve-reply.ensures.sectors } in
    let on_the_way : is_on_the_way told ≡ true = cc in
    fewer_left g.D.Device.past_of g.D.Device.failures told c.copies.self new on_the_way served

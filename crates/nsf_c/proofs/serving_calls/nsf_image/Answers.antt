use Rattle.std.proofs.Common.{subst}
use Rattle.nsf_c.specs.Calls.{TakesImage}
use Rattle.nsf_c.specs.declared.held.Held.{Held}
use Rattle.nsf_c.proofs.serving_calls.nsf_image.Goals as goal

pub returns : goal.returns
returns c =
    let new = c.take_image-reply.new.self in
    record {
      reply = c.take_image-reply.result;
      moves = (
        _,
        _,
        c.take-held.ensures.taken,
        c.put.ensures,
        subst (λ (old : Held). TakesImage c.take_image-reply.result old.store new) c.deref_mut.ensures.value c.take_image-reply.ensures,
      );
      tells = (c.status_of.ensures, c.told_of.ensures);
    }

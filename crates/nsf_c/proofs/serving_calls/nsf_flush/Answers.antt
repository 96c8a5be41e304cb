use Rattle.std.proofs.Common.{subst}
use Rattle.nsf_c.specs.Calls.{Flushes}
use Rattle.nsf_c.specs.declared.held.Held.{Held}
use Rattle.nsf_c.proofs.serving_calls.nsf_flush.Goals as goal

pub returns : goal.returns
returns c =
    let new = c.flush-reply.new.self in
    record {
      reply = c.flush-reply.result;
      moves = (
        _,
        _,
        c.take-held.ensures.taken,
        c.put.ensures,
        subst (λ (old : Held). Flushes c.flush-reply.result old.store new) c.deref_mut.ensures.value c.flush-reply.ensures,
      );
      tells = (c.status_of.ensures, c.told_of.ensures);
    }

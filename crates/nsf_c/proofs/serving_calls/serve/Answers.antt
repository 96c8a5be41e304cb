use Rattle.std.proofs.Common.{subst}
use Rattle.nsf_c.specs.Calls.{Serves}
use Rattle.nsf_c.specs.declared.held.Held.{Held}
use Rattle.nsf_c.proofs.serving_calls.serve.Goals as goal

pub returns : goal.returns
returns c =
    let new = c.serve-reply.new.self in (
      _,
      _,
      c.take-held.ensures.taken,
      c.put.ensures,
      subst (λ (old : Held).
          Serves c.args.event c.serve-reply.result old.store new) c.deref_mut.ensures.value c.serve-reply.ensures,
    )

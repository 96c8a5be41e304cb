use Rattle.std.proofs.Common.{◌∙◌, ap, map, subst, sym}
use Rattle.std.proofs.Math.Logic.{∥∥₁_map}
use Rattle.core_model.specs.Events.{Event}
use Rattle.core_parts.specs.Builds.{built}
use Rattle.nsf_core.specs.Loading.{IsQuiet}
use Rattle.core_parts.specs.Replies.{reply_by}
use Rattle.nsf_core.specs.Value.{value_of}
use Rattle.core_parts.specs.View.{Serves}
use Rattle.threads_sessions.specs.Halves.{shown}
use Rattle.threads_loops.proofs.build.build_step.Goals as goal

pub returns-clause-stepped : goal.returns-clause-stepped
returns-clause-stepped g c =
    let was = c.deref_mut.result.now in
    ∥∥₁_map was.shared (λ all. record {
      served = record {
        core = value_of was.core;
        new = value_of c.build_step-built.new.self.core;
        pushed = was.pusher.records;
        book = map shown was.book.items;
        shared = all;
        serves = c.build_step-built.ensures.served;
      };
      counted = sym (c.attempts-attempts.ensures ∙ ap (λ locked. (value_of locked.core).attempts) c.deref.ensures);
    })

pub returns-clause-quiet : goal.returns-clause-quiet
returns-clause-quiet g c = λ e is on.
    let was = c.deref_mut.result.now in
    let new = c.build_step-built.new.self in
    ∥∥₁_map was.shared (λ all. record {
      served = record {
        core = value_of was.core;
        new = value_of new.core;
        pushed = was.pusher.records;
        book = map shown was.book.items;
        shared = all;
        serves = subst (λ r. Serves (value_of was.core) Event.Build (reply_by built r) (value_of new.core)) is c.build_step-built.ensures.served;
      };
      quiet = subst (λ locked. IsQuiet (value_of locked.core)) c.deref-2.ensures (c.is_quiet-is_quiet.ensures.0 on);
    })

use Rattle.std.proofs.Common.{sym, subst}
use Rattle.store_writer.specs.Writer.{IsWriter}
use Rattle.restart.specs.Copies.{IsCopyAnswer}
use Rattle.restart.specs.Store.{CanRun, CopiesAround, ServesOn}
use Rattle.restart.specs.declared.event.Event.TheVariants.{Copy}
use Rattle.restart.proofs.Settled.{can_give_up, serves_anew}
use Rattle.restart.proofs.parts.EngineParts.copy_anew.Goals as goal

pub copy-requires : goal.copy-requires
copy-requires g c =
    let past_of = g.D.Device.past_of in
    let old = c.args.self.now in
    subst (λ w. CanRun past_of (record old { writer = w })) (sym c.give_up.ensures.gives_up)
    (can_give_up past_of old (λ run handed is. subst (IsWriter past_of run handed) c.give_up.ensures.gives_up (c.give_up.ensures.writer run handed is))
    c.requires)

pub returns-clause-copies : goal.returns-clause-copies
returns-clause-copies g c =
    let past_of = g.D.Device.past_of in
    let old = c.args.self.now in
    let new = c.copy.new.self in
    record {
      answer = subst (λ w. IsCopyAnswer g.D.Device.failures c.copy.result (record old { writer = w }) new) c.give_up.ensures.gives_up c.copy.ensures.answer;
      runs = serves_anew past_of old
          (λ run handed is. subst (IsWriter past_of run handed) c.give_up.ensures.gives_up (c.give_up.ensures.writer run handed is)) c.copy.result new
          (subst (λ w. ServesOn past_of Copy c.copy.result (record old { writer = w }) new) c.give_up.ensures.gives_up c.copy.ensures.serves);
      around = subst (λ w. CopiesAround past_of (record old { writer = w }) new) c.give_up.ensures.gives_up c.copy.ensures.around;
    }

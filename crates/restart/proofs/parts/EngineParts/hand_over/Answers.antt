use Rattle.std.proofs.Common.{refl, sym, subst, ap, ◌∙◌}
use Rattle.nsf_core.specs.Outbox.{HandsOn}
use Rattle.nsf_core.specs.Value.{value_of}
use Rattle.restart.specs.declared.parts.EngineParts.{EngineParts}
use Rattle.restart.proofs.Handed.{all_over, next, none_over}
use Rattle.restart.proofs.parts.EngineParts.hand_over.Goals as goal

pub hand_in-requires : goal.hand_in-requires
hand_in-requires g c =
    let old = c.args.self.now in
    let core_then = value_of c.take_outbox.new.self in
    let hands : HandsOn (value_of old.core) core_then old.outgoing.items c.replace-outgoing.result.items =
    subst (HandsOn (value_of old.core) core_then old.outgoing.items)
    (sym (ap (λ v. v.items) c.replace-outgoing.ensures.value)) c.take_outbox.ensures.handed in (
      c.requires.0,
      c.requires.1,
      c.requires.4.writer,
      next g.D.Device.past_of old core_then c.replace-outgoing.result.items hands c.requires.0 c.requires.1 c.requires.2 c.requires.3 c.requires.4,
    )

pub returns-in-Ok-clause-hands : goal.returns-in-Ok-clause-hands
returns-in-Ok-clause-hands g c =
    let old = c.args.self.now in
    let core_then = value_of c.take_outbox.new.self in
    let hands : HandsOn (value_of old.core) core_then old.outgoing.items c.replace-outgoing.result.items =
    subst (HandsOn (value_of old.core) core_then old.outgoing.items)
    (sym (ap (λ v. v.items) c.replace-outgoing.ensures.value)) c.take_outbox.ensures.handed in
    let new : EngineParts g.row.D.Denot g.row.A.Denot = record {
      core = c.take_outbox.new.self;
      writer = c.hand_in.new.self;
      outgoing = c.replace-outgoing.new.dest;
      alloc = old.alloc;
      geometry = old.geometry;
    } in
    all_over g.D.Device.past_of old core_then c.replace-outgoing.result.items hands new refl c.hand_in.ensures.device c.hand_in.ensures.halves
    c.hand_in.ensures.log c.hand_in.ensures.synced c.hand_in.ensures.failed c.hand_in.ensures.image refl c.hand_in.ensures.copying
    c.in-Ok.ensures.writer c.in-Ok.ensures.waits (ap (λ v. v.items) c.replace-outgoing.ensures.after ∙ c.new.ensures.items)

pub returns-in-Err-clause-hands : goal.returns-in-Err-clause-hands
returns-in-Err-clause-hands g c =
    let old = c.args.self.now in
    let core_then = value_of c.take_outbox.new.self in
    let hands : HandsOn (value_of old.core) core_then old.outgoing.items c.replace-outgoing.result.items =
    subst (HandsOn (value_of old.core) core_then old.outgoing.items)
    (sym (ap (λ v. v.items) c.replace-outgoing.ensures.value)) c.take_outbox.ensures.handed in
    let new : EngineParts g.row.D.Denot g.row.A.Denot = record {
      core = c.take_outbox.new.self;
      writer = c.hand_in.new.self;
      outgoing = c.in-Err.back;
      alloc = old.alloc;
      geometry = old.geometry;
    } in
    none_over g.D.Device.past_of old core_then c.replace-outgoing.result.items hands new refl c.hand_in.ensures.device c.hand_in.ensures.halves
    c.hand_in.ensures.log c.hand_in.ensures.synced c.hand_in.ensures.failed c.hand_in.ensures.image refl c.hand_in.ensures.copying
    c.in-Err.ensures.unchanged c.in-Err.ensures.still c.in-Err.ensures.back

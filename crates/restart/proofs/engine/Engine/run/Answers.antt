use Rattle.std.proofs.Common.{◌∙◌, rules, ◌≡◌, length, take, List, [], ◌∷◌, ◌++◌, get_or, refl, sym, ap, subst, arith, length-append, length-take}
use Rattle.std.proofs.lemmas.List.{take_more, take_all}
use Rattle.restart.specs.declared.event.Event.{Event}
use Rattle.restart.specs.declared.event.Reply.{Reply}
use Rattle.restart.specs.Lawful.{IsLawful, AreLawful}
use Rattle.restart.specs.Store.{Past, IsAt, ServesOn, GoesOn, AreServed, HaveNoCopy, and_then}
use Rattle.store_writer.proofs.Around.{then_around}
use Rattle.restart.specs.Parts.{horizon_of, writer_of}
use Rattle.restart.proofs.Around.{around_none, no_copy_last}
use Rattle.restart.proofs.Runs.{goes_nowhere, goes_further, lawful_last, served_last}
use Rattle.restart.proofs.Stories.{crash_since}
use Rattle.restart.proofs.engine.Engine.run.Goals as goal

pub loop-event-init : goal.loop-event-init
loop-event-init g c = record {
  even = ap length c.in_ok-replies.ensures.items;
  room = omega (arith, c.in_ok-replies.ensures.exact);
  lawful = subst (λ (rs : List (Reply _)). AreLawful g.D.Device.failures [] rs c.args.self.now c.args.self.now) (sym c.in_ok-replies.ensures.items) refl;
  served = λ past is. subst (λ (rs : List (Reply _)). AreServed g.D.Device.past_of g.D.Device.failures past [] rs c.args.self.now c.args.self.now)
      (sym c.in_ok-replies.ensures.items) refl;
  around = λ _. around_none g.D.Device.past_of c.args.self.now c.args.self.now;
  sectors = refl;
  ran = λ past is. subst (λ (rs : List (Reply _)). GoesOn g.D.Device.past_of past [] rs c.args.self.now c.args.self.now) (sym c.in_ok-replies.ensures.items)
      (goes_nowhere g.D.Device.past_of past c.args.self.now is);
}

pub loop-event-preserved : goal.loop-event-preserved
loop-event-preserved g c =
    let inv = c.loop-event.invariant in
    let past_of = g.D.Device.past_of in
    let i = c.loop-event.event-index in
    let events = c.args.events.now in
    let item : c.event-item.result ≡ get_or events i c.event-item.result = c.event-item.is in
    let even : length c.loop-event.replies.items ≡ length (take i events) = omega (arith, inv.even, length-take i events, c.loop-event-test.true) in
    record {
      even = omega (arith, inv.even, ap length c.in-Ok.ensures.items, length-append c.loop-event.replies.items (c.serve-reply.result ∷ []));
      room = omega (arith, inv.room, c.push.ensures.capacity);
      lawful =
          subst (λ (es : List Event). AreLawful g.D.Device.failures es c.push.new.self.items c.args.self.now c.serve-reply.new.self)
          (sym (take_more events i c.event-item.result c.loop-event-test.true))
          (subst (λ (rs : List (Reply _)). AreLawful g.D.Device.failures
          (take i events ++ get_or events i c.event-item.result ∷ []) rs c.args.self.now c.serve-reply.new.self) (sym c.in-Ok.ensures.items)
          (lawful_last g.D.Device.failures (take i events) c.loop-event.replies.items
          (get_or events i c.event-item.result) c.serve-reply.result c.args.self.now c.loop-event.self c.serve-reply.new.self inv.lawful
          (subst (λ e. IsLawful g.D.Device.failures e c.serve-reply.result c.loop-event.self c.serve-reply.new.self) item c.serve-reply.ensures.lawful)));
      served = λ past is.
          subst (λ (es : List Event). AreServed past_of g.D.Device.failures past es c.push.new.self.items c.args.self.now c.serve-reply.new.self)
          (sym (take_more events i c.event-item.result c.loop-event-test.true))
          (subst (λ (rs : List (Reply _)). AreServed past_of g.D.Device.failures past
          (take i events ++ get_or events i c.event-item.result ∷ []) rs c.args.self.now c.serve-reply.new.self) (sym c.in-Ok.ensures.items)
          (served_last past_of g.D.Device.failures past (take i events) c.loop-event.replies.items
          (get_or events i c.event-item.result) c.serve-reply.result c.args.self.now c.loop-event.self c.serve-reply.new.self is (inv.served past is)
          (subst (λ e. IsLawful g.D.Device.failures e c.serve-reply.result c.loop-event.self c.serve-reply.new.self) item c.serve-reply.ensures.lawful)
          (subst (λ e. ServesOn past_of e c.serve-reply.result c.loop-event.self c.serve-reply.new.self) item c.serve-reply.ensures.serves)));
      around = λ none.
          let both = no_copy_last (take i events) (get_or events i c.event-item.result)
          (subst HaveNoCopy (take_more events i c.event-item.result c.loop-event-test.true) none) in
          then_around past_of (writer_of c.args.self.now) (writer_of c.loop-event.self) (writer_of c.serve-reply.new.self) (inv.around both.0)
          (c.serve-reply.ensures.around (λ copy. both.1 (sym item ∙ copy)));
      sectors = c.serve-reply.ensures.sectors ∙ inv.sectors;
      ran = λ past is.
          subst (λ (es : List Event). GoesOn past_of past es c.push.new.self.items c.args.self.now c.serve-reply.new.self)
          (sym (take_more events i c.event-item.result c.loop-event-test.true))
          (subst (λ (rs : List (Reply _)). GoesOn past_of past
          (take i events ++ get_or events i c.event-item.result ∷ []) rs c.args.self.now c.serve-reply.new.self) (sym c.in-Ok.ensures.items)
          (goes_further past_of past (take i events) c.loop-event.replies.items c.args.self.now c.loop-event.self c.serve-reply.new.self
          (get_or events i c.event-item.result) c.serve-reply.result even (inv.ran past is)
          (subst (λ e. ServesOn past_of e c.serve-reply.result c.loop-event.self c.serve-reply.new.self) item c.serve-reply.ensures.serves)));
    }

pub returns : goal.returns
returns g c =
    let ran : (past : Past _) → IsAt g.D.Device.past_of past c.args.self.now
    → GoesOn g.D.Device.past_of past c.args.events.now c.loop-event.replies.items c.args.self.now c.loop-event.self =
    λ past is. subst (λ (es : List Event). GoesOn g.D.Device.past_of past es c.loop-event.replies.items c.args.self.now c.loop-event.self)
    (take_all c.loop-event.event-index c.args.events.now c.loop-event-test.false) (c.loop-event.invariant.ran past is) in
    record {
      at_end = λ past is image crash. crash_since g.D.Device.past_of (and_then past c.args.events.now c.loop-event.replies.items) c.loop-event.self
          (ran past is).at (horizon_of c.loop-event.self) (omega arith) image crash;
      served = λ past is. subst (λ (es : List Event).
          AreServed g.D.Device.past_of g.D.Device.failures past es c.loop-event.replies.items c.args.self.now c.loop-event.self)
          (take_all c.loop-event.event-index c.args.events.now c.loop-event-test.false) (c.loop-event.invariant.served past is);
      ran = ran;
      lawful = subst (λ (es : List Event). AreLawful g.D.Device.failures es c.loop-event.replies.items c.args.self.now c.loop-event.self)
          (take_all c.loop-event.event-index c.args.events.now c.loop-event-test.false) c.loop-event.invariant.lawful;
      around = λ none. c.loop-event.invariant.around (subst HaveNoCopy
          (sym (take_all c.loop-event.event-index c.args.events.now c.loop-event-test.false)) none);
      sectors = c.loop-event.invariant.sectors;
      refused = tt;
      no_memory = tt;
      some = tt;
    }

pub returns-in_err-replies-clause-some : goal.returns-in_err-replies-clause-some
returns-in_err-replies-clause-some g c = search rules

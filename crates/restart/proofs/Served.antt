-- A request that the core serves leaves the engine where the run says.
use Rattle.std.proofs.Common.{◌≡◌, ℕ, ◌≤◌, List, Option, Some, [], ◌∷◌, ◌++◌, sym, ◌∙◌, ap, subst, arith}
use Rattle.core_model.specs.Events as core
use Rattle.core_model.specs.Events.{standing_after}
use Rattle.core_model.specs.Replies.{after_any}
use Rattle.core_model.specs.Served.{HasServed, records_by}
use Rattle.core_model.proofs.ReplyLaws.{served_allowed}
use Rattle.core_parts.specs.View.{Answers}
use Rattle.sector_device.specs.DevicePast.{DevicePast, LeavesOnly}
use Rattle.sector_device.proofs.Moments.{started}
use Rattle.store_writer.specs.Parts.{device_of}
use Rattle.restart.specs.declared.event.Event.{Event}
use Rattle.restart.specs.declared.event.Event.TheVariants as event
use Rattle.restart.specs.declared.event.Reply.{Reply}
use Rattle.restart.specs.declared.parts.EngineParts.{EngineParts}
use Rattle.restart.specs.History.{IsOfKind, acknowledged, answered, asked, both, core_calls}
use Rattle.restart.specs.Lawful.{ServesInCore}
use Rattle.restart.specs.Parts.{core_of, horizon_of, writer_of}
use Rattle.restart.specs.Store.{CanRun, IsAt, Past, StandsAt, Survives, acknowledged_by, and_then, over, run_of}
use Rattle.restart.proofs.Standing.{Laws, stands_then}
use Rattle.restart.proofs.Stories.{at_next, crash_since}

both_are : (asks : Option core.Event) (answers : Option core.Reply) (e : core.Event) (r : core.Reply) → asks ≡ Some e → answers ≡ Some r
    → (e, r) ∷ [] ≡ both asks answers
both_are asks answers e r p q = sym (ap (λ a. both a answers) p ∙ ap (both (Some e)) q)

-- what the core answered is of its request's kind
of_kind : {M : Type 0} (x : Event) (r : Reply M) (e : core.Event) (told : core.Reply) → asked x ≡ Some e → answered r ≡ Some told → IsOfKind x r
of_kind event.Begin r e told p q = λ none. cc
of_kind (event.Insert txn key body) r e told p q = λ none. cc
of_kind (event.Delete txn rid) r e told p q = λ none. cc
of_kind (event.Update txn rid key body) r e told p q = λ none. cc
of_kind (event.Step txn) r e told p q = λ none. cc
of_kind (event.Undo txn) r e told p q = λ none. cc
of_kind (event.End txn) r e told p q = λ none. cc
of_kind (event.Commit txn) r e told p q = λ none. cc
of_kind event.Create r e told p q = λ none. cc
of_kind event.Drop r e told p q = λ none. cc
of_kind event.Build r e told p q = λ none. cc
of_kind event.Clean r e told p q = λ none. cc
of_kind event.Flush r e told p q = absurd cc
of_kind event.Copy r e told p q = absurd cc
of_kind (event.Get rid) r e told p q = λ none. cc
of_kind (event.Find key) r e told p q = λ none. cc
of_kind event.Life r e told p q = λ none. cc

module _ {D M : Type 0} (past_of : D → DevicePast) (x : Event) (e : core.Event) (r : Reply M) (old new : EngineParts D M) (asks : asked x ≡ Some e)
    (in_core : ServesInCore e r old new) (laws : Laws past_of (writer_of old)) where
  pub can_run_then : CanRun past_of old → CanRun past_of new
  can_run_then can =
      let is : StandsAt past_of can.0 can.1 can.2 can.3 old = can.4 in
      let a : Answers (core_of old) can.2 can.3 e in_core.reply (core_of new) = in_core.serves can.2 can.3 is.shown in
      (_, _, _, _, stands_then past_of can.0 can.1 can.2 can.3 old is laws new e in_core.reply a in_core.rest)

  module _ (quiet : (n : ℕ) → acknowledged n (r ∷ []) ≡ n) (past : Past M) (is : IsAt past_of past old) where
    abbrev answer : Answers (core_of old) is.state is.standing e in_core.reply (core_of new)
    answer = in_core.serves is.state is.standing is.stands.shown

    has : HasServed (over past.geometry past.given) (is.made ++ records_by is.state is.standing.made answer.step)
        (core_calls past.events past.replies ++ both (asked x) (answered r)) (after_any is.state answer.step) (standing_after is.standing in_core.reply)
    has = subst (λ (l : List (core.Event × core.Reply)).
        HasServed (over past.geometry past.given) (is.made ++ records_by is.state is.standing.made answer.step) (core_calls past.events past.replies ++ l)
        (after_any is.state answer.step) (standing_after is.standing in_core.reply))
        (both_are (asked x) (answered r) e in_core.reply asks in_core.reply_is)
        (served_allowed (over past.geometry past.given) is.opens is.made
        (core_calls past.events past.replies) is.state is.standing is.served e in_core.reply answer.step answer.allowed)

    same_horizon : horizon_of new ≡ horizon_of old
    same_horizon = ap (λ (e : EngineParts D M). horizon_of e) in_core.rest

    pub at_then : IsAt past_of (and_then past (x ∷ []) (r ∷ [])) new
    at_then = at_next past_of past old new x r (of_kind x r e in_core.reply asks in_core.reply_is) is
        (is.made ++ records_by is.state is.standing.made answer.step) is.handed (after_any is.state answer.step) (standing_after is.standing in_core.reply) has
        (stands_then past_of (run_of past is.made) is.handed is.state is.standing old is.stands laws new e in_core.reply answer in_core.rest)
        (omega (arith, quiet (acknowledged_by past), is.safe, same_horizon))

    pub leaves_then : LeavesOnly (past_of (device_of (writer_of old))) (past_of (device_of (writer_of new)))
        (Survives (and_then past (x ∷ []) (r ∷ [])) (horizon_of old))
    leaves_then = subst (λ w. LeavesOnly (past_of (device_of w)) (past_of (device_of (writer_of new)))
        (Survives (and_then past (x ∷ []) (r ∷ [])) (horizon_of old))) (ap (λ (e : EngineParts D M). writer_of e) in_core.rest)
        (started (past_of (device_of (writer_of new))) (Survives (and_then past (x ∷ []) (r ∷ [])) (horizon_of old))
        (λ image crash. crash_since past_of (and_then past (x ∷ []) (r ∷ [])) new at_then (horizon_of old) (omega (arith, same_horizon)) image crash))

    pub served : IsAt past_of (and_then past (x ∷ []) (r ∷ [])) new
        × LeavesOnly (past_of (device_of (writer_of old))) (past_of (device_of (writer_of new))) (Survives (and_then past (x ∷ []) (r ∷ [])) (horizon_of old))
        × (horizon_of old ≤ horizon_of new)
    served = (at_then, leaves_then, omega (arith, same_horizon))

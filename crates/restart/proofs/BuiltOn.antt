-- What requests to build leave, one after another.
use Rattle.std.proofs.Common.{List, Option, Some, [], ap, arith, length, refl, subst, sym, ℕ, ◌++◌, ◌∙◌, ◌∷◌, ◌≡◌, ◌≤◌}
use Rattle.std.specs.Prelude.{◌↔◌}
use Rattle.std.proofs.lemmas.List.{nil_from_length}
use Rattle.std.specs.FinMap.{get}
use Rattle.record_values.specs.declared.pair.Mark.TheVariants.{Live}
use Rattle.record_values.specs.declared.pair.Pair.{Pair}
use Rattle.model.specs.Table.{IsPairOf, Table}
use Rattle.record_values.specs.Entries.{Index}
use Rattle.model.specs.declared.life.Life.TheVariants.{Complete}
use Rattle.core_model.proofs.Laws.{made_holds, whole}
use Rattle.core_model.specs.States.{State}
use Rattle.core_model.specs.Steps.{MachineStep}
use Rattle.core_model.specs.Events as core
use Rattle.core_model.specs.Events.{Standing, standing_after}
use Rattle.core_model.specs.Replies.{IsAllowed, accepted, after_any, build_step, no_memory, refused, refused_last, skipped, unknown}
use Rattle.core_model.specs.Served.{records_by}
use Rattle.core_model.proofs.ReplyLaws.{served_allowed}
use Rattle.core_parts.specs.Moves.{txn_shown}
use Rattle.core_parts.specs.View as view
use Rattle.core_parts.specs.View.{Answers, AreOne, CoreValue, IsSafe, IsState}
use Rattle.nsf_core.proofs.Offered.{stands}
use Rattle.sector_device.specs.DevicePast.{DevicePast, LeavesOnly}
use Rattle.sector_device.proofs.Moments.{started}
use Rattle.store_writer.specs.Parts as writer
use Rattle.restart.specs.declared.parts.EngineParts.{EngineParts}
use Rattle.restart.specs.declared.event.Event.TheVariants as event
use Rattle.restart.specs.declared.event.Reply.{Reply}
use Rattle.restart.specs.Building.{AreBuilt, HasCome, IsIndexWhole, builds}
use Rattle.restart.specs.Lawful.{ServesInCore}
use Rattle.restart.specs.Parts.{core_of, device_of, horizon_of, writer_of}
use Rattle.restart.specs.Store.{CanRun, Past, IsAt, Survives, and_then}
use Rattle.restart.proofs.Runs.{and_then_both, and_then_none}
use Rattle.restart.proofs.Serving.{can_run_by_core, served_by_core}
use Rattle.restart.proofs.Standing.{Laws}
use Rattle.restart.proofs.Stories.{crash_since}

-- ---- one request

record Keeps (s : State) (k : Standing) (new : State) (after : Standing) : Type 0 where
  pub rows : new.rows ≡ s.rows
  pub active : after.active ≡ k.active
  pub made : k.made ≤ after.made

keeps_due : (s : State) (k : Standing) (b : core.BuildReply) → Keeps s k (after_any s (build_step b)) (standing_after k (core.Built b))
keeps_due s k (core.Scanned page) = record { rows = refl; active = refl; made = omega arith }
keeps_due s k (core.Placed p) = record { rows = refl; active = refl; made = omega arith }
keeps_due s k (core.Rejected p) = record { rows = refl; active = refl; made = omega arith }
keeps_due s k (core.BuildReply.Marked p n) = record { rows = refl; active = refl; made = omega arith }
keeps_due s k (core.Done n) = record { rows = refl; active = refl; made = omega arith }
keeps_due s k core.Idle = record { rows = refl; active = refl; made = omega arith }

same_keeps : (s : State) (k : Standing) → Keeps s k s k
same_keeps s k = record { rows = refl; active = refl; made = omega arith }

keeps : (s : State) (k : Standing) (r : core.Reply) (step : Option MachineStep) → IsAllowed s k core.Build r step
    → Keeps s k (after_any s step) (standing_after k r)
keeps s k _ _ (unknown a) = same_keeps s k
keeps s k _ _ (skipped a p) = same_keeps s k
keeps s k _ _ (refused a p error f) = same_keeps s k
keeps s k _ _ (refused_last a p f r x due error g) = same_keeps s k
keeps s k _ _ (no_memory a p f r x due g w) = same_keeps s k
keeps s k r step (accepted a p f _ _ due g) =
    subst (λ x. Keeps s k (after_any s step) (standing_after k x)) (sym due.2)
    (subst (λ x. Keeps s k (after_any s x) (standing_after k (core.Built due.0))) (sym due.3) (keeps_due s k due.0))

module _ (v v' : CoreValue) (r : core.Reply) (serves : view.Serves v core.Build r v') where
  stays_safe : IsSafe v → IsSafe v'
  stays_safe safe = let a : Answers v safe.state safe.standing core.Build r v' = serves safe.state safe.standing safe.is in
      record {
        state = after_any safe.state a.step;
        standing = standing_after safe.standing r;
        is = stands v v' safe.state safe.standing core.Build r safe.is a;
      }

  module _ (come : HasCome v) where
    answer : Answers v come.state come.standing core.Build r v'
    answer = serves come.state come.standing come.shown

    kept : Keeps come.state come.standing (after_any come.state answer.step) (standing_after come.standing r)
    kept = keeps come.state come.standing r answer.step answer.allowed

    comes : HasCome v'
    comes = record {
      opening = come.opening;
      opens = come.opens;
      made = come.made ++ records_by come.state come.standing.made answer.step;
      pairs = come.pairs ++ (core.Build, r) ∷ [];
      state = after_any come.state answer.step;
      standing = standing_after come.standing r;
      served = served_allowed come.opening come.opens come.made come.pairs come.state come.standing come.served core.Build r answer.step answer.allowed;
      shown = stands v v' come.state come.standing core.Build r come.shown answer;
    }

    same_rows : v'.heap.rows ≡ v.heap.rows
    same_rows = sym answer.shown.rows ∙ kept.rows ∙ come.shown.shown.rows

    none_active : v.txns.active ≡ [] → v'.txns.active ≡ []
    none_active none = nil_from_length v'.txns.active (omega (arith, answer.shown.active, kept.active, come.shown.shown.active, ap length none))

-- ---- one after another

pub record ComesOn (v v' : CoreValue) : Type 0 where
  pub come : HasCome v'
  pub rows : v'.heap.rows ≡ v.heap.rows
  pub quiet : v.txns.active ≡ [] → v'.txns.active ≡ []

module _ {D M : Type 0} where
  pub comes_on : (replies : List (Reply M)) (old new : EngineParts D M) → AreBuilt replies old new → HasCome (core_of old) → ComesOn (core_of old) (core_of new)
  comes_on [] old new same come = subst (λ (e : EngineParts D M). ComesOn (core_of old) (core_of e)) (sym same)
      (record { come = come; rows = refl; quiet = λ none. none })
  comes_on (r ∷ replies) old new built come =
      let serves = built.1.serves in
      let rest : ComesOn (core_of built.0) (core_of new) =
      comes_on replies built.0 new built.2 (comes (core_of old) (core_of built.0) built.1.reply serves come) in
      record {
        come = rest.come;
        rows = rest.rows ∙ same_rows (core_of old) (core_of built.0) built.1.reply serves come;
        quiet = λ none. rest.quiet (none_active (core_of old) (core_of built.0) built.1.reply serves come none);
      }

  pub one_more_built : (replies : List (Reply M)) (r : Reply M) (old mid new : EngineParts D M) → AreBuilt replies old mid → ServesInCore core.Build r mid new
      → AreBuilt (replies ++ r ∷ []) old new
  one_more_built [] r old mid new same serves = (new, subst (λ (e : EngineParts D M). ServesInCore core.Build r e new) same serves, refl)
  one_more_built (x ∷ replies) r old mid new built serves = (built.0, built.1, one_more_built replies r built.0 mid new built.2 serves)

  pub writer_on : (replies : List (Reply M)) (old new : EngineParts D M) → AreBuilt replies old new → writer_of new ≡ writer_of old
  writer_on [] old new same = ap (λ (e : EngineParts D M). writer_of e) same
  writer_on (r ∷ replies) old new built = writer_on replies built.0 new built.2 ∙ ap (λ (e : EngineParts D M). writer_of e) built.1.rest

  module _ (past_of : D → DevicePast) (failures : D → ℕ) where
    laws_on : (old mid : EngineParts D M) → mid ≡ record old { core = mid.core } → Laws past_of (writer_of old) → Laws past_of (writer_of mid)
    laws_on old mid rest laws = subst (Laws past_of) (sym (ap (λ (e : EngineParts D M). writer_of e) rest)) laws

    pub at_built : (replies : List (Reply M)) (old new : EngineParts D M) → AreBuilt replies old new → Laws past_of (writer_of old) → (past : Past M)
        → IsAt past_of past old → IsAt past_of (and_then past (builds replies) replies) new
    at_built [] old new same laws past is = subst (λ (p : Past M). IsAt past_of p new) (sym (and_then_none past)) (subst (IsAt past_of past) (sym same) is)
    at_built (r ∷ replies) old new built laws past is =
        subst (λ (p : Past M). IsAt past_of p new) (and_then_both past (event.Build ∷ []) (builds replies) (r ∷ []) replies)
        (at_built replies built.0 new built.2 (laws_on old built.0 built.1.rest laws) (and_then past (event.Build ∷ []) (r ∷ []))
        (served_by_core past_of failures event.Build r old built.0 built.1 laws past is).0)

    pub can_run_built : (replies : List (Reply M)) (old new : EngineParts D M) → AreBuilt replies old new → Laws past_of (writer_of old) → CanRun past_of old
        → CanRun past_of new
    can_run_built [] old new same laws can = subst (CanRun past_of) (sym same) can
    can_run_built (r ∷ replies) old new built laws can =
        can_run_built replies built.0 new built.2 (laws_on old built.0 built.1.rest laws)
        (can_run_by_core past_of failures event.Build r old built.0 built.1 laws can)

    pub survives_built : (replies : List (Reply M)) (old new : EngineParts D M) → AreBuilt replies old new → Laws past_of (writer_of old) → (past : Past M)
        → IsAt past_of past old
        → LeavesOnly (past_of (device_of old)) (past_of (device_of new)) (Survives (and_then past (builds replies) replies) (horizon_of old))
    survives_built replies old new built laws past is =
        let same : writer_of new ≡ writer_of old = writer_on replies old new built in
        subst (λ w. LeavesOnly (past_of (writer.device_of w)) (past_of (device_of new)) (Survives (and_then past (builds replies) replies) (horizon_of old)))
        same
        (started (past_of (device_of new)) (Survives (and_then past (builds replies) replies) (horizon_of old))
        (crash_since past_of (and_then past (builds replies) replies) new (at_built replies old new built laws past is) (horizon_of old)
        (omega (arith, ap (λ w. writer.synced_of w) same))))

-- ---- what is built

-- a complete index over which no transaction is active
pub whole_core : (v : CoreValue) → HasCome v → v.life ≡ Complete → v.txns.active ≡ [] → IsIndexWhole v
whole_core v come complete none =
    let shown = come.shown.shown in
    subst (λ (rows : Table). (p : Pair) → (get v.index.entries p ≡ Some Live) ↔ IsPairOf rows p) shown.rows
    (subst (λ (entries : Index). (p : Pair) → (get entries p ≡ Some Live) ↔ IsPairOf come.state.rows p) shown.entries
    (whole come.state (made_holds come.opening come.opens come.made _ _ come.state come.served.log) (shown.life ∙ complete)
    (λ t. subst (λ active. AreOne (txn_shown (record v { txns = record v.txns { active = active } }) t) (come.state.txns t)) none (shown.txns t))))

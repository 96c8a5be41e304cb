-- How a build comes to its end.
use Rattle.std.proofs.Common.{Err, IfSome, IsSome, List, None, Ok, Option, Some, [], ap, arith, inl, inr, refl, subst, sym}
use Rattle.std.proofs.Common.{ℕ, ◌++◌, ◌+◌, ◌<◌, ◌∙◌, ◌∷◌, ◌≡◌, ◌≢◌, ◌≤◌}
use Rattle.std.specs.List.{All}
use Rattle.std.proofs.Math.Bridge.{le_prop}
use Rattle.std.proofs.Math.Logic.{∥∥₁_elim, ∥∥₁_map}
use Rattle.std.proofs.lemmas.Bool.{cases_lt, false≢true}
use Rattle.std.proofs.lemmas.List.Elements.{All-push}
use mathlib.Core.HLevel.{⊥_prop}
use Rattle.record_values.specs.declared.error.Error.{Error}
use Rattle.record_values.specs.declared.number.TheConstants.{LAST_NUMBER}
use Rattle.record_values.specs.declared.pair.Pair.{Pair}
use Rattle.model.specs.declared.life.Life.TheVariants.{Absent, Complete}
use Rattle.core_model.specs.States.{State}
use Rattle.core_model.specs.Steps.{MachineStep}
use Rattle.core_model.specs.Events as core
use Rattle.core_model.specs.Events.{Standing}
use Rattle.core_model.specs.Replies.{IsAllowed, accepted, no_memory, refused, refused_last, skipped, unknown}
use Rattle.core_parts.specs.Builds.{built}
use Rattle.core_parts.specs.Replies.{ticket_by}
use Rattle.core_parts.specs.View as view
use Rattle.core_parts.specs.View.{Answers, CoreValue, IsSafe, IsState}
use Rattle.core_parts.specs.declared.parts.Ticket.{Ticket}
use Rattle.core_parts.specs.declared.reply.BuildReply.{BuildReply}
use Rattle.core_parts.specs.declared.reply.BuildReply.TheVariants as build
use Rattle.sector_device.specs.DevicePast.{DevicePast}
use Rattle.restart.specs.declared.parts.EngineParts.{EngineParts}
use Rattle.restart.specs.declared.event.Reply.{Reply}
use Rattle.restart.specs.declared.event.Reply.TheVariants as reply
use Rattle.restart.specs.Building.{AreBuilt, BuildsWhole, EndsWith, HasCome, IsBuiltToEnd, IsUnderway, end_of, in_a_row}
use Rattle.restart.specs.History.{answered}
use Rattle.restart.specs.Parts.{core_of, writer_of}
use Rattle.restart.specs.Store.{CanRun, StandsAt}
use Rattle.restart.proofs.BuiltOn.{at_built, comes_on, one_more_built, survives_built, whole_core}
use Rattle.restart.proofs.Standing.{Laws}
use Rattle.restart.proofs.ToEnd.{IsGoing, IsLess, after_mark, after_placed, after_rejected, after_scan, done_completes, not_idle, work_of}

-- ---- a step

-- a build answers no commit
no_commit : (s : State) (k : Standing) (n c : ℕ) (r : core.Reply) (step : Option MachineStep) → r ≡ core.Committed n c → IsAllowed s k core.Build r step → ⊥
no_commit s k n c _ _ is (unknown a) = absurd cc
no_commit s k n c _ _ is (skipped a p) = absurd cc
no_commit s k n c _ _ is (refused a p error f) = absurd cc
no_commit s k n c _ _ is (refused_last a p f r x due error g) = absurd cc
no_commit s k n c _ _ is (no_memory a p f r x due g w) = absurd cc
no_commit s k n c r step is (accepted a p f _ _ due g) = let other : core.Built due.0 ≡ core.Committed n c = sym due.2 ∙ is in absurd cc

module _ (v v' : CoreValue) (s : State) (k : Standing) (is : IsState v s k) (scanned : ℕ) (so_many : scanned ≤ k.scanned) where
  marked_by : (p : Pair) (n : ℕ) (o : Option ℕ) → Answers v s k core.Build (ticket_by (λ m. core.Built (core.BuildReply.Marked p m)) n o) v'
      → IsLess v v' scanned scanned
  marked_by p n None a = after_mark v v' s k is scanned so_many p n a
  marked_by p n (Some c) a = absurd (no_commit s k n c _ a.step refl a.allowed)

  done_by : (n : ℕ) (o : Option ℕ) → Answers v s k core.Build (ticket_by (λ m. core.Built (core.Done m)) n o) v' → v'.life ≡ Complete
  done_by n None a = done_completes v v' s k is scanned so_many n a
  done_by n (Some c) a = absurd (no_commit s k n c _ a.step refl a.allowed)

-- ---- the steps so far

-- the builder has made these steps, none of them the last, and the index is not complete
pub record HasBuilt {D M : Type 0} (old now : EngineParts D M) (scanned : ℕ) : Type 0 where
  pub replies : List (Reply M)
  pub each : AreBuilt replies old now
  pub underway : All IsUnderway replies
  pub began : (core_of old).life ≢ Complete
  pub going : ∥ IsGoing (core_of now) scanned ∥₁
  pub unfinished : (core_of now).life ≢ Complete
  pub none : (core_of now).life ≡ Absent → (core_of old).life ≡ Absent

pub none_built : {D M : Type 0} (old : EngineParts D M) → (core_of old).life ≢ Complete → HasBuilt old old 0
none_built old unfinished = record {
  replies = [];
  each = refl;
  underway = λ i d below. absurd (omega (arith, below));
  began = unfinished;
  going = ∥∥₁_map old.core.safe (begins (core_of old));
  unfinished = unfinished;
  none = λ none. none;
}
  where
    begins : (v : CoreValue) → IsSafe v → IsGoing v 0
    begins v safe = record { state = safe.state; standing = safe.standing; is = safe.is; so_many = omega arith }

module _ {D M : Type 0} (old mid new : EngineParts D M) (scanned n : ℕ) (so_far : HasBuilt old mid scanned) (r : Reply M) (way : IsUnderway r)
    (reply : core.Reply)
    (told : answered r ≡ Some reply) (rest : new ≡ record mid { core = new.core })
    (serves : view.Serves (core_of mid) core.Build reply (core_of new)) (less : (s : State) (k : Standing) (is : IsState (core_of mid) s k)
    → scanned ≤ k.scanned → IsLess (core_of mid) (core_of new) scanned n) where
  lessens : IsGoing (core_of mid) scanned → work_of (core_of new) n < work_of (core_of mid) scanned
  lessens at = (less at.state at.standing at.is at.so_many).less

  pub work_falls : work_of (core_of new) n < work_of (core_of mid) scanned
  work_falls = ∥∥₁_elim so_far.going le_prop lessens

  pub built_more : HasBuilt old new n
  built_more = record {
    replies = so_far.replies ++ r ∷ [];
    each = one_more_built so_far.replies r old mid new so_far.each (record { reply = reply; reply_is = told; serves = serves; rest = rest });
    underway = All-push IsUnderway so_far.replies r so_far.underway way;
    began = so_far.began;
    going = ∥∥₁_map so_far.going (λ at. (less at.state at.standing at.is at.so_many).going);
    unfinished = λ complete. ∥∥₁_elim so_far.going ⊥_prop (λ at. (less at.state at.standing at.is at.so_many).unfinished complete);
    none = λ none. absurd (∥∥₁_elim so_far.going ⊥_prop (λ at. (less at.state at.standing at.is at.so_many).there none));
  }

-- a step that is not the last: less is left, and it is one more of those that were made
pub record Stepped {D M : Type 0} (old mid new : EngineParts D M) (scanned n : ℕ) : Type 0 where
  pub falls : work_of (core_of new) n < work_of (core_of mid) scanned
  pub goes : HasBuilt old new n

module _ {D M : Type 0} (old mid new : EngineParts D M) (scanned : ℕ) (so_far : HasBuilt old mid scanned) (rest : new ≡ record mid { core = new.core }) where
  -- the step that a build made, and how far it is then
  module _ (n : ℕ) (b : BuildReply) (way : IsUnderway {M = M} (reply.Built b)) (serves : view.Serves (core_of mid) core.Build (built b) (core_of new))
      (less : (s : State) (k : Standing) → IsState (core_of mid) s k → scanned ≤ k.scanned → Answers (core_of mid) s k core.Build (built b) (core_of new)
      → IsLess (core_of mid) (core_of new) scanned n) where
    pub step_falls : work_of (core_of new) n < work_of (core_of mid) scanned
    step_falls = work_falls old mid new scanned n so_far (reply.Built b) way (built b) refl rest serves (λ s k is few. less s k is few (serves s k is))

    pub step_built : HasBuilt old new n
    step_built = built_more old mid new scanned n so_far (reply.Built b) way (built b) refl rest serves (λ s k is few. less s k is few (serves s k is))

  pub scan_stepped : (page n : ℕ) → n ≡ page + 1 → view.Serves (core_of mid) core.Build (built (build.Scanned page)) (core_of new)
      → Stepped old mid new scanned n
  scan_stepped page n next serves =
      let less : (s : State) (k : Standing) → IsState (core_of mid) s k → scanned ≤ k.scanned
      → Answers (core_of mid) s k core.Build (built (build.Scanned page)) (core_of new) → IsLess (core_of mid) (core_of new) scanned n =
      λ s k is few a. subst (IsLess (core_of mid) (core_of new) scanned) (sym next) (after_scan (core_of mid) (core_of new) s k is scanned few page a) in
      record { falls = step_falls n (build.Scanned page) tt serves less; goes = step_built n (build.Scanned page) tt serves less }

  pub place_stepped : (p : Pair) → view.Serves (core_of mid) core.Build (built (build.Placed p)) (core_of new) → Stepped old mid new scanned 0
  place_stepped p serves =
      let less : (s : State) (k : Standing) → IsState (core_of mid) s k → scanned ≤ k.scanned
      → Answers (core_of mid) s k core.Build (built (build.Placed p)) (core_of new) → IsLess (core_of mid) (core_of new) scanned 0 =
      λ s k is few a. after_placed (core_of mid) (core_of new) s k is scanned few p a in
      record { falls = step_falls 0 (build.Placed p) tt serves less; goes = step_built 0 (build.Placed p) tt serves less }

  pub reject_stepped : (p : Pair) → view.Serves (core_of mid) core.Build (built (build.Rejected p)) (core_of new) → Stepped old mid new scanned 0
  reject_stepped p serves =
      let less : (s : State) (k : Standing) → IsState (core_of mid) s k → scanned ≤ k.scanned
      → Answers (core_of mid) s k core.Build (built (build.Rejected p)) (core_of new) → IsLess (core_of mid) (core_of new) scanned 0 =
      λ s k is few a. after_rejected (core_of mid) (core_of new) s k is scanned few p a in
      record { falls = step_falls 0 (build.Rejected p) tt serves less; goes = step_built 0 (build.Rejected p) tt serves less }

  pub mark_stepped : (p : Pair) (ticket : Ticket) → view.Serves (core_of mid) core.Build (built (build.Marked p ticket)) (core_of new)
      → Stepped old mid new scanned scanned
  mark_stepped p ticket serves =
      let less : (s : State) (k : Standing) → IsState (core_of mid) s k → scanned ≤ k.scanned
      → Answers (core_of mid) s k core.Build (built (build.Marked p ticket)) (core_of new) → IsLess (core_of mid) (core_of new) scanned scanned =
      λ s k is few a. marked_by (core_of mid) (core_of new) s k is scanned few p ticket.record ticket.commit a in
      record { falls = step_falls scanned (build.Marked p ticket) tt serves less; goes = step_built scanned (build.Marked p ticket) tt serves less }

  pub never_idle : view.Serves (core_of mid) core.Build (built build.Idle) (core_of new) → ⊥
  never_idle serves = ∥∥₁_elim so_far.going ⊥_prop (λ at.
      not_idle (core_of mid) (core_of new) at.state at.standing at.is scanned at.so_many so_far.unfinished (serves at.state at.standing at.is))

  pub stepped : (b : BuildReply) (n : ℕ) → end_of b ≡ None → n ≡ in_a_row scanned b → view.Serves (core_of mid) core.Build (built b) (core_of new)
      → Stepped old mid new scanned n
  stepped (build.Scanned page) n on is serves = scan_stepped page n is serves
  stepped (build.Placed p) n on is serves = subst (Stepped old mid new scanned) (sym is) (place_stepped p serves)
  stepped (build.Rejected p) n on is serves = subst (Stepped old mid new scanned) (sym is) (reject_stepped p serves)
  stepped (build.Marked p ticket) n on is serves = subst (Stepped old mid new scanned) (sym is) (mark_stepped p ticket serves)
  stepped (build.Done ticket) n on is serves = absurd cc
  stepped build.Idle n on is serves = absurd (never_idle serves)

  -- ---- the last step

  module _ (r : Reply M) (told : core.Reply) (is : answered r ≡ Some told) (serves : view.Serves (core_of mid) core.Build told (core_of new)) where
    pub all_built : AreBuilt (so_far.replies ++ r ∷ []) old new
    all_built = one_more_built so_far.replies r old mid new so_far.each (record { reply = told; reply_is = is; serves = serves; rest = rest })

    pub comes_to : HasCome (core_of old) → HasCome (core_of new)
    comes_to come = (comes_on (so_far.replies ++ r ∷ []) old new all_built come).come

    pub rows_stay : HasCome (core_of old) → (core_of new).heap.rows ≡ (core_of old).heap.rows
    rows_stay come = (comes_on (so_far.replies ++ r ∷ []) old new all_built come).rows

    ends_with : EndsWith r (so_far.replies ++ r ∷ [])
    ends_with = record { before = so_far.replies; all = refl; underway = so_far.underway }

  module _ (past_of : D → DevicePast) (failures : D → ℕ) (laws : Laws past_of (writer_of old)) where
    pub refused_ends : (e : Error) → view.Serves (core_of mid) core.Build (core.Refused e) (core_of new) → IsBuiltToEnd past_of (Err e) old new
    refused_ends e serves = record {
      replies = so_far.replies ++ reply.Refused e ∷ [];
      each = all_built (reply.Refused e) (core.Refused e) refl serves;
      ends = (so_far.began, ends_with (reply.Refused e) (core.Refused e) refl serves);
      at = at_built past_of failures (so_far.replies ++ reply.Refused e ∷ []) old new (all_built (reply.Refused e) (core.Refused e) refl serves) laws;
      survives = survives_built past_of failures (so_far.replies ++ reply.Refused e ∷ []) old new
          (all_built (reply.Refused e) (core.Refused e) refl serves) laws;
    }

    pub done_ends : (ticket : Ticket) → view.Serves (core_of mid) core.Build (built (build.Done ticket)) (core_of new)
        → IsBuiltToEnd past_of (Ok (Some ticket)) old new
    done_ends ticket serves = record {
      replies = so_far.replies ++ reply.Built (build.Done ticket) ∷ [];
      each = all_built (reply.Built (build.Done ticket)) (built (build.Done ticket)) refl serves;
      ends = inr (record {
        unfinished = so_far.began;
        ticket = ticket;
        ends = ends_with (reply.Built (build.Done ticket)) (built (build.Done ticket)) refl serves;
        told = refl;
      });
      at = at_built past_of failures (so_far.replies ++ reply.Built (build.Done ticket) ∷ []) old new
          (all_built (reply.Built (build.Done ticket)) (built (build.Done ticket)) refl serves) laws;
      survives = survives_built past_of failures (so_far.replies ++ reply.Built (build.Done ticket) ∷ []) old new
          (all_built (reply.Built (build.Done ticket)) (built (build.Done ticket)) refl serves) laws;
    }

  pub done_whole : (ticket : Ticket) → view.Serves (core_of mid) core.Build (built (build.Done ticket)) (core_of new) → BuildsWhole (core_of old) (core_of new)
  done_whole ticket serves come none =
      let before = comes_on so_far.replies old mid so_far.each come in
      let after = comes_on (so_far.replies ++ reply.Built (build.Done ticket) ∷ []) old new
      (all_built (reply.Built (build.Done ticket)) (built (build.Done ticket)) refl serves) come in
      let at : HasCome (core_of mid) = before.come in
      let complete : (core_of new).life ≡ Complete = done_by (core_of mid) (core_of new) at.state at.standing at.shown 0
      (omega arith) ticket.record ticket.commit (serves at.state at.standing at.shown) in
      record { rows = after.rows; complete = complete; whole = whole_core (core_of new) after.come complete (after.quiet none) }

pub is_done : (b : BuildReply) (ticket : Ticket) → end_of b ≡ Some ticket → b ≡ build.Done ticket
is_done (build.Scanned page) ticket is = absurd cc
is_done (build.Placed p) ticket is = absurd cc
is_done (build.Rejected p) ticket is = absurd cc
is_done (build.Marked p t) ticket is = absurd cc
is_done (build.Done t) ticket is = let same : t ≡ ticket = cc in ap build.Done same
is_done build.Idle ticket is = absurd cc

-- ---- where the index was complete

module _ {D M : Type 0} (past_of : D → DevicePast) (failures : D → ℕ) (old : EngineParts D M) (laws : Laws past_of (writer_of old)) where
  module _ (complete : (core_of old).life ≡ Complete) where
    pub complete_ends : (answer : Option Ticket) → IfSome answer (λ ticket. (ticket.record ≡ (core_of old).last) × (ticket.commit ≡ None))
        → (answer ≡ None → (core_of old).last ≡ 0) → IsBuiltToEnd past_of (Ok answer) old old
    complete_ends answer last unmade = record {
      replies = [];
      each = refl;
      ends = inl (record { complete = complete; none = refl; last = last; unmade = unmade });
      at = at_built past_of failures [] old old refl laws;
      survives = survives_built past_of failures [] old old refl laws;
    }

    pub complete_whole : BuildsWhole (core_of old) (core_of old)
    complete_whole come none = record { rows = refl; complete = complete; whole = whole_core (core_of old) come complete none }

-- no ticket is answered only where no record was made
pub none_made : {D M : Type 0} (past_of : D → DevicePast) (old : EngineParts D M) (answer : Option Ticket) (number : ℕ) → CanRun past_of old
    → number ≡ (core_of old).last → (1 ≤ number → number ≤ LAST_NUMBER → IsSome answer) → answer ≡ None → (core_of old).last ≡ 0
none_made past_of old answer number can last some none = elim (cases_lt 0 number) [
  | inl more ↦ absurd (false≢true (subst (λ (a : Option Ticket). IsSome a) none (some (omega (arith, more)) (omega (arith, last, small)))))
  | inr zero ↦ omega (arith, zero, last)
]
  where
    is : StandsAt past_of can.0 can.1 can.2 can.3 old
    is = can.4

    small : (core_of old).last ≤ LAST_NUMBER
    small = omega (arith, is.shown.shown.made, is.shown.standing.within)

-- What the steps of a build leave, and that they come to an end.
use Rattle.std.proofs.Common.{Option, Some, ap, arith, refl, subst, sym, ℕ, ◌+◌, ◌<◌, ◌∙◌, ◌≡◌, ◌≢◌, ◌≤◌}
use Rattle.record_values.specs.declared.pair.Pair.{Pair}
use Rattle.model.specs.declared.life.Life.{Life}
use Rattle.model.specs.declared.life.Life.TheVariants.{Absent, Building, Complete}
use Rattle.core_model.specs.States.{State}
use Rattle.core_model.specs.Steps.{CanAttempt, IsBuilding, MachineStep, attempted}
use Rattle.core_model.specs.Events as core
use Rattle.core_model.specs.Events.{Standing, standing_after}
use Rattle.core_model.specs.Replies.{IsAllowed, IsBuildDue, accepted, after_any, build_step, no_memory, refused, refused_last, skipped, unknown}
use Rattle.core_model.specs.Served.{IsEnabledAny}
use Rattle.core_model.proofs.ReplyLaws.{is_move}
use Rattle.core_parts.specs.View.{Answers, CoreValue, IsState, Shows}
use Rattle.nsf_core.proofs.Offered.{stands}
use Rattle.restart.proofs.Climbing.{attempt_falls, mark_falls, scan_falls, work}

-- a step of the builder that succeeds is the one that is due
due_of : (s : State) (k : Standing) (b : core.BuildReply) (r : core.Reply) (step : Option MachineStep) → r ≡ core.Built b → IsAllowed s k core.Build r step
    → IsBuildDue s k b × (step ≡ build_step b)
due_of s k b _ _ is (unknown a) = absurd cc
due_of s k b _ _ is (skipped a p) = absurd cc
due_of s k b _ _ is (refused a p error f) = absurd cc
due_of s k b _ _ is (refused_last a p f r x due error g) = absurd cc
due_of s k b _ _ is (no_memory a p f r x due g w) = absurd cc
due_of s k b r step is (accepted a p f _ _ due g) =
    let same : due.0 ≡ b = cc in
    (subst (IsBuildDue s k) same due.1, due.3 ∙ ap build_step same)

-- what is left to do, of a core
abbrev pub work_of : CoreValue → ℕ → ℕ
work_of v scanned = work v.heap.pages v.index.capacity v.index.entries v.scan.last v.tried scanned

abbrev pub work_at : State → Standing → ℕ → ℕ
work_at s k scanned = work s.pages s.places s.entries s.bound k.attempts scanned

same_work : (v : CoreValue) (s : State) (k : Standing) → Shows v s k → (scanned : ℕ) → work_at s k scanned ≡ work_of v scanned
same_work v s k shown scanned =
    let pages : s.pages ≡ v.heap.pages = shown.pages in
    let places : s.places ≡ v.index.capacity = shown.places in
    let entries : s.entries ≡ v.index.entries = shown.entries in
    let bound : s.bound ≡ v.scan.last = shown.bound in
    let tried : k.attempts ≡ v.tried = shown.attempts in
    cc

-- some state that the core stands for has taken so many pages in a row at least
pub record IsGoing (v : CoreValue) (scanned : ℕ) : Type 0 where
  pub state : State
  pub standing : Standing
  pub is : IsState v state standing
  pub so_many : scanned ≤ standing.scanned

module _ (v v' : CoreValue) (s : State) (k : Standing) (is : IsState v s k) (b : core.BuildReply) (a : Answers v s k core.Build (core.Built b) v') where
  due : IsBuildDue s k b × (a.step ≡ build_step b)
  due = due_of s k b (core.Built b) a.step refl a.allowed

  shown_then : Shows v' (after_any s (build_step b)) (standing_after k (core.Built b))
  shown_then = subst (λ step. Shows v' (after_any s step) (standing_after k (core.Built b))) due.1 a.shown

  next : IsState v' (after_any s (build_step b)) (standing_after k (core.Built b))
  next = subst (λ step. IsState v' (after_any s step) (standing_after k (core.Built b))) due.1 (stands v v' s k core.Build (core.Built b) is a)

building_still : (life : Life) → IsBuilding life → life ≢ Complete
building_still life building complete = absurd_building building.0 (sym building.1 ∙ complete)
  where
    absurd_building : (highest : Option Pair) → Building highest ≡ Complete → ⊥
    absurd_building highest e = cc

building_there : (life : Life) → IsBuilding life → life ≢ Absent
building_there life building none = absurd_building building.0 (sym building.1 ∙ none)
  where
    absurd_building : (highest : Option Pair) → Building highest ≡ Absent → ⊥
    absurd_building highest e = cc

-- what a step leaves that isn't the last
pub record IsLess (v v' : CoreValue) (scanned n : ℕ) : Type 0 where
  pub less : work_of v' n < work_of v scanned
  pub going : IsGoing v' n
  pub unfinished : v'.life ≢ Complete
  pub there : v'.life ≢ Absent

module _ (v v' : CoreValue) (s : State) (k : Standing) (is : IsState v s k) (scanned : ℕ) (so_many : scanned ≤ k.scanned) where
  falls : (b : core.BuildReply) (a : Answers v s k core.Build (core.Built b) v') (n : ℕ)
      → work_at (after_any s (build_step b)) (standing_after k (core.Built b)) n < work_at s k scanned → work_of v' n < work_of v scanned
  falls b a n less =
      subst (λ m. m < work_of v scanned) (same_work v' (after_any s (build_step b)) (standing_after k (core.Built b)) (shown_then v v' s k is b a) n)
      (subst (λ m. work_at (after_any s (build_step b)) (standing_after k (core.Built b)) n < m) (same_work v s k is.shown scanned) less)

  made_less : (b : core.BuildReply) (a : Answers v s k core.Build (core.Built b) v') (n : ℕ) → n ≤ (standing_after k (core.Built b)).scanned
      → IsBuilding (after_any s (build_step b)).life
      → work_at (after_any s (build_step b)) (standing_after k (core.Built b)) n < work_at s k scanned → IsLess v v' scanned n
  made_less b a n few on less = record {
    less = falls b a n less;
    going = record { state = after_any s (build_step b); standing = standing_after k (core.Built b); is = next v v' s k is b a; so_many = few };
    unfinished = λ complete. building_still (after_any s (build_step b)).life on ((shown_then v v' s k is b a).life ∙ complete);
    there = λ none. building_there (after_any s (build_step b)).life on ((shown_then v v' s k is b a).life ∙ none);
  }

  pub after_scan : (page : ℕ) → Answers v s k core.Build (core.Built (core.Scanned page)) v' → IsLess v v' scanned (page + 1)
  after_scan page a =
      let d = (due v v' s k is (core.Scanned page) a).0 in
      made_less (core.Scanned page) a (page + 1) (omega (arith, d.1)) d.0.0
      (scan_falls s.pages s.places s.entries s.bound k.attempts scanned page (omega (arith, d.1, so_many)) d.2)

  pub after_mark : (p : Pair) (n : ℕ) → Answers v s k core.Build (core.Built (core.BuildReply.Marked p n)) v' → IsLess v v' scanned scanned
  after_mark p n a =
      let d = (due v v' s k is (core.BuildReply.Marked p n) a).0 in
      made_less (core.BuildReply.Marked p n) a scanned so_many (Some p, refl)
      (mark_falls s.pages s.places s.entries s.bound k.attempts scanned d.1)

  enabled : (b : core.BuildReply) (a : Answers v s k core.Build (core.Built b) v') → IsEnabledAny s (build_step b)
  enabled b a = subst (IsEnabledAny s) (due v v' s k is b a).1 (is_move s k core.Build (core.Built b) a.step is.fit is.standing a.allowed).enabled

  attempt_less : (p : Pair) → CanAttempt s p → work_at (attempted s p) (record k { attempts = k.attempts + 1 }) 0 < work_at s k scanned
  attempt_less p can = attempt_falls s.pages s.places s.entries s.bound k.attempts scanned p can.rising (λ none. omega (arith, can.room none))

  pub after_placed : (p : Pair) → Answers v s k core.Build (core.Built (core.Placed p)) v' → IsLess v v' scanned 0
  after_placed p a =
      let d = (due v v' s k is (core.Placed p) a).0 in
      made_less (core.Placed p) a 0 (omega arith) d.0.0 (attempt_less p (enabled (core.Placed p) a))

  pub after_rejected : (p : Pair) → Answers v s k core.Build (core.Built (core.Rejected p)) v' → IsLess v v' scanned 0
  after_rejected p a =
      let d = (due v v' s k is (core.Rejected p) a).0 in
      made_less (core.Rejected p) a 0 (omega arith) d.0.0 (attempt_less p (enabled (core.Rejected p) a))

  pub not_idle : v.life ≢ Complete → Answers v s k core.Build (core.Built core.Idle) v' → ⊥
  not_idle unfinished a = unfinished (sym is.shown.life ∙ (due v v' s k is core.Idle a).0)

  pub done_completes : (n : ℕ) → Answers v s k core.Build (core.Built (core.Done n)) v' → v'.life ≡ Complete
  done_completes n a = sym (shown_then v v' s k is (core.Done n) a).life

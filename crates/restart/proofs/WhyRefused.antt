-- Why a step of the builder is refused.
use Rattle.std.proofs.Common.{◌≡◌, ◌∙◌, ◌⊎◌, ◌+◌, ◌≤◌, Option, Some, None, ap, arith, inl, inr, refl, subst, sym, ⊎_elim}
use Rattle.std.specs.FinMap.{len}
use Rattle.std.proofs.Math.Bridge.{le_prop}
use Rattle.std.proofs.Math.Logic.{∥∥₁_elim}
use mathlib.Core.HLevel.{⊥_prop}
use Rattle.record_values.specs.declared.error.Error.{Error}
use Rattle.record_values.specs.declared.error.Error.TheVariants.{BadGeometry, BadScript, BodyTooLong, Damaged, DeviceFailed, DeviceTooSmall, Exhausted}
use Rattle.record_values.specs.declared.error.Error.TheVariants.{HeapFull}
use Rattle.record_values.specs.declared.error.Error.TheVariants.{IndexExists, IndexFull, KeyTooLong, NoIndex, NoMemory, NoSuchRow, NoSuchTxn, NotBuilt}
use Rattle.record_values.specs.declared.error.Error.TheVariants.{NotFormatted}
use Rattle.record_values.specs.declared.error.Error.TheVariants.{OldVersion, RowBusy, Stopped, TooManyChanges, TooManyTxns, TxnsActive}
use Rattle.record_values.specs.declared.number.TheConstants.{LAST_NUMBER}
use Rattle.model.specs.declared.life.Life.{Life}
use Rattle.model.specs.declared.life.Life.TheVariants.{Absent, Building, Complete}
use Rattle.restart.specs.Building.{IsIndexFull}
use Rattle.core_model.specs.States.{State}
use Rattle.core_model.specs.Steps.{MachineStep, all_reserved}
use Rattle.core_model.specs.Events as core
use Rattle.core_model.specs.Events.{Standing}
use Rattle.core_model.specs.Replies.{HasNoPlace, IsAllowed, IsFirst, accepted, build_step, no_memory, refusals, refusals_of, refused, refused_last, skipped}
use Rattle.core_model.specs.Replies.{unknown}
use Rattle.core_parts.specs.View.{CoreValue, IsSafe, Serves}

abbrev pub IsWhy : Error → Type 0
IsWhy e = (e ≡ NoIndex) ⊎ (e ≡ IndexFull) ⊎ (e ≡ Exhausted) ⊎ (e ≡ NoMemory)

same_error : (e x : Error) → Some e ≡ Some x → e ≡ x
same_error e x is = cc

of_step : (s : State) (m x : MachineStep) → Some x ≡ Some m → HasNoPlace s m → HasNoPlace s x
of_step s m x is full = let same : m ≡ x = cc in subst (HasNoPlace s) same full

-- the index has no place left
abbrev NoneLeft : State → Type 0
NoneLeft s = s.places ≤ len s.entries + all_reserved s.pledges

-- why, and when
abbrev IsWhen : State → Standing → Error → Type 0
IsWhen s k e = ((e ≡ NoIndex) × (s.life ≡ Absent)) ⊎ ((e ≡ IndexFull) × NoneLeft s) ⊎ ((e ≡ Exhausted) × (LAST_NUMBER ≤ k.made)) ⊎ (e ≡ NoMemory)

first_when : (s : State) (k : Standing) (e : Error) → IsFirst (refusals s k core.Build) (Some e) → IsWhen s k e
first_when s k e (inl none) = inl (same_error e NoIndex none.1, none.0)
first_when s k e (inr rest) = let is : Some e ≡ None = rest.1 in absurd cc

-- a step of the builder for which there is no place is an attempt
none_left : (s : State) (b : core.BuildReply) → (m : MachineStep) → build_step b ≡ Some m → HasNoPlace s m → NoneLeft s
none_left s (core.Scanned page) m is full = absurd (of_step s m (MachineStep.Take page) is full)
none_left s (core.Placed p) m is full = (of_step s m (MachineStep.Attempt p) is full).1
none_left s (core.Rejected p) m is full = (of_step s m (MachineStep.Attempt p) is full).1
none_left s (core.BuildReply.Marked p n) m is full = absurd (of_step s m (MachineStep.Checkpoint p) is full)
none_left s (core.Done n) m is full = absurd (of_step s m MachineStep.Finish is full)
none_left s core.Idle m is full = absurd cc

last_when : (s : State) (k : Standing) (b : core.BuildReply) (step : Option MachineStep) (e : Error) → step ≡ build_step b
    → IsFirst (refusals_of s k step) (Some e) → IsWhen s k e
last_when s k b None e is first = absurd cc
last_when s k b (Some m) e is (inl full) = inr (inl (same_error e IndexFull full.1, none_left s b m (sym is) full.0))
last_when s k b (Some m) e is (inr (room, inl out)) = inr (inr (inl (same_error e Exhausted out.1, out.0.0)))
last_when s k b (Some m) e is (inr (room, inr rest)) = let is : Some e ≡ None = rest.1 in absurd cc

-- a refusal makes no step
pub record IsRefusedAt (s : State) (k : Standing) (e : Error) (step : Option MachineStep) : Type 0 where
  pub when : IsWhen s k e
  pub no_step : step ≡ None

when_at : (s : State) (k : Standing) (r : core.Reply) (e : Error) (step : Option MachineStep) → r ≡ core.Refused e → IsAllowed s k core.Build r step
    → IsRefusedAt s k e step
when_at s k _ e _ is (unknown none) = absurd none
when_at s k _ e _ is (skipped a p) = absurd cc
when_at s k _ e _ is (refused a p error f) = let same : error ≡ e = cc in record { when = subst (IsWhen s k) same (first_when s k error f); no_step = refl }
when_at s k _ e _ is (refused_last a p f r step due error g) = let same : error ≡ e = cc in
    record { when = subst (IsWhen s k) same (last_when s k due.0 step error due.3 g); no_step = refl }
when_at s k _ e _ is (no_memory a p f r step due g w) = let same : e ≡ NoMemory = cc in record { when = inr (inr (inr same)); no_step = refl }
when_at s k r e step is (accepted a p f _ _ due g) = let other : core.Built due.0 ≡ core.Refused e = sym due.2 ∙ is in absurd cc

-- what can't be any other is one of these
settled : (e : Error) → ((e ≡ NoIndex → ⊥) → (e ≡ IndexFull → ⊥) → (e ≡ Exhausted → ⊥) → (e ≡ NoMemory → ⊥) → ⊥) → IsWhy e
settled NoMemory told = inr (inr (inr refl))
settled DeviceFailed told = absurd (told (λ is. cc) (λ is. cc) (λ is. cc) (λ is. cc))
settled NotFormatted told = absurd (told (λ is. cc) (λ is. cc) (λ is. cc) (λ is. cc))
settled (Damaged sector) told = absurd (told (λ is. cc) (λ is. cc) (λ is. cc) (λ is. cc))
settled DeviceTooSmall told = absurd (told (λ is. cc) (λ is. cc) (λ is. cc) (λ is. cc))
settled BadGeometry told = absurd (told (λ is. cc) (λ is. cc) (λ is. cc) (λ is. cc))
settled TooManyTxns told = absurd (told (λ is. cc) (λ is. cc) (λ is. cc) (λ is. cc))
settled TooManyChanges told = absurd (told (λ is. cc) (λ is. cc) (λ is. cc) (λ is. cc))
settled NoSuchTxn told = absurd (told (λ is. cc) (λ is. cc) (λ is. cc) (λ is. cc))
settled NoSuchRow told = absurd (told (λ is. cc) (λ is. cc) (λ is. cc) (λ is. cc))
settled RowBusy told = absurd (told (λ is. cc) (λ is. cc) (λ is. cc) (λ is. cc))
settled HeapFull told = absurd (told (λ is. cc) (λ is. cc) (λ is. cc) (λ is. cc))
settled IndexFull told = inr (inl refl)
settled KeyTooLong told = absurd (told (λ is. cc) (λ is. cc) (λ is. cc) (λ is. cc))
settled BodyTooLong told = absurd (told (λ is. cc) (λ is. cc) (λ is. cc) (λ is. cc))
settled TxnsActive told = absurd (told (λ is. cc) (λ is. cc) (λ is. cc) (λ is. cc))
settled IndexExists told = absurd (told (λ is. cc) (λ is. cc) (λ is. cc) (λ is. cc))
settled NoIndex told = inl refl
settled NotBuilt told = absurd (told (λ is. cc) (λ is. cc) (λ is. cc) (λ is. cc))
settled Stopped told = absurd (told (λ is. cc) (λ is. cc) (λ is. cc) (λ is. cc))
settled Exhausted told = inr (inr (inl refl))
settled (BadScript line) told = absurd (told (λ is. cc) (λ is. cc) (λ is. cc) (λ is. cc))
settled OldVersion told = absurd (told (λ is. cc) (λ is. cc) (λ is. cc) (λ is. cc))

no_index_at : (s : State) (k : Standing) (e : Error) → IsWhen s k e → e ≡ NoIndex → s.life ≡ Absent
no_index_at s k e (inl none) is = none.1
no_index_at s k e (inr (inl full)) is = let other : NoIndex ≡ IndexFull = sym is ∙ full.0 in absurd cc
no_index_at s k e (inr (inr (inl out))) is = let other : NoIndex ≡ Exhausted = sym is ∙ out.0 in absurd cc
no_index_at s k e (inr (inr (inr memory))) is = let other : NoIndex ≡ NoMemory = sym is ∙ memory in absurd cc

full_at : (s : State) (k : Standing) (e : Error) → IsWhen s k e → e ≡ IndexFull → NoneLeft s
full_at s k e (inl none) is = let other : IndexFull ≡ NoIndex = sym is ∙ none.0 in absurd cc
full_at s k e (inr (inl full)) is = full.1
full_at s k e (inr (inr (inl out))) is = let other : IndexFull ≡ Exhausted = sym is ∙ out.0 in absurd cc
full_at s k e (inr (inr (inr memory))) is = let other : IndexFull ≡ NoMemory = sym is ∙ memory in absurd cc

out_at : (s : State) (k : Standing) (e : Error) → IsWhen s k e → e ≡ Exhausted → LAST_NUMBER ≤ k.made
out_at s k e (inl none) is = let other : Exhausted ≡ NoIndex = sym is ∙ none.0 in absurd cc
out_at s k e (inr (inl full)) is = let other : Exhausted ≡ IndexFull = sym is ∙ full.0 in absurd cc
out_at s k e (inr (inr (inl out))) is = out.1
out_at s k e (inr (inr (inr memory))) is = let other : Exhausted ≡ NoMemory = sym is ∙ memory in absurd cc

-- what is not otherwise is so
absent : (life : Life) → ((life ≡ Absent → ⊥) → ⊥) → life ≡ Absent
absent Absent not = refl
absent (Building highest) not = absurd (not (λ is. cc))
absent Complete not = absurd (not (λ is. cc))

module _ (v w : CoreValue) (e : Error) (safe : ∥ IsSafe v ∥₁) (serves : Serves v core.Build (core.Refused e) w) where
  at : (is : IsSafe v) → (step : Option MachineStep) × IsRefusedAt is.state is.standing e step × (w ≡ v)
  at is =
      let answers = serves is.state is.standing is.is in
      let told : IsRefusedAt is.state is.standing e answers.step = when_at is.state is.standing (core.Refused e) e answers.step refl answers.allowed in
      (answers.step, told, answers.unchanged told.no_step)

  pub refused_why : IsWhy e
  refused_why = settled e (λ none full out memory.
      ∥∥₁_elim safe ⊥_prop (λ is. ⊎_elim (λ x. none x.0) (⊎_elim (λ x. full x.0) (⊎_elim (λ x. out x.0) memory)) (at is).1.when))

  -- there was no index
  pub refused_none : e ≡ NoIndex → v.life ≡ Absent
  refused_none none = absent v.life (λ other. ∥∥₁_elim safe ⊥_prop (λ is.
      other (sym is.is.shown.life ∙ no_index_at is.state is.standing e (at is).1.when none)))

  -- no place was left
  pub refused_full : e ≡ IndexFull → IsIndexFull w
  refused_full full = ∥∥₁_elim safe le_prop (λ is.
      let here = at is in
      let left = full_at is.state is.standing e here.1.when full in
      let shown = is.is.shown in
      subst (λ (x : CoreValue). IsIndexFull x) (sym here.2) (omega (arith, left, shown.places, ap len shown.entries, shown.pledged)))

  -- no number was left
  pub refused_out : e ≡ Exhausted → LAST_NUMBER ≤ w.last
  refused_out out = ∥∥₁_elim safe le_prop (λ is.
      let here = at is in
      subst (λ (x : CoreValue). LAST_NUMBER ≤ x.last) (sym here.2) (omega (arith, out_at is.state is.standing e here.1.when out, is.is.shown.made)))

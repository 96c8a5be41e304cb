-- What is told where nothing was opened.
use Rattle.std.proofs.Common.{◌≡◌, ◌⊎◌, ◌≤◌, ◌∙◌, ℕ, inl, inr, ⊎_elim, ap, subst, sym, refl, arith}
use Rattle.record_values.specs.GeometryValue.{GeometryValue}
use Rattle.record_values.specs.declared.error.Error.{Error}
use Rattle.record_values.specs.declared.error.Error.TheVariants.{TxnsActive}
use Rattle.model.specs.Given.{Given}
use Rattle.core_model.specs.Histories.{CanOpen, Opened}
use Rattle.core_parts.specs.Opening.{opened_of}
use Rattle.nsf_core.specs.Loading.{IsQuiet}
use Rattle.gate_log.specs.Area.{Refuses}
use Rattle.sector_device.specs.Disk.{CrashState}
use Rattle.sector_device.specs.DevicePast.{DevicePast}
use Rattle.store_reader.specs.Contents.{Gives, IsUnreadable}
use Rattle.restart.specs.Parts.{core_of}
use Rattle.restart.specs.Reopening.{IsNotOpened}
use Rattle.restart.specs.declared.parts.EngineParts.{EngineParts}
use Rattle.threads_lifetime.specs.Openings.{IsNotOpenedFrom, IsNotShared, IsOpenedFrom, IsOpenedOver, Opens, StoreValue, WasHindered, WasUnread}
use Rattle.threads_lifetime.specs.declared.refusal.OpenError.{OpenError}
use Rattle.threads_lifetime.specs.declared.refusal.OpenError.TheVariants.{NoThread, Refused, Unsound}
use Rattle.threads_lifetime.proofs.Again.{AnswersOne, sound_opening}

-- an image that gives something is not refused, and one is refused in one way
abbrev pub RefusesOne : Type 0
RefusesOne = ((image : CrashState) (g : GeometryValue) (given : Given) (e : Error) → Gives image g given → ¬ IsUnreadable image e)
    × ((image : CrashState) (d e : Error) → IsUnreadable image d → IsUnreadable image e → d ≡ e)

-- ---- of a device

module _ (one : AnswersOne) {D : Type 0} (past_of : D → DevicePast) (failures : D → ℕ) (before : D) (o : Opened)
    (opens : Opens (past_of before).disk.content o) where
  -- a store opens with one thing
  same_sound : (p : Opened) → Opens (past_of before).disk.content p → CanOpen p → CanOpen o
  same_sound p opens-p can = sound_opening one (past_of before).disk.content o opens (record { opened = p; opens = opens-p; sound = can })

  pub opened_sound : (count : ℕ) (s : StoreValue D) → IsOpenedOver past_of failures before count s → CanOpen o
  opened_sound count s is = same_sound s.site.opened is.opened is.sound

module _ (one : AnswersOne) (no : RefusesOne) {D : Type 0} (past_of : D → DevicePast) (failures : D → ℕ) (before after : D)
    (count : ℕ) (few : count ≤ 16) where
  hindered : (e : Error) → Refuses (failures before) (failures after) e → WasHindered (Refused e)
  hindered e (inl none) = inl none
  hindered e (inr failed) = inr failed.0

  -- where a restart was refused so, nothing was written
  unread : (e : Error) → IsNotOpened past_of failures before after e → Refuses (failures before) (failures after) e → WasUnread past_of before after (Refused e)
  unread e not (inl none) = inl (none, not.unwritten (λ failed. let both = sym none ∙ failed in cc))
  unread e not (inr failed) = inr failed.0

  -- a store that opens is refused by no reader
  unopened : (o : Opened) → Opens (past_of before).disk.content o → (e : Error) → IsNotOpened past_of failures before after e
      → Refuses (failures before) (failures after) e
  unopened o opens e not =
      ⊎_elim (λ refuses. refuses) (λ bad. absurd (no.0 (past_of before).disk.content opens.geometry opens.given e opens.gives bad)) not.why

  pub sound_store : (o : Opened) (e : OpenError) → Opens (past_of before).disk.content o → CanOpen o
      → IsNotShared past_of failures before count after e → WasHindered e
  sound_store o (Refused e) opens can (inl not) = hindered e (unopened o opens e not)
  sound_store o (Refused e) opens can (inr (inl lacks)) = inl lacks.0
  sound_store o (Refused e) opens can (inr (inr many)) = absurd (omega (arith, few, many.1))
  sound_store o Unsound opens can told = told.unsound (same_sound one past_of failures before told.opened told.opens o opens can)
  sound_store o NoThread opens can told = absurd told

  pub unsound_store : (o : Opened) (e : OpenError) → Opens (past_of before).disk.content o → ¬ CanOpen o
      → IsNotShared past_of failures before count after e → (e ≡ Unsound) ⊎ WasUnread past_of before after e
  unsound_store o (Refused e) opens cannot (inl not) = inr (unread e not (unopened o opens e not))
  unsound_store o (Refused e) opens cannot (inr (inl lacks)) =
      absurd (cannot (same_sound one past_of failures before o opens lacks.1.opened lacks.1.opens lacks.1.sound))
  unsound_store o (Refused e) opens cannot (inr (inr many)) = absurd (omega (arith, few, many.1))
  unsound_store o Unsound opens cannot told = inl refl
  unsound_store o NoThread opens cannot told = absurd told

  pub unreadable_store : (error : Error) (e : OpenError) → IsUnreadable (past_of before).disk.content error
      → IsNotShared past_of failures before count after e → (e ≡ Refused error) ⊎ WasUnread past_of before after e
  unreadable_store error (Refused e) bad (inl not) =
      ⊎_elim (λ refuses. inr (unread e not refuses)) (λ other. inl (ap Refused (no.1 (past_of before).disk.content e error other bad))) not.why
  unreadable_store error (Refused e) bad (inr (inl lacks)) =
      absurd (no.0 (past_of before).disk.content lacks.1.opens.geometry lacks.1.opens.given error lacks.1.opens.gives bad)
  unreadable_store error (Refused e) bad (inr (inr many)) = absurd (omega (arith, few, many.1))
  unreadable_store error Unsound bad told =
      absurd (no.0 (past_of before).disk.content told.opens.geometry told.opens.given error told.opens.gives bad)
  unreadable_store error NoThread bad told = absurd told

-- ---- of an engine

module _ {D A : Type 0} (past_of : D → DevicePast) (failures : D → ℕ) where
  pub opened_engine : (engine : EngineParts D A) (count : ℕ) (s : StoreValue D) → IsOpenedFrom past_of failures engine count s
      → IsQuiet (core_of engine) × CanOpen (opened_of (core_of engine))
  opened_engine engine count s is = (is.quiet, subst CanOpen is.opened is.sound)

module _ {D A : Type 0} (past_of : D → DevicePast) (failures : D → ℕ) (old new : EngineParts D A) (count : ℕ) (few : count ≤ 16) where
  pub busy_engine : (e : OpenError) → ¬ IsQuiet (core_of old) → IsNotOpenedFrom past_of failures old count new e → (e ≡ Refused TxnsActive) × (new ≡ old)
  busy_engine (Refused e) busy (inl (inl active)) = (ap Refused active.0, active.2)
  busy_engine (Refused e) busy (inl (inr quiet)) = absurd (busy quiet.0)
  busy_engine (Refused e) busy (inr many) = absurd (omega (arith, few, many.1))
  busy_engine Unsound busy told = absurd (busy told.0)
  busy_engine NoThread busy told = absurd told

  pub unsound_engine : (e : OpenError) → IsQuiet (core_of old) → ¬ CanOpen (opened_of (core_of old)) → IsNotOpenedFrom past_of failures old count new e
      → (e ≡ Unsound) × (new ≡ old)
  unsound_engine (Refused e) quiet cannot (inl (inl active)) = absurd (active.1 quiet)
  unsound_engine (Refused e) quiet cannot (inl (inr sound)) = absurd (cannot sound.1)
  unsound_engine (Refused e) quiet cannot (inr many) = absurd (omega (arith, few, many.1))
  unsound_engine Unsound quiet cannot told = (refl, told.2)
  unsound_engine NoThread quiet cannot told = absurd told

  pub sound_engine : (e : OpenError) → IsQuiet (core_of old) → CanOpen (opened_of (core_of old)) → IsNotOpenedFrom past_of failures old count new e
      → WasHindered e
  sound_engine (Refused e) quiet can (inl (inl active)) = absurd (active.1 quiet)
  sound_engine (Refused e) quiet can (inl (inr sound)) =
      ⊎_elim (λ none. inl none.0) (λ written. ⊎_elim (λ none. inl none.0) (λ failed. inr failed.0) written.answer) sound.2
  sound_engine (Refused e) quiet can (inr many) = absurd (omega (arith, few, many.1))
  sound_engine Unsound quiet can told = told.1 can
  sound_engine NoThread quiet can told = absurd told

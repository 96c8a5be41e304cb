-- Only the logs are written.
use Rattle.std.proofs.Common.{◌≡◌, ◌≢◌, ⊎_elim, inl, inr, ℕ, List, [], ◌∷◌, ◌++◌, None, Option, Some, refl, subst, sym}
use Rattle.core_model.specs.Events as core
use Rattle.sector_device.specs.DevicePast.{DevicePast}
use Rattle.gate_log.specs.Area.{InSlot, Log}
use Rattle.store_writer.proofs.Alone.{alone_wider, none_alone}
use Rattle.store_writer.proofs.Around.{none_written}
use Rattle.store_writer.specs.Image.{InNewSlot}
use Rattle.store_writer.specs.Writer.{InOpenedSlots, WritesOnly}
use Rattle.store_writer.specs.declared.image.NewImage.{NewImage}
use Rattle.store_writer.specs.declared.writer.Writer.{Writer}
use Rattle.store_writer.specs.Parts as writer
use Rattle.restart.specs.declared.event.Event.{Event}
use Rattle.restart.specs.declared.event.Event.TheVariants as requests
use Rattle.restart.specs.declared.event.Reply.{Reply}
use Rattle.restart.specs.declared.parts.EngineParts.{EngineParts}
use Rattle.restart.specs.Handing.{HandsOver}
use Rattle.restart.specs.History.{asked}
use Rattle.restart.specs.Lawful.{IsInCore, IsInCoreBy}
use Rattle.restart.specs.Parts.{device_of, writer_of}
use Rattle.restart.specs.Store.{CopiesAround, HaveNoCopy, KeepsAround, KeepsSectors, OpensSlotsAlone}

-- the last of some requests is no copy, nor is one before it
pub no_copy_last : (events : List Event) (event : Event) → HaveNoCopy (events ++ event ∷ []) → HaveNoCopy events × (event ≢ requests.Copy)
no_copy_last [] event none = (tt, none.0)
no_copy_last (e ∷ events) event none = let rest = no_copy_last events event none.1 in ((none.0, rest.0), rest.1)

module _ {D M : Type 0} (past_of : D → DevicePast) (old new : EngineParts D M) where
  pub around_none : KeepsAround past_of old old
  around_none = none_written past_of (writer_of old) (writer_of old) refl refl refl refl

  -- the writer took records
  pub around_hand_over : HandsOver past_of old new → KeepsAround past_of old new
  around_hand_over over = none_written past_of (writer_of old) (writer_of new) over.device over.halves over.log over.image

  -- the core alone changed
  around_core : (o : Option core.Event) (reply : Reply M) → IsInCoreBy o reply old new → KeepsAround past_of old new
  around_core None reply given = absurd given
  around_core (Some e) reply given = subst (λ (p : EngineParts D M). KeepsAround past_of old p) (sym given.rest) around_none

  pub around_in_core : (x : Event) (reply : Reply M) → IsInCore x reply old new → KeepsAround past_of old new
  around_in_core x reply given = around_core (asked x) reply given

-- what the core is asked is no flush
pub asks_core : {D M : Type 0} (past_of : D → DevicePast) (x : Event) (reply : Reply M) (old new : EngineParts D M) → IsInCore x reply old new
    → x ≡ requests.Flush
    → ⊥
asks_core past_of x reply old new given flush = subst (λ (e : Event). IsInCore e reply old new) flush given

-- ---- the slots that a flush opens

module _ {D M : Type 0} (past_of : D → DevicePast) (old : EngineParts D M) where
  pub slots_none : OpensSlotsAlone past_of old old
  slots_none = none_alone past_of (InOpenedSlots (writer_of old)) (device_of old)

  -- the writer took records first
  module _ (mid : EngineParts D M) (over : HandsOver past_of old mid) where
    pub slots_over : OpensSlotsAlone past_of old mid
    slots_over = subst (λ d. WritesOnly past_of (InOpenedSlots (writer_of old)) (device_of old) d) (sym over.device) slots_none

    same_slots : (n : ℕ) → InOpenedSlots (writer_of mid) n → InOpenedSlots (writer_of old) n
    same_slots n = ⊎_elim
        (λ here. inl (subst (λ (l : Log). InSlot l.area l.open_slots n) over.log here))
        (λ there. inr (subst (λ (i : Option NewImage). InNewSlot i n) over.image there))

    pub slots_then : (w : Writer D M) → WritesOnly past_of (InOpenedSlots (writer_of mid)) (device_of mid) (writer.device_of w)
        → WritesOnly past_of (InOpenedSlots (writer_of old)) (device_of old) (writer.device_of w)
    slots_then w wrote = subst (λ d. WritesOnly past_of (InOpenedSlots (writer_of old)) d (writer.device_of w)) over.device
        (alone_wider past_of (InOpenedSlots (writer_of mid)) (InOpenedSlots (writer_of old)) same_slots (device_of mid) (writer.device_of w) wrote)

-- ---- how many sectors there are

-- a request leaves their number, since each call that writes leaves it
pub keeps_sectors : {D M : Type 0} (past_of : D → DevicePast) (event : Event) (old new : EngineParts D M)
    → (event ≢ requests.Copy → KeepsAround past_of old new)
    → (event ≡ requests.Copy → CopiesAround past_of old new) → KeepsSectors past_of old new
keeps_sectors past_of requests.Begin old new around copied = (around (λ e. cc)).now.sectors
keeps_sectors past_of (requests.Insert txn key body) old new around copied = (around (λ e. cc)).now.sectors
keeps_sectors past_of (requests.Delete txn rid) old new around copied = (around (λ e. cc)).now.sectors
keeps_sectors past_of (requests.Update txn rid key body) old new around copied = (around (λ e. cc)).now.sectors
keeps_sectors past_of (requests.Step txn) old new around copied = (around (λ e. cc)).now.sectors
keeps_sectors past_of (requests.Undo txn) old new around copied = (around (λ e. cc)).now.sectors
keeps_sectors past_of (requests.End txn) old new around copied = (around (λ e. cc)).now.sectors
keeps_sectors past_of (requests.Commit txn) old new around copied = (around (λ e. cc)).now.sectors
keeps_sectors past_of requests.Create old new around copied = (around (λ e. cc)).now.sectors
keeps_sectors past_of requests.Drop old new around copied = (around (λ e. cc)).now.sectors
keeps_sectors past_of requests.Build old new around copied = (around (λ e. cc)).now.sectors
keeps_sectors past_of requests.Clean old new around copied = (around (λ e. cc)).now.sectors
keeps_sectors past_of requests.Flush old new around copied = (around (λ e. cc)).now.sectors
keeps_sectors past_of requests.Copy old new around copied = (copied refl).now.sectors
keeps_sectors past_of (requests.Get rid) old new around copied = (around (λ e. cc)).now.sectors
keeps_sectors past_of (requests.Find key) old new around copied = (around (λ e. cc)).now.sectors
keeps_sectors past_of requests.Life old new around copied = (around (λ e. cc)).now.sectors

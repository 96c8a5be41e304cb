-- What a crash leaves of a store while it is opened may be opened again.
use Rattle.std.proofs.Common.{refl, sym, subst, ⊎_elim}
use Rattle.sector_device.specs.Disk.{Disk, CrashState, IsSynced}
use Rattle.sector_device.specs.DevicePast.{DevicePast, LeavesOnly}
use Rattle.sector_device.proofs.Moments.{at_end, weaker}
use Rattle.sector_device.proofs.Sectors.{content_is_image, crash_synced}
use Rattle.restart.specs.Writing.{ReopeningLeaves, IsWrittenBack}
use Rattle.restart.specs.Reopening.{IsTurned}
use Rattle.restart.specs.Store.{over}
use Rattle.threads_lifetime.specs.Openings.{IsOpenable, StaysOpenable}
use Rattle.threads_lifetime.proofs.Again.{AnswersOne, gives_soundly, sound_whole}

-- no sector is unsynced
pub synced_stays : (disk : Disk) → IsSynced disk → IsOpenable disk.content → StaysOpenable disk
synced_stays disk all opens image crash = subst IsOpenable (sym (crash_synced disk image all crash)) opens

module _ (one : AnswersOne) where
  -- what is written back opens with what it opened with
  written_openable : (before image : CrashState) → IsWrittenBack before image → IsOpenable before → IsOpenable image
  written_openable before image back openable =
      ∣ gives_soundly image back.geometry back.given back.gives
      (sound_whole one before (over back.geometry back.given) openable
      (record { geometry = back.geometry; given = back.given; gives = back.gave; opened = refl })) ∣₁

  module _ {D : Type 0} (past_of : D → DevicePast) (before after : D) (turned : IsTurned past_of before after) where
    pub openable_back : IsOpenable (past_of before).disk.content → IsOpenable (past_of after).disk.content
    openable_back opens = ⊎_elim
        (λ same. subst IsOpenable (sym same) opens)
        (λ back. written_openable (past_of before).disk.content (past_of after).disk.content back opens)
        turned.now

    module _ (stays : StaysOpenable (past_of before).disk) where
      at_first : IsOpenable (past_of before).disk.content
      at_first = stays (past_of before).disk.content (content_is_image (past_of before).disk (past_of before).whole)

      each_left : (image : CrashState) → ReopeningLeaves (past_of before).disk image → IsOpenable image
      each_left image = ⊎_elim (λ crash. stays image crash) (λ back. written_openable (past_of before).disk.content image back at_first)

      pub openable_between : LeavesOnly (past_of before) (past_of after) IsOpenable
      openable_between = weaker (past_of before) (past_of after) (ReopeningLeaves (past_of before).disk) IsOpenable each_left turned.images

      pub openable_behind : StaysOpenable (past_of after).disk
      openable_behind = at_end (past_of before) (past_of after) IsOpenable openable_between

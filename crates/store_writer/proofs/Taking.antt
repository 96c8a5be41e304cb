-- What an image that is written into the half that isn't current leaves of the current one.
use Rattle.std.proofs.Common.{◌≡◌, ℕ, ◌≤◌, true, false, [], length, IfSome, None, sym, ap, subst, ◌∙◌, arith}
use Rattle.sector_device.specs.Disk.{CrashState, sector, SameOutside}
use Rattle.sector_device.specs.DevicePast.{DevicePast, LeavesOnly}
use Rattle.sector_device.proofs.Moments.{weaker}
use Rattle.record_values.specs.GeometryValue.{GeometryValue, sectors_of}
use Rattle.model.specs.Cells.{Cells}
use Rattle.gate_log.specs.Area.{Area, Log, InArea, Stands}
use Rattle.gate_log.proofs.Readings.{told_by_its_sectors}
use Rattle.flip_image.specs.declared.half.Half.{Half}
use Rattle.flip_image.specs.Layout.{HalvesValue, other, InHalf, InHalfImage}
use Rattle.flip_image.specs.Store.{IsStore, HoldsImage, Names}
use Rattle.flip_image.proofs.Sides.{other_apart, log_inside}
use Rattle.store_image_model.specs.Run.{Run, IsCopiedFrom, end_of, cells_at}
use Rattle.store_image_model.proofs.Runs.{copy_of_run}
use Rattle.store_reader.specs.Contents.{log_area}
use Rattle.store_writer.specs.declared.writer.Writer.{Writer}
use Rattle.store_writer.specs.declared.image.NewImage.{NewImage}
use Rattle.store_writer.specs.Contents.{HalfHas, LeftBy}
use Rattle.store_writer.specs.declared.image.Stage.TheVariants.{Whole}
use Rattle.store_writer.specs.Copying.{IsCopying}
use Rattle.store_writer.specs.Image.{IsContent, IsUnderway, reach}
use Rattle.store_writer.specs.Known.{KnowsPages}
use Rattle.store_writer.specs.Parts.{handed_of}
use Rattle.store_writer.specs.Writer.{StandsFor, IsWriter}
use Rattle.store_writer.proofs.Knowing.{known_idle, pages_beside}
use Rattle.store_writer.proofs.Numbers.{none_between}
use Rattle.store_writer.proofs.Left.{left_by}
use Rattle.store_writer.proofs.Halves.{SameIn, in_from_outside, half_apart, store_apart}

-- an image of one moment, whose log is empty
pub whole_taken : (run : Run) (half : Half) (image : CrashState) (synced : ℕ) (new : NewImage) (copied : Cells) → run.last ≤ synced → synced ≤ new.base
    → new.number ≡ new.base → new.stage ≡ Whole → new.number ≤ end_of run
    → copied ≡ cells_at run new.base → HoldsImage run.geometry half image new.base copied → new.log.area ≡ log_area run.geometry half → Stands new.log image []
    → IsUnderway run half image synced new
whole_taken run half image synced new copied opened late one whole made is holds area stands = record {
  low = omega (arith, opened, late);
  rise = omega (arith, one);
  made = made;
  content = subst (IsContent run half image new.base new.number) (sym whole) (record {
    copied = copied;
    imaged = holds;
    copies = subst (λ n. IsCopiedFrom run new.base n copied) (sym one) (subst (IsCopiedFrom run new.base new.base) (sym is) (copy_of_run run new.base));
  });
  area-is = area;
  groups = [];
  stands = stands;
  carried = sym (none_between run new.base (reach new synced) (omega (arith, late)));
  half-open = omega (arith, stands.counted);
}

module _ {D M : Type 0} (past_of : D → DevicePast) (run : Run) (handed : ℕ) (old : Writer D M) (is : IsWriter past_of run handed old)
    (sound : old.failed ≡ false) where
  abbrev content : CrashState
  content = (past_of old.device).disk.content

  abbrev g : GeometryValue
  g = run.geometry

  abbrev half : Half
  half = old.halves.current

  pub stand : StandsFor past_of run old
  stand = is.holds sound

  -- a step of an image may write there
  pub may_write : (sectors_of old.halves.geometry ≤ length content) × Names (sector content 1) half
      × ((n : ℕ) → (past_of old.device).disk.unsynced n ≡ true → InHalfImage old.halves.geometry (other half) n)
  may_write = subst (λ (x : GeometryValue). (sectors_of x ≤ length content) × Names (sector content 1) half
      × ((n : ℕ) → (past_of old.device).disk.unsynced n ≡ true → InHalfImage x (other half) n)) (sym is.geometry-is)
      (stand.store.room, stand.store.current, stand.loose)

  -- what is written into the other half changes nothing that the device gives
  module _ (c : CrashState) (same : SameOutside (InHalf g (other half)) content c) where
    store_kept : IsStore g half c
    store_kept = store_apart g half (other half) content c same stand.store

    half_kept : SameIn (InHalf g half) content c
    half_kept = in_from_outside (InHalf g half) _ content c (other_apart g half) same

    has_kept : HalfHas g half c old.synced (cells_at run old.synced)
    has_kept = half_apart g half content c half_kept old.synced (cells_at run old.synced) stand.has

    pub left_kept : LeftBy run old.synced handed c
    left_kept = left_by run old.synced handed old.synced c (omega arith) is.reached (record { half = half; store = store_kept; has = has_kept })

    stands_kept : Stands old.log c stand.groups
    stands_kept = record {
      held = told_by_its_sectors old.log.area content c stand.groups half_kept.sectors (λ n inside.
          half_kept.same n (log_inside g half n (subst (λ (a : Area). InArea a n) stand.area-is inside))) stand.stands.held;
      counted = stand.stands.counted;
    }

  pub leaves_kept : (new : DevicePast) → LeavesOnly (past_of old.device) new (SameOutside (InHalf g (other half)) content)
      → LeavesOnly (past_of old.device) new (LeftBy run old.synced handed)
  leaves_kept new run_ = weaker (past_of old.device) new (SameOutside (InHalf g (other half)) content) (LeftBy run old.synced handed) left_kept run_

  -- the writer stands as before, with this image
  pub stands_with : (new : Writer D M) → new.halves ≡ old.halves → new.log ≡ old.log → new.synced ≡ old.synced
      → SameOutside (InHalf g (other half)) content (past_of new.device).disk.content
      → ((n : ℕ) → (past_of new.device).disk.unsynced n ≡ true → InHalfImage g (other half) n)
      → IfSome new.image (IsUnderway run (other half) (past_of new.device).disk.content old.synced)
      → IsCopying run.geometry.pages new.copying new.image
      → KnowsPages run new.halves.current (past_of new.device).disk.content (handed_of new) new.known.changed.items new.known.current new.known.other
      → StandsFor past_of run new
  stands_with new halves_is log_is synced_is same loose image copying known =
      let c = (past_of new.device).disk.content in
      record {
        store = subst (λ (h : HalvesValue). IsStore g h.current c) (sym halves_is) (store_kept c same);
        has = subst (λ n. HalfHas g new.halves.current c n (cells_at run n)) (sym synced_is)
            (subst (λ (h : HalvesValue). HalfHas g h.current c old.synced (cells_at run old.synced)) (sym halves_is) (has_kept c same));
        area-is = ap (λ (l : Log). l.area) log_is ∙ stand.area-is ∙ ap (λ (h : HalvesValue). log_area g h.current) (sym halves_is);
        groups = stand.groups;
        stands = subst (λ (l : Log). Stands l c stand.groups) (sym log_is) (stands_kept c same);
        loose = λ n unsynced. subst (λ (h : HalvesValue). InHalfImage g (other h.current) n) (sym halves_is) (loose n unsynced);
        image = subst (λ n. IfSome new.image (IsUnderway run (other new.halves.current) c n)) (sym synced_is)
            (subst (λ (h : HalvesValue). IfSome new.image (IsUnderway run (other h.current) c old.synced)) (sym halves_is) image);
        copying = copying;
        known = known;
      }

  -- nothing is known of the other half any more
  pub known_dropped : (c : CrashState) → SameOutside (InHalf g (other half)) content c
      → KnowsPages run half c (handed_of old) old.known.changed.items old.known.current None
  known_dropped c same = known_idle run half content c (handed_of old) old.known.changed.items old.known.current old.known.other None
      (pages_beside g half content c same) tt stand.known

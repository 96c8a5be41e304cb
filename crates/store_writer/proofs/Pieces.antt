-- The piece of an image that is due, as the last record made left its cells.
use Rattle.std.proofs.Common.{◌≡◌, ⊎_elim, ℕ, ◌≤◌, false, List, Option, Some, None, IfSome, subst, arith}
use Rattle.sector_device.specs.DevicePast.{DevicePast}
use Rattle.record_values.specs.declared.number.TheConstants.{LAST_NUMBER}
use Rattle.record_values.specs.declared.pair.Pair.{Pair}
use Rattle.record_values.specs.declared.pair.Mark.{Mark}
use Rattle.model.specs.Table.{Table}
use Rattle.flip_image.specs.Layout.{other}
use Rattle.store_image_model.specs.Run.{Run, end_of}
use Rattle.store_image_model.specs.declared.chunk.CopyPlace.{CopyPlace}
use Rattle.store_image_model.specs.declared.chunk.CopyPlace.TheVariants as at
use Rattle.store_writer.specs.Copying.{IsCopying, next_place}
use Rattle.store_writer.specs.declared.copying.Copying.{Copying}
use Rattle.store_writer.specs.declared.copying.Copying.TheVariants.{Idle, Steps, GivenUp}
use Rattle.store_writer.specs.declared.writer.Writer.{Writer}
use Rattle.store_writer.specs.declared.image.NewImage.{NewImage}
use Rattle.store_writer.specs.declared.image.Stage.TheVariants as stage
use Rattle.store_writer.specs.Image.{IsUnderway}
use Rattle.store_writer.specs.Places.{IsAtPlace, AreRowsNow, AreEntriesNow}
use Rattle.store_writer.specs.Writer.{IsWriter, IsPageChunk, IsEntriesChunk}
use Rattle.store_writer.proofs.Writing.{stood}

module _ {D M : Type 0} (past_of : D → DevicePast) (run : Run) (handed : ℕ) (w : Writer D M) (is : IsWriter past_of run handed w) (sound : w.failed ≡ false)
    (small : end_of run ≤ LAST_NUMBER) where
  -- the image's last step was made
  later : (i : NewImage) → w.image ≡ Some i → i.number ≤ end_of run
  later i there =
      let under : IsUnderway run (other w.halves.current) (past_of w.device).disk.content w.synced i =
      subst (λ (t : Option NewImage). IfSome t (IsUnderway run (other w.halves.current) (past_of w.device).disk.content w.synced)) there
      (stood past_of run handed w is sound).image in
      under.made

  -- where the copying goes on the image is
  here : (place : CopyPlace) → next_place w.copying ≡ Some place → (i : NewImage) → w.image ≡ Some i → IsAtPlace run.geometry.pages (Some place) w.image
  here place next i there = by w.copying next (stood past_of run handed w is sound).copying
    where
      by : (c : Copying) → next_place c ≡ Some place → IsCopying run.geometry.pages c w.image → IsAtPlace run.geometry.pages (Some place) w.image
      by Idle next none = absurd (cc (none, there))
      by (Steps p) next either = ⊎_elim
          (λ none. absurd (cc (none, there)))
          (λ at. subst (λ (q : Option CopyPlace). IsAtPlace run.geometry.pages q w.image) next at)
          either
      by GivenUp next none = absurd (cc (none, there))

  pub next_page : (page : ℕ) (rows : Table) → next_place w.copying ≡ Some (at.Page page) → AreRowsNow run page rows → (i : NewImage)
      → w.image ≡ Some i → IsPageChunk run i (end_of run) page rows
  next_page page rows next now i there =
      let (below, (j, life, came, from)) = here (at.Page page) next i there in
      record {
        next = (0, None, life, (let e : i.stage ≡ stage.Partly page 0 None life = cc (there, came, from) in e));
        below = below;
        later = later i there;
        made = omega arith;
        small = small;
        rows-are = now.rows-are;
        slots = now.slots;
      }

  pub next_entries : (above : Option Pair) (entries : List (Pair × Mark)) → next_place w.copying ≡ Some (at.Entries above)
      → AreEntriesNow run above entries → (i : NewImage) → w.image ≡ Some i → IsEntriesChunk run i (end_of run) entries
  next_entries above entries next now i there =
      let (j, count, life, came, from) = here (at.Entries above) next i there in
      record {
        more = now.more;
        count = count;
        above = above;
        life = life;
        next = (let e : i.stage ≡ stage.Partly run.geometry.pages count above life = cc (there, came, from) in e);
        later = later i there;
        made = omega arith;
        small = small;
        listed = now.listed;
        most = now.most;
        full = now.full;
        rest = now.rest;
        inside = now.inside;
      }

use Rattle.std.proofs.Common.{true, ◌≡◌, inr, ℕ, Some, None, refl, sym, subst, ◌∙◌}
use Rattle.std.proofs.lemmas.Bool.{false≢true}
use Rattle.sector_device.specs.Disk.{SameOutside}
use Rattle.sector_device.specs.DevicePast.{LeavesOnly}
use Rattle.record_values.specs.GeometryValue.{GeometryValue}
use Rattle.model.specs.Redo.{cells_of}
use Rattle.flip_image.specs.Layout.{other, InHalf, InHalfImage}
use Rattle.flip_image.specs.Store.{HoldsImage}
use Rattle.store_reader.specs.Contents.{log_area}
use Rattle.store_image_half.specs.Source.{FitsImage}
use Rattle.store_image_model.specs.Run.{Run}
use Rattle.store_writer.specs.Contents.{LeftBy}
use Rattle.store_writer.specs.Writer.{IsWriter}
use Rattle.store_writer.specs.declared.copying.Copying.TheVariants.{Steps}
use Rattle.store_writer.specs.declared.writer.Writer.{Writer}
use Rattle.store_writer.specs.declared.image.NewImage.{NewImage}
use Rattle.store_writer.specs.declared.image.Stage.TheVariants.{Whole}
use Rattle.store_writer.proofs.Writing.{carried_on}
use Rattle.store_writer.proofs.Taking.{known_dropped, whole_taken, leaves_kept, may_write, stands_with}
use Rattle.store_writer.proofs.Alone.{these_alone}
use Rattle.store_writer.proofs.writer.Writer.take_whole.Goals as goal

pub write_whole-requires : goal.write_whole-requires
write_whole-requires g c =
    let (run, handed, is, whole) = c.requires.whole in
    let (room, current, loose) = may_write g.D.Device.past_of run handed c.args.self.now is c.requires.sound in
    record {
      room = room;
      current = current;
      number = whole.small;
      fits = subst (λ (x : GeometryValue). FitsImage x (cells_of c.args.cells.now)) (sym is.geometry-is) whole.fits;
      loose = loose;
    }

pub returns-in-Ok : goal.returns-in-Ok
returns-in-Ok g c =
    let images : (run : Run) (handed : ℕ) → IsWriter g.D.Device.past_of run handed c.args.self.now
    → LeavesOnly (g.D.Device.past_of c.args.self.now.device) (g.D.Device.past_of c.write_whole.new.device)
    (LeftBy run c.args.self.now.synced handed) = λ run handed is.
    let past_of = g.D.Device.past_of in
    let old = c.args.self.now in
    leaves_kept past_of run handed old is c.requires.sound (past_of c.write_whole.new.device)
    (subst (λ (x : GeometryValue). LeavesOnly (past_of old.device) (past_of c.write_whole.new.device)
    (SameOutside (InHalf x (other old.halves.current)) (past_of old.device).disk.content)) is.geometry-is c.write_whole.ensures.any_moment) in
    record {
      writer = λ run handed is whole.
          let past_of = g.D.Device.past_of in
          let old = c.args.self.now in
          let half = other old.halves.current in
          let cells = cells_of c.args.cells.now in
          let now = (past_of c.write_whole.new.device).disk in
          let image : NewImage = record { base = c.args.number; number = c.args.number; stage = Whole; log = c.in-Ok.log } in
          let new : Writer g.row.D.Denot g.row.A.Denot = record {
            device = c.write_whole.new.device;
            halves = old.halves;
            log = old.log;
            waiting = old.waiting;
            synced = old.synced;
            image = Some image;
            copying = Steps None;
            known = record old.known { other = None };
            failed = old.failed;
          } in
          let holds : HoldsImage run.geometry half now.content c.args.number cells =
          subst (λ (x : GeometryValue). HoldsImage x half now.content c.args.number cells) is.geometry-is c.in-Ok.ensures.written in
          let area : image.log.area ≡ log_area run.geometry half =
          subst (λ (x : GeometryValue). image.log.area ≡ log_area x half) is.geometry-is c.in-Ok.ensures.area in
          carried_on past_of run handed old new is refl refl refl
          (λ sound. stands_with past_of run handed old is c.requires.sound new refl refl refl
          (subst (λ (x : GeometryValue). SameOutside (InHalf x half) (past_of old.device).disk.content now.content) is.geometry-is
          c.write_whole.ensures.outside)
          (subst (λ (x : GeometryValue). (n : ℕ) → now.unsynced n ≡ true → InHalfImage x half n) is.geometry-is c.in-Ok.ensures.loose)
          (whole_taken run half now.content old.synced image cells is.opened whole.late refl refl whole.made whole.cells-are holds area c.in-Ok.ensures.empty)
          (inr (image, refl, refl))
          (known_dropped past_of run handed old is c.requires.sound now.content
          (subst (λ (x : GeometryValue). SameOutside (InHalf x half) (past_of old.device).disk.content now.content) is.geometry-is
          c.write_whole.ensures.outside)))
          (images run handed is);
      images = images;
      taken =
          let image : NewImage = record { base = c.args.number; number = c.args.number; stage = Whole; log = c.in-Ok.log } in
          (image, (refl, refl, refl, refl, refl, refl), (refl, refl, refl, c.in-Ok.ensures.empty.counted), refl);
      synced = refl;
      err = tt;
      quiet = c.in-Ok.ensures.counts.none;
      later = c.write_whole.ensures.counts.later;
      around = these_alone g.D.Device.past_of (InHalf c.args.self.now.halves.geometry (other c.args.self.now.halves.current)) c.args.self.now.device
          c.write_whole.new.device c.write_whole.ensures.outside c.write_whole.ensures.any_moment;
      left = tt;
      knows = (refl, refl);
    }

pub returns-in-Err : goal.returns-in-Err
returns-in-Err g c =
    let images : (run : Run) (handed : ℕ) → IsWriter g.D.Device.past_of run handed c.args.self.now
    → LeavesOnly (g.D.Device.past_of c.args.self.now.device) (g.D.Device.past_of c.write_whole.new.device)
    (LeftBy run c.args.self.now.synced handed) = λ run handed is.
    let past_of = g.D.Device.past_of in
    let old = c.args.self.now in
    leaves_kept past_of run handed old is c.requires.sound (past_of c.write_whole.new.device)
    (subst (λ (x : GeometryValue). LeavesOnly (past_of old.device) (past_of c.write_whole.new.device)
    (SameOutside (InHalf x (other old.halves.current)) (past_of old.device).disk.content)) is.geometry-is c.write_whole.ensures.any_moment) in
    record {
      writer = λ run handed is whole.
          let old = c.args.self.now in
          let new : Writer g.row.D.Denot g.row.A.Denot = record {
            device = c.write_whole.new.device;
            halves = old.halves;
            log = old.log;
            waiting = old.waiting;
            synced = old.synced;
            image = old.image;
            copying = old.copying;
            known = old.known;
            failed = true;
          } in
          carried_on g.D.Device.past_of run handed old new is refl refl refl (λ sound. absurd (false≢true (sym sound)))
          (images run handed is);
      images = images;
      taken = tt;
      synced = refl;
      err = (refl, refl, (λ _. c.in-Err.ensures.counts.failed), λ was. absurd (false≢true (sym c.requires.sound ∙ was)));
      quiet = tt;
      later = c.write_whole.ensures.counts.later;
      around = these_alone g.D.Device.past_of (InHalf c.args.self.now.halves.geometry (other c.args.self.now.halves.current)) c.args.self.now.device
          c.write_whole.new.device c.write_whole.ensures.outside c.write_whole.ensures.any_moment;
      left = refl;
      knows = tt;
    }

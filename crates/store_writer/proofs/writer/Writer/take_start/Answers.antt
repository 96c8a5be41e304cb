use Rattle.std.specs.Prelude.{replicate}
use Rattle.std.proofs.Common.{true, ◌≡◌, ◌⊎◌, ⊎_elim, inl, inr, ℕ, Some, None, refl, sym, ap, subst, ◌∙◌, arith}
use Rattle.std.proofs.lemmas.Bool.{false≢true}
use Rattle.std.specs.FinMap as map
use Rattle.sector_device.specs.Disk.{SameOutside}
use Rattle.sector_device.specs.DevicePast.{LeavesOnly}
use Rattle.record_values.specs.GeometryValue.{GeometryValue}
use Rattle.model.specs.Cells.{Cells}
use Rattle.model.specs.Redo.{cells_of}
use Rattle.model.specs.declared.life.Life.{Life}
use Rattle.store_image_half.specs.Part.{IsImagePart}
use Rattle.flip_image.specs.Layout.{other, header_sector, InHalf, InHalfImage}
use Rattle.store_reader.specs.Contents.{log_area}
use Rattle.store_image_half.specs.Source.{FitsImage}
use Rattle.store_image_model.specs.Run.{Run}
use Rattle.store_writer.specs.Contents.{LeftBy}
use Rattle.store_writer.specs.Writer.{IsWriter}
use Rattle.store_image_model.specs.declared.chunk.CopyPlace.TheVariants as at
use Rattle.store_writer.specs.declared.copying.Copying.TheVariants.{Steps}
use Rattle.store_writer.specs.declared.writer.Writer.{Writer}
use Rattle.store_writer.specs.declared.image.NewImage.{NewImage}
use Rattle.store_writer.specs.declared.image.Stage.TheVariants.{Partly}
use Rattle.store_writer.proofs.Stepwise.{start_taken}
use Rattle.store_writer.proofs.Writing.{stood, carried_on}
use Rattle.store_writer.specs.Known.{KnowsPages, SamePages}
use Rattle.store_writer.specs.Parts.{handed_of}
use Rattle.store_writer.specs.declared.known.KnownPages.{KnownPages}
use Rattle.store_writer.proofs.Knowing.{pages_beside}
use Rattle.store_writer.proofs.KnownPages.{known_begun}
use Rattle.store_writer.proofs.Taking.{leaves_kept, may_write, stands_with}
use Rattle.store_writer.proofs.Alone.{these_alone}
use Rattle.store_writer.proofs.writer.Writer.take_start.Goals as goal

pub write_first-requires : goal.write_first-requires
write_first-requires g c =
    let (run, handed, is, start) = c.requires.start in
    let (room, current, loose) = may_write g.D.Device.past_of run handed c.args.self.now is c.requires.sound in
    record {
      room = room;
      current = current;
      fits = subst (FitsImage c.args.self.now.halves.geometry) (sym c.lists_alone-cells.ensures)
          (subst (λ (x : GeometryValue). FitsImage x (record { rows = map.empty; entries = map.empty; pending = c.args.lists; life = c.args.life }))
          (sym is.geometry-is) start.fits);
      loose = loose;
    }

pub returns-in-Ok : goal.returns-in-Ok
returns-in-Ok g c =
    let images : (run : Run) (handed : ℕ) → IsWriter g.D.Device.past_of run handed c.args.self.now
    → LeavesOnly (g.D.Device.past_of c.args.self.now.device) (g.D.Device.past_of c.write_first.new.device)
    (LeftBy run c.args.self.now.synced handed) = λ run handed is.
    let past_of = g.D.Device.past_of in
    let old = c.args.self.now in
    leaves_kept past_of run handed old is c.requires.sound (past_of c.write_first.new.device)
    (subst (λ (x : GeometryValue). LeavesOnly (past_of old.device) (past_of c.write_first.new.device)
    (SameOutside (InHalf x (other old.halves.current)) (past_of old.device).disk.content)) is.geometry-is c.write_first.ensures.any_moment) in
    record {
      writer = λ run handed is start.
          let past_of = g.D.Device.past_of in
          let old = c.args.self.now in
          let half = other old.halves.current in
          let now = (past_of c.write_first.new.device).disk in
          let life : Life = c.lists_alone-cells.result.life in
          let image : NewImage = record { base = c.args.number; number = c.args.number; stage = Partly 0 0 None life; log = c.in-Ok.log } in
          let new : Writer g.row.D.Denot g.row.A.Denot = record {
            device = c.write_first.new.device;
            halves = old.halves;
            log = old.log;
            waiting = old.waiting;
            synced = old.synced;
            image = Some image;
            copying = Steps (Some (at.Page 0));
            known = c.begin_at-in-Ok.new.self;
            failed = old.failed;
          } in
          let cells_are = c.lists_alone-cells.ensures in
          let part = subst (λ (x : Cells). IsImagePart run.geometry (header_sector run.geometry half) now.content 0
          (record x { rows = map.empty; entries = map.empty })) cells_are
          (subst (λ (x : GeometryValue). IsImagePart x (header_sector x half) now.content 0
          (record (cells_of c.lists_alone-cells.result) { rows = map.empty; entries = map.empty })) is.geometry-is c.in-Ok.ensures.written) in
          let area : image.log.area ≡ log_area run.geometry half =
          subst (λ (x : GeometryValue). image.log.area ≡ log_area x half) is.geometry-is c.in-Ok.ensures.area in
          let before = (past_of old.device).disk.content in
          let outside : SameOutside (InHalf run.geometry half) before now.content =
          subst (λ (x : GeometryValue). SameOutside (InHalf x half) before now.content) is.geometry-is c.write_first.ensures.outside in
          let kept : KnownPages g.row.A.Denot = c.begin_at-in-Ok.new.self in
          let pages : c.begin_at.inside.pages ≡ run.geometry.pages =
          ap (λ (x : GeometryValue). x.pages) (c.begin_at.view_is ∙ c.geometry.ensures ∙ is.geometry-is) in
          let either = subst (λ (n : ℕ). ((kept.changed.items ≡ old.known.changed.items) × (kept.current ≡ old.known.current)
          × (kept.other ≡ old.known.other))
          ⊎ ((kept.changed.items ≡ replicate c.begin_at.inside.pages n) × (kept.current ≡ None) × (kept.other ≡ None))) c.handed-handed.ensures
          (⊎_elim
          (λ same. inl (
            ap (λ (k : KnownPages g.row.A.Denot). k.changed.items) same,
            ap (λ (k : KnownPages g.row.A.Denot). k.current) same,
            ap (λ (k : KnownPages g.row.A.Denot). k.other) same,
          ))
          (λ new. inr (new.1, new.2, new.3)) c.begin_at-in-Ok.ensures.begun) in
          let known : KnowsPages run old.halves.current now.content (handed_of old) kept.changed.items kept.current kept.other =
          known_begun run old.halves.current before now.content (handed_of old) c.begin_at.inside.pages old.known.changed.items kept.changed.items
          old.known.current old.known.other kept.current kept.other pages (pages_beside run.geometry old.halves.current before now.content outside)
          (subst (λ (x : GeometryValue). SamePages x half before now.content) is.geometry-is c.write_first.ensures.pages) either
          (stood past_of run handed old is c.requires.sound).known in
          carried_on past_of run handed old new is refl refl refl
          (λ sound. stands_with past_of run handed old is c.requires.sound new refl refl refl outside
          (subst (λ (x : GeometryValue). (n : ℕ) → now.unsynced n ≡ true → InHalfImage x half n) is.geometry-is c.in-Ok.ensures.loose)
          (start_taken run half now.content old.synced image c.args.life c.args.lists is.opened refl
          (ap (λ (l : Life). Partly 0 0 None l) (ap (λ (x : Cells). x.life) cells_are)) start part area c.in-Ok.ensures.empty)
          (inr (omega (arith, (stood past_of run handed old is c.requires.sound).store.limits.some_page), (image, life, refl, refl))) known)
          (images run handed is);
      images = images;
      taken =
          let life : Life = c.lists_alone-cells.result.life in
          let image : NewImage = record { base = c.args.number; number = c.args.number; stage = Partly 0 0 None life; log = c.in-Ok.log } in
          let began : Partly 0 0 None life ≡ Partly 0 0 None c.args.life =
          ap (λ (l : Life). Partly 0 0 None l) (ap (λ (x : Cells). x.life) c.lists_alone-cells.ensures) in
          (image, (refl, refl, refl, refl, refl, refl), (refl, refl, began, c.in-Ok.ensures.empty.counted), refl);
      synced = refl;
      err = tt;
      quiet = c.in-Ok.ensures.counts.none;
      later = c.write_first.ensures.counts.later;
      around = these_alone g.D.Device.past_of (InHalf c.args.self.now.halves.geometry (other c.args.self.now.halves.current)) c.args.self.now.device
          c.write_first.new.device c.write_first.ensures.outside c.write_first.ensures.any_moment;
      left = tt;
      knows =
          let old = c.args.self.now in
          let kept : KnownPages g.row.A.Denot = c.begin_at-in-Ok.new.self in
          let pages : c.begin_at.inside.pages ≡ old.halves.geometry.pages =
          ap (λ (x : GeometryValue). x.pages) (c.begin_at.view_is ∙ c.geometry.ensures) in
          ⊎_elim
          (λ same. inl (
            ap (λ (k : KnownPages g.row.A.Denot). k.changed.items) same,
            ap (λ (k : KnownPages g.row.A.Denot). k.current) same,
            ap (λ (k : KnownPages g.row.A.Denot). k.other) same,
          ))
          (λ new. inr (
            new.0,
            new.1 ∙ ap (λ n. replicate n c.handed-handed.result) pages ∙ ap (replicate old.halves.geometry.pages) c.handed-handed.ensures,
            new.2,
            new.3,
          ))
          c.begin_at-in-Ok.ensures.begun;
    }

pub returns : goal.returns
returns g c =
    let images : (run : Run) (handed : ℕ) → IsWriter g.D.Device.past_of run handed c.args.self.now
    → LeavesOnly (g.D.Device.past_of c.args.self.now.device) (g.D.Device.past_of c.write_first.new.device)
    (LeftBy run c.args.self.now.synced handed) = λ run handed is.
    let past_of = g.D.Device.past_of in
    let old = c.args.self.now in
    leaves_kept past_of run handed old is c.requires.sound (past_of c.write_first.new.device)
    (subst (λ (x : GeometryValue). LeavesOnly (past_of old.device) (past_of c.write_first.new.device)
    (SameOutside (InHalf x (other old.halves.current)) (past_of old.device).disk.content)) is.geometry-is c.write_first.ensures.any_moment) in
    record {
      writer = λ run handed is start.
          let old = c.args.self.now in
          let new : Writer g.row.D.Denot g.row.A.Denot = record {
            device = c.write_first.new.device;
            halves = old.halves;
            log = old.log;
            waiting = old.waiting;
            synced = old.synced;
            image = old.image;
            copying = old.copying;
            known = old.known;
            failed = true;
          } in
          carried_on g.D.Device.past_of run handed old new is refl refl refl (λ sound. absurd (false≢true (sym sound))) (images run handed is);
      images = images;
      taken = tt;
      synced = refl;
      err = (refl, refl, (λ _. c.in-Err.ensures.counts.failed), λ was. absurd (false≢true (sym c.requires.sound ∙ was)));
      quiet = tt;
      later = c.write_first.ensures.counts.later;
      around = these_alone g.D.Device.past_of (InHalf c.args.self.now.halves.geometry (other c.args.self.now.halves.current)) c.args.self.now.device
          c.write_first.new.device c.write_first.ensures.outside c.write_first.ensures.any_moment;
      left = refl;
      knows = tt;
    }

pub handed-handed-requires : goal.handed-handed-requires
handed-handed-requires g c = let (run, handed, is, start) = c.requires.start in (run, handed, is)

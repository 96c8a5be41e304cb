use Rattle.std.proofs.Common.{true, ◌≡◌, ◌⊎◌, inr, ℕ, ◌+◌, ◌<◌, ◌≤◌, Vec, Option, Some, None, IfSome, refl, sym, ap, subst, ◌∙◌, arith}
use Rattle.std.specs.Prelude.{nat_lt}
use Rattle.std.proofs.lemmas.Option.{same_Some}
use Rattle.std.proofs.lemmas.Bool.{false≢true}
use Rattle.sector_device.specs.Disk.{SameOutside}
use Rattle.sector_device.specs.DevicePast.{LeavesOnly, RunsWithin}
use Rattle.record_values.specs.GeometryValue.{GeometryValue}
use Rattle.store_image_half.specs.Layout.{InPage}
use Rattle.store_image_half.specs.Part.{HasPage}
use Rattle.flip_image.specs.Layout.{other, header_sector, InHalfImage}
use Rattle.store_image_model.specs.Run.{Run}
use Rattle.store_image_model.specs.declared.chunk.CopyPlace.{CopyPlace}
use Rattle.store_writer.specs.Contents.{LeftBy}
use Rattle.store_writer.specs.Writer.{IsWriter}
use Rattle.store_writer.specs.Copying.{IsCopying, page_behind}
use Rattle.store_writer.specs.declared.copying.Copying.TheVariants.{Steps}
use Rattle.store_writer.specs.declared.writer.Writer.{Writer}
use Rattle.store_writer.specs.declared.image.NewImage.{NewImage}
use Rattle.store_writer.specs.declared.image.Stage.TheVariants.{Partly}
use Rattle.store_writer.specs.Image.{IsPart, IsContent, IsUnderway}
use Rattle.store_writer.proofs.Idle.{from_err, from_ok, writing, written_outside, written_loose, written_log}
use Rattle.store_writer.proofs.Places.{at_page, behind_page}
use Rattle.store_writer.proofs.Stepwise.{at_stage, page_part}
use Rattle.store_writer.proofs.Writing.{stood, carried_on}
use Rattle.store_writer.specs.Known.{KnowsPages}
use Rattle.store_writer.specs.Parts.{handed_of}
use Rattle.store_writer.specs.declared.known.KnownPages.{KnownPages}
use Rattle.store_writer.proofs.Knowing.{pages_beside}
use Rattle.store_writer.proofs.KnownPages.{known_written}
use Rattle.store_writer.proofs.Taking.{leaves_kept, may_write, stands_with}
use Rattle.store_writer.proofs.Alone.{part_alone}
use Rattle.store_writer.proofs.writer.Writer.take_page.Goals as goal

pub write_rows-requires : goal.write_rows-requires
write_rows-requires g c =
    let (run, handed, is, asked) = c.requires.page in
    let (room, current, loose) = may_write g.D.Device.past_of run handed c.args.self.now is c.requires.sound in
    record {
      inside = room;
      current = current;
      page = subst (λ (x : GeometryValue). c.args.page < x.pages) (sym is.geometry-is) (asked c.in-Some.image c.in-Some.is).below;
    }

pub returns-then-is_err : goal.returns-then-is_err
returns-then-is_err g c =
    let failed = sym c.is_err.ensures.value ∙ c.if-is_err.true in
    let images : (run : Run) (handed : ℕ) → IsWriter g.D.Device.past_of run handed c.args.self.now
    → LeavesOnly (g.D.Device.past_of c.args.self.now.device) (g.D.Device.past_of c.write_rows.new.device)
    (LeftBy run c.args.self.now.synced handed) = λ run handed is.
    let past_of = g.D.Device.past_of in
    let old = c.args.self.now in
    let within = subst (λ (x : GeometryValue). RunsWithin (λ n. InHalfImage x (other old.halves.current) n
    ⊎ ((past_of old.device).disk.unsynced n ≡ true)) (past_of old.device).disk.content (past_of old.device) (past_of c.write_rows.new.device))
    is.geometry-is c.write_rows.ensures.within in
    leaves_kept past_of run handed old is c.requires.sound (past_of c.write_rows.new.device)
    (writing run.geometry (other old.halves.current) (past_of old.device) (past_of c.write_rows.new.device)
    (stood past_of run handed old is c.requires.sound).loose within) in
    record {
      writer = λ run handed is page.
          let old = c.args.self.now in
          let new : Writer g.row.D.Denot g.row.A.Denot = record {
            device = c.write_rows.new.device;
            halves = old.halves;
            log = old.log;
            waiting = old.waiting;
            synced = old.synced;
            image = old.image;
            copying = old.copying;
            known = old.known;
            failed = true;
          } in
          carried_on g.D.Device.past_of run handed old new is refl refl refl (λ sound. absurd (false≢true (sym sound)))
          (images run handed is);
      images = images;
      taken = tt;
      synced = refl;
      err = (refl, refl, (λ _. from_err _ _ failed c.write_rows.ensures.counts.failed), λ was. absurd (false≢true (sym c.requires.sound ∙ was)));
      quiet = tt;
      later = c.write_rows.ensures.counts.later;
      around =
          let (run, handed, is, asked) = c.requires.page in
          part_alone g.D.Device.past_of run handed c.args.self.now is c.requires.sound c.write_rows.new.device c.write_rows.ensures.within;
      left = refl;
      knows = tt;
    }

pub with_page-requires : goal.with_page-requires
with_page-requires g c =
    let (run, handed, is, asked) = c.requires.page in
    let (count, highest, life, at) = (asked c.in-Some.image c.in-Some.is).next in
    let most = (stood g.D.Device.past_of run handed c.args.self.now is c.requires.sound).store.limits.most_pages in
    record { partly = (c.args.page, count, highest, life, at); room = omega (arith, (asked c.in-Some.image c.in-Some.is).below, most) }

pub returns : goal.returns
returns g c =
    let fine = sym c.is_err.ensures.value ∙ c.if-is_err.false in
    let images : (run : Run) (handed : ℕ) → IsWriter g.D.Device.past_of run handed c.args.self.now
    → LeavesOnly (g.D.Device.past_of c.args.self.now.device) (g.D.Device.past_of c.write_rows.new.device)
    (LeftBy run c.args.self.now.synced handed) = λ run handed is.
    let past_of = g.D.Device.past_of in
    let old = c.args.self.now in
    let within = subst (λ (x : GeometryValue). RunsWithin (λ n. InHalfImage x (other old.halves.current) n
    ⊎ ((past_of old.device).disk.unsynced n ≡ true)) (past_of old.device).disk.content (past_of old.device) (past_of c.write_rows.new.device))
    is.geometry-is c.write_rows.ensures.within in
    leaves_kept past_of run handed old is c.requires.sound (past_of c.write_rows.new.device)
    (writing run.geometry (other old.halves.current) (past_of old.device) (past_of c.write_rows.new.device)
    (stood past_of run handed old is c.requires.sound).loose within) in
    record {
      writer = λ run handed is asked.
          let past_of = g.D.Device.past_of in
          let old = c.args.self.now in
          let half = other old.halves.current in
          let image : NewImage = c.in-Some.image in
          let stand = stood past_of run handed old is c.requires.sound in
          let within = subst (λ (x : GeometryValue). RunsWithin (λ n. InHalfImage x half n
          ⊎ ((past_of old.device).disk.unsynced n ≡ true)) (past_of old.device).disk.content (past_of old.device) (past_of c.write_rows.new.device))
          is.geometry-is c.write_rows.ensures.within in
          let before = (past_of old.device).disk.content in
          let after = (past_of c.write_rows.new.device).disk.content in
          let there : IsUnderway run half before old.synced image =
          subst (λ (t : Option NewImage). IfSome t (IsUnderway run half before old.synced)) c.in-Some.is stand.image in
          let chunk = asked image c.in-Some.is in
          let (count, highest, life, at) = chunk.next in
          let part : IsPart run half before image.base image.number c.args.page count highest life =
          subst (IsContent run half before image.base image.number) at there.content in
          let good = sym c.is_err.ensures.value ∙ c.if-is_err.false in
          let same : SameOutside (InPage (header_sector run.geometry half) c.args.page) before after =
          subst (λ (x : GeometryValue). SameOutside (InPage (header_sector x half) c.args.page) before after) is.geometry-is c.write_rows.ensures.outside in
          let has : HasPage (header_sector run.geometry half) after c.args.page c.args.rows =
          subst (λ (x : GeometryValue). HasPage (header_sector x half) after c.args.page c.args.rows) is.geometry-is
          (from_ok _ _ good c.write_rows.ensures.written) in
          let next : IsPart run half after image.base c.args.number (c.args.page + 1) count highest life =
          page_part run half before after image.base image.number c.args.number there.low there.rise chunk.later c.args.page count highest life c.args.rows part
          chunk.below chunk.rows-are chunk.slots same has in
          let log = written_log run.geometry half (past_of old.device)
          (past_of c.write_rows.new.device) stand.loose within image.log there.groups there.area-is there.stands in
          let taken : NewImage = c.with_page.result in
          let taken_is : record image { number = c.args.number; stage = Partly (c.args.page + 1) count highest life } ≡ taken =
          sym (c.with_page.ensures c.args.page count highest life at) in
          let (below, (j, began, came, from)) = at_page run.geometry.pages old.copying old.image stand.copying image c.in-Some.is c.args.page count
          highest life at
          chunk.below in
          let here : image.stage ≡ Partly c.args.page 0 None began =
          ap (λ (x : NewImage). x.stage) (same_Some image j (sym c.in-Some.is ∙ came)) ∙ from in
          let further : taken.stage ≡ Partly (c.args.page + 1) 0 None began =
          ap (λ (x : NewImage). x.stage) {y = record image { number = c.args.number; stage = Partly (c.args.page + 1) 0 None began }}
          (c.with_page.ensures c.args.page 0 None began here) in
          let behind : c.args.behind ≡ page_behind run.geometry.pages c.args.page =
          c.requires.behind ∙ ap (λ (x : GeometryValue). page_behind x.pages c.args.page) is.geometry-is in
          let copied : IsCopying run.geometry.pages (Steps c.args.behind) (Some taken) =
          subst (λ (p : Option CopyPlace). IsCopying run.geometry.pages (Steps p) (Some taken)) (sym behind)
          (inr (behind_page run.geometry.pages (Some taken) taken refl c.args.page began below further (nat_lt (c.args.page + 1) run.geometry.pages) refl)) in
          let now : KnownPages g.row.A.Denot = c.page_written.new.self in
          let outside = written_outside run.geometry half (past_of old.device) (past_of c.write_rows.new.device) stand.loose within in
          let between : IfSome now.other (λ low. (low ≤ c.args.number) × (c.args.number ≤ handed_of old)) =
          subst (λ (n : ℕ). IfSome now.other (λ low. (low ≤ c.args.number) × (c.args.number ≤ n))) c.handed-handed.ensures c.page_written.ensures.between in
          let written = known_written run old.halves.current before after (handed_of old) c.args.number c.args.page c.args.rows old.known.changed.items
          old.known.current old.known.other now.other chunk.below same has chunk.rows-are chunk.slots
          (pages_beside run.geometry old.halves.current before after outside) c.page_written.ensures.other between stand.known in
          let known : KnowsPages run old.halves.current after (handed_of old) now.changed.items now.current now.other =
          subst (λ (v : Vec ℕ g.row.A.Denot). KnowsPages run old.halves.current after (handed_of old) v.items now.current now.other)
          (sym c.page_written.ensures.changed)
          (subst (λ (o : Option ℕ). KnowsPages run old.halves.current after (handed_of old) old.known.changed.items o now.other)
          (sym c.page_written.ensures.current) written) in
          let new : Writer g.row.D.Denot g.row.A.Denot = record {
            device = c.write_rows.new.device;
            halves = old.halves;
            log = old.log;
            waiting = old.waiting;
            synced = old.synced;
            image = Some taken;
            copying = Steps c.args.behind;
            known = c.page_written.new.self;
            failed = old.failed;
          } in
          carried_on past_of run handed old new is refl refl refl
          (λ sound. stands_with past_of run handed old is c.requires.sound new refl refl refl
          (written_outside run.geometry half (past_of old.device) (past_of c.write_rows.new.device) stand.loose within)
          (written_loose run.geometry half (past_of old.device) (past_of c.write_rows.new.device) stand.loose within)
          (subst (IsUnderway run half after old.synced) taken_is
          (at_stage run half before after old.synced image there c.args.number (Partly (c.args.page + 1) count highest life) chunk.later chunk.made log next))
          copied known)
          (images run handed is);
      images = images;
      taken = let (run, handed, is, asked) = c.requires.page in
          let (count, highest, life, at) = (asked c.in-Some.image c.in-Some.is).next in (
            c.with_page.result,
            (refl, refl, refl, refl, refl, refl),
            (c.in-Some.image, count, highest, life, c.in-Some.is, at, c.with_page.ensures c.args.page count highest life at),
            refl,
          );
      synced = refl;
      err = tt;
      quiet = from_ok _ _ fine c.write_rows.ensures.counts.none;
      later = c.write_rows.ensures.counts.later;
      around =
          let (run, handed, is, asked) = c.requires.page in
          part_alone g.D.Device.past_of run handed c.args.self.now is c.requires.sound c.write_rows.new.device c.write_rows.ensures.within;
      left = tt;
      knows = (
        ap (λ (v : Vec ℕ g.row.A.Denot). v.items) c.page_written.ensures.changed,
        c.page_written.ensures.current,
        (
          c.page_written.ensures.other,
          λ low is late up. c.page_written.ensures.stays low is late (omega (arith, up, c.handed-handed.ensures)),
        ),
      );
    }

pub handed-handed-requires : goal.handed-handed-requires
handed-handed-requires g c = let (run, handed, is, asked) = c.requires.page in (run, handed, is)

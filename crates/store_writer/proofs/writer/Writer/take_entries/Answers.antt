use Rattle.std.proofs.Common.{true, ◌≡◌, ◌⊎◌, ⊎_elim, inr, ◌+◌, ◌-◌, ◌%◌, ◌<◌, ◌≤◌, ℕ, length, Option, Some, None, IfSome, refl, sym, ap, subst, ◌∙◌, arith}
use Rattle.std.proofs.lemmas.Bool.{cases_lt, false≢true}
use Rattle.std.specs.Prelude.{slice_get}
use Rattle.sector_device.specs.Disk.{CrashState}
use Rattle.sector_device.specs.DevicePast.{LeavesOnly, RunsWithin}
use Rattle.record_values.specs.GeometryValue.{GeometryValue}
use Rattle.record_values.specs.declared.pair.Pair.{Pair}
use Rattle.record_values.specs.declared.pair.Mark.{Mark}
use Rattle.record_values.specs.declared.geometry.TheConstants.{ENTRIES_PER_SECTOR}
use Rattle.flip_image.specs.Layout.{other, InHalfImage}
use Rattle.store_image_model.specs.Run.{Run}
use Rattle.store_image_model.specs.declared.chunk.CopyPlace.{CopyPlace}
use Rattle.store_image_model.specs.declared.chunk.TheConstants.{CHUNK_ENTRIES}
use Rattle.store_writer.specs.Copying.{IsCopying}
use Rattle.store_writer.specs.Contents.{LeftBy}
use Rattle.store_writer.specs.Writer.{IsWriter, stage_behind}
use Rattle.store_writer.specs.declared.copying.Copying.TheVariants.{Steps}
use Rattle.store_writer.specs.declared.writer.Writer.{Writer}
use Rattle.store_writer.specs.declared.image.NewImage.{NewImage}
use Rattle.store_writer.specs.declared.image.Stage.{Stage}
use Rattle.store_writer.specs.declared.image.Stage.TheVariants.{Whole, Partly}
use Rattle.store_writer.specs.Image.{IsPart, IsContent, IsUnderway}
use Rattle.store_writer.proofs.Idle.{from_err, from_ok, writing, written_outside, written_loose, written_log}
use Rattle.store_writer.proofs.Places.{behind_entries, not_partly, one_place}
use Rattle.store_writer.proofs.Stepwise.{at_stage, with_entries}
use Rattle.store_writer.proofs.Writing.{stood, carried_on}
use Rattle.store_writer.proofs.Taking.{known_dropped, leaves_kept, may_write, stands_with}
use Rattle.store_writer.proofs.Alone.{part_alone}
use Rattle.store_writer.proofs.writer.Writer.take_entries.Goals as goal

pub unreachable-requires : goal.unreachable-requires
unreachable-requires g c = c.requires.some c.in_default.is

pub unreachable-requires-in_default-stage : goal.unreachable-requires-in_default-stage
unreachable-requires-in_default-stage g c =
    let (run, handed, is, asked) = c.requires.entries in
    let no : Whole ≡ _ = sym c.in_default-stage.is ∙ (asked c.in-Some.image c.in-Some.is).next in
    absurd (not_partly _ _ _ _ no)

pub write_next-requires : goal.write_next-requires
write_next-requires g c =
    let past_of = g.D.Device.past_of in
    let old = c.args.self.now in
    let (run, handed, is, asked) = c.requires.entries in
    let (room, current, loose) = may_write past_of run handed old is c.requires.sound in
    let chunk = asked c.in-Some.image c.in-Some.is in
    let there : IsUnderway run (other old.halves.current) (past_of old.device).disk.content old.synced c.in-Some.image =
    subst (λ (t : Option NewImage). IfSome t (IsUnderway run (other old.halves.current) (past_of old.device).disk.content old.synced)) c.in-Some.is
    (stood past_of run handed old is c.requires.sound).image in
    let at : Partly run.geometry.pages chunk.count chunk.above chunk.life ≡ Partly c.in-Partly.pages c.in-Partly.count c.in-Partly.highest c.in-Partly.life =
    sym chunk.next ∙ c.in-Partly.is in
    let part : IsPart run (other old.halves.current) (past_of old.device).disk.content c.in-Some.image.base c.in-Some.image.number
    run.geometry.pages chunk.count
    chunk.above chunk.life =
    subst (IsContent run (other old.halves.current) (past_of old.device).disk.content c.in-Some.image.base c.in-Some.image.number) chunk.next there.content in
    let counted : chunk.count ≡ c.in-Partly.count = (one_place _ _ _ _ _ _ _ _ at).1 in
    let began : chunk.life ≡ c.in-Partly.life = (one_place _ _ _ _ _ _ _ _ at).2 in
    record {
      inside = room;
      current = current;
      full = subst (λ (n : ℕ). n % ENTRIES_PER_SECTOR ≡ 0) counted part.full;
      room = ⊎_elim
          (λ past. absurd (c.requires.room (
            c.in-Some.image,
            c.in-Partly.pages,
            c.in-Partly.count,
            c.in-Partly.highest,
            c.in-Partly.life,
            c.in-Some.is,
            c.in-Partly.is,
            past,
          )))
          (λ within. within)
          (cases_lt old.halves.geometry.entries (c.in-Partly.count + length c.args.entries.now));
      pages = subst (λ (x : GeometryValue). (i : ℕ) (e : Pair × Mark) → slice_get c.args.entries.now i ≡ Some e → e.0.rid.page < x.pages)
          (sym is.geometry-is) chunk.inside;
      base = omega (arith, there.rise, chunk.later, chunk.small);
      highest = λ p building. subst (λ (x : GeometryValue). p.rid.page < x.pages) (sym is.geometry-is)
          (part.inside.life p (sym part.life-is ∙ (began ∙ building)));
    }

pub returns-then-is_err : goal.returns-then-is_err
returns-then-is_err g c =
    let failed = sym c.is_err.ensures.value ∙ c.if-is_err.true in
    let images : (run : Run) (handed : ℕ) → IsWriter g.D.Device.past_of run handed c.args.self.now
    → LeavesOnly (g.D.Device.past_of c.args.self.now.device) (g.D.Device.past_of c.write_next.new.device)
    (LeftBy run c.args.self.now.synced handed) = λ run handed is.
    let past_of = g.D.Device.past_of in
    let old = c.args.self.now in
    let within = subst (λ (x : GeometryValue). RunsWithin (λ n. InHalfImage x (other old.halves.current) n
    ⊎ ((past_of old.device).disk.unsynced n ≡ true)) (past_of old.device).disk.content (past_of old.device) (past_of c.write_next.new.device))
    is.geometry-is c.write_next.ensures.within in
    leaves_kept past_of run handed old is c.requires.sound (past_of c.write_next.new.device)
    (writing run.geometry (other old.halves.current) (past_of old.device) (past_of c.write_next.new.device)
    (stood past_of run handed old is c.requires.sound).loose within) in
    record {
      writer = λ run handed is asked.
          let old = c.args.self.now in
          let new : Writer g.row.D.Denot g.row.A.Denot = record {
            device = c.write_next.new.device;
            halves = old.halves;
            log = old.log;
            waiting = old.waiting;
            synced = old.synced;
            image = old.image;
            copying = old.copying;
            known = old.known;
            failed = true;
          } in
          carried_on g.D.Device.past_of run handed old new is refl refl refl (λ sound. absurd (false≢true (sym sound)))
          (images run handed is);
      images = images;
      taken = tt;
      synced = refl;
      err = (refl, refl, (λ _. from_err _ _ failed c.write_next.ensures.counts.failed), λ was. absurd (false≢true (sym c.requires.sound ∙ was)));
      quiet = tt;
      later = c.write_next.ensures.counts.later;
      around =
          let (run, handed, is, asked) = c.requires.entries in
          part_alone g.D.Device.past_of run handed c.args.self.now is c.requires.sound c.write_next.new.device c.write_next.ensures.within;
      left = refl;
      knows = tt;
    }

pub stage_behind-stage-requires : goal.stage_behind-stage-requires
stage_behind-stage-requires g c =
    let (run, handed, is, asked) = c.requires.entries in
    let within : c.in-Partly.count + length c.args.entries.now ≤ c.args.self.now.halves.geometry.entries = ⊎_elim
    (λ past. absurd (c.requires.room (
      c.in-Some.image,
      c.in-Partly.pages,
      c.in-Partly.count,
      c.in-Partly.highest,
      c.in-Partly.life,
      c.in-Some.is,
      c.in-Partly.is,
      past,
    )))
    (λ within. within)
    (cases_lt c.args.self.now.halves.geometry.entries (c.in-Partly.count + length c.args.entries.now)) in
    let most = (stood g.D.Device.past_of run handed c.args.self.now is c.requires.sound).store.limits.most_entries in
    omega (arith, within, most, ap (λ (x : GeometryValue). x.entries) is.geometry-is)

pub returns : goal.returns
returns g c =
    let fine = sym c.is_err.ensures.value ∙ c.if-is_err.false in
    let images : (run : Run) (handed : ℕ) → IsWriter g.D.Device.past_of run handed c.args.self.now
    → LeavesOnly (g.D.Device.past_of c.args.self.now.device) (g.D.Device.past_of c.write_next.new.device)
    (LeftBy run c.args.self.now.synced handed) = λ run handed is.
    let past_of = g.D.Device.past_of in
    let old = c.args.self.now in
    let within = subst (λ (x : GeometryValue). RunsWithin (λ n. InHalfImage x (other old.halves.current) n
    ⊎ ((past_of old.device).disk.unsynced n ≡ true)) (past_of old.device).disk.content (past_of old.device) (past_of c.write_next.new.device))
    is.geometry-is c.write_next.ensures.within in
    leaves_kept past_of run handed old is c.requires.sound (past_of c.write_next.new.device)
    (writing run.geometry (other old.halves.current) (past_of old.device) (past_of c.write_next.new.device)
    (stood past_of run handed old is c.requires.sound).loose within) in
    record {
      writer = λ run handed is asked.
          let past_of = g.D.Device.past_of in
          let old = c.args.self.now in
          let half = other old.halves.current in
          let image : NewImage = c.in-Some.image in
          let stand = stood past_of run handed old is c.requires.sound in
          let within = subst (λ (x : GeometryValue). RunsWithin (λ n. InHalfImage x half n
          ⊎ ((past_of old.device).disk.unsynced n ≡ true)) (past_of old.device).disk.content (past_of old.device) (past_of c.write_next.new.device))
          is.geometry-is c.write_next.ensures.within in
          let before : CrashState = (past_of old.device).disk.content in
          let after : CrashState = (past_of c.write_next.new.device).disk.content in
          let there : IsUnderway run half before old.synced image =
          subst (λ (t : Option NewImage). IfSome t (IsUnderway run half before old.synced)) c.in-Some.is stand.image in
          let chunk = asked image c.in-Some.is in
          let at : Partly run.geometry.pages chunk.count chunk.above chunk.life
          ≡ Partly c.in-Partly.pages c.in-Partly.count c.in-Partly.highest c.in-Partly.life =
          sym chunk.next ∙ c.in-Partly.is in
          let part : IsPart run half before image.base image.number run.geometry.pages chunk.count chunk.above chunk.life =
          subst (IsContent run half before image.base image.number) chunk.next there.content in
          let good = sym c.is_err.ensures.value ∙ c.if-is_err.false in
          let log = written_log run.geometry half (past_of old.device)
          (past_of c.write_next.new.device) stand.loose within image.log there.groups there.area-is there.stands in
          let content : IsContent run half after image.base c.args.number c.stage_behind-stage.result =
          with_entries run half before after image c.args.number c.args.entries.now chunk there.low there.rise part old.halves.geometry is.geometry-is
          c.in-Partly.pages c.in-Partly.count c.in-Partly.highest c.in-Partly.life at
          (from_ok _ _ good c.write_next.ensures.part) (from_ok _ _ good c.write_next.ensures.whole) c.stage_behind-stage.result c.stage_behind-stage.ensures in
          let taken : NewImage = record { base = image.base; number = c.args.number; stage = c.stage_behind-stage.result; log = image.log } in
          let pages : c.in-Partly.pages ≡ run.geometry.pages = sym (one_place _ _ _ _ _ _ _ _ at).0 in
          let further : taken.stage ≡ stage_behind run.geometry.pages c.in-Partly.count c.in-Partly.life c.args.entries.now =
          subst (λ (k : ℕ). taken.stage ≡ stage_behind k c.in-Partly.count c.in-Partly.life c.args.entries.now) pages c.stage_behind-stage.ensures in
          let copied : IsCopying run.geometry.pages (Steps c.args.behind) (Some taken) =
          subst (λ (p : Option CopyPlace). IsCopying run.geometry.pages (Steps p) (Some taken)) (sym c.requires.behind)
          (inr (behind_entries run.geometry.pages (Some taken) taken refl (c.in-Partly.count + length c.args.entries.now) c.in-Partly.life
          (slice_get c.args.entries.now (CHUNK_ENTRIES - 1)) further)) in
          let new : Writer g.row.D.Denot g.row.A.Denot = record {
            device = c.write_next.new.device;
            halves = old.halves;
            log = old.log;
            waiting = old.waiting;
            synced = old.synced;
            image = Some taken;
            copying = Steps c.args.behind;
            known = record old.known { other = None };
            failed = old.failed;
          } in
          carried_on past_of run handed old new is refl refl refl
          (λ sound. stands_with past_of run handed old is c.requires.sound new refl refl refl
          (written_outside run.geometry half (past_of old.device) (past_of c.write_next.new.device) stand.loose within)
          (written_loose run.geometry half (past_of old.device) (past_of c.write_next.new.device) stand.loose within)
          (at_stage run half before after old.synced image there c.args.number taken.stage chunk.later chunk.made log content)
          copied
          (known_dropped past_of run handed old is c.requires.sound after
          (written_outside run.geometry half (past_of old.device) (past_of c.write_next.new.device) stand.loose within)))
          (images run handed is);
      images = images;
      taken =
          let image : NewImage = c.in-Some.image in
          let taken : NewImage = record { base = image.base; number = c.args.number; stage = c.stage_behind-stage.result; log = image.log } in
          let here : taken
          ≡ record image { number = c.args.number; stage = stage_behind c.in-Partly.pages c.in-Partly.count c.in-Partly.life c.args.entries.now } =
          ap (λ (s : Stage). let n : NewImage = record image { number = c.args.number; stage = s } in n) c.stage_behind-stage.ensures in (
            taken,
            (refl, refl, refl, refl, refl, refl),
            (image, c.in-Partly.pages, c.in-Partly.count, c.in-Partly.highest, c.in-Partly.life, c.in-Some.is, c.in-Partly.is, here),
            refl,
          );
      synced = refl;
      err = tt;
      quiet = from_ok _ _ fine c.write_next.ensures.counts.none;
      later = c.write_next.ensures.counts.later;
      around =
          let (run, handed, is, asked) = c.requires.entries in
          part_alone g.D.Device.past_of run handed c.args.self.now is c.requires.sound c.write_next.new.device c.write_next.ensures.within;
      left = tt;
      knows = (refl, refl);
    }

use Rattle.std.proofs.Common.{◌≡◌, ◌↔◌, ◌<◌, ◌≤◌, ◌∙◌, IsTrue, List, [], length, Err, inl, refl, arith, sym, ap, subst}
use Rattle.std.proofs.lemmas.Result.{err_from_is_err_and}
use Rattle.std.specs.FinMap.{len}
use Rattle.sector_device.specs.Disk.{Disk, CrashState}
use Rattle.sector_device.proofs.Within.{reads_then}
use Rattle.record_values.specs.GeometryValue.{GeometryValue}
use Rattle.records.specs.RecordValue.{RecordValue}
use Rattle.gate_log.specs.Area.{IsAreaInside, StandsIn, records_of}
use Rattle.model.specs.Given.{Given}
use Rattle.store_reader.specs.Restored.{given_in}
use Rattle.store_reader.specs.Contents.{log_area_in, IsFoundIn, IsUntouchedIn}
use Rattle.store_reader.proofs.Readings.{accepted_one, first_unfit, follows, found, holds, told_untouched}
use Rattle.store_reader.proofs.Refusals.{area_inside, area_is, later_than, not_fewer, overfull, slot_damaged, record_misplaced}
use Rattle.store_reader.proofs.reader.read_store_in.Goals as goal

pub returns-in_err-halves : goal.returns-in_err-halves
returns-in_err-halves g c =
    let image : CrashState = (g.D.Device.past_of c.args.device.now).disk.content in
    let p = err_from_is_err_and c.from_residual.result c.from_residual.ensures.1 in
    rw (p.1 ∙ ap Err p.2) (record {
      found = tt;
      halves = tt;
      untouched = tt;
      area = tt;
      numbered = tt;
      accepted = λ x given gives. accepted_one c.args.version image x given _ _ _ gives c.in_err-halves.ensures.refused;
      refused = c.in_err-halves.ensures.refused;
      memory = c.in_err-halves.ensures.memory;
      reads = c.open_store.ensures.reads;
      quiet = tt;
      told = c.in_err-halves.ensures.told;
      later = c.open_store.ensures.later;
    })

pub returns-in-Err : goal.returns-in-Err
returns-in-Err g c =
    let image : CrashState = (g.D.Device.past_of c.args.device.now).disk.content in
    let same = ap (λ (d : Disk). d.content) c.open_store.ensures.reads.disk in
    let at = c.in_ok-halves in
    let area : c.new-log.result.area ≡ log_area_in c.args.version at.halves.geometry at.halves.current =
    c.new-log.ensures.area
    ∙ area_is c.args.version c.log_first_in.result c.from.result _ _ c.log_first_in.ensures.value (c.from.ensures
    ∙ ap (λ (x : GeometryValue). x.slots) (c.geometry.view_is ∙ c.geometry-geometry.ensures)) in
    let told = slot_damaged c.args.version image at.halves.geometry at.halves.current _ _ at.ensures.opened _ _ _ same at.ensures.quiet at.cells.last
    at.cells.cells at.ensures.imaged c.new-log.result.area area c.in-Err.ensures.refused in
    record {
      found = tt;
      halves = tt;
      untouched = tt;
      area = tt;
      numbered = tt;
      accepted = λ x given gives. accepted_one c.args.version image x given _ _ _ gives told;
      refused = told;
      memory = λ _. (at.halves.geometry, at.halves.current, at.ensures.opened, (_, at.ensures.imaged.header-is));
      reads = reads_then _ _ _ c.open_store.ensures.reads c.read_all.ensures.reads;
      quiet = tt;
      told = λ other. c.in-Err.ensures.told other ∙ at.ensures.quiet;
      later = later_than _ _ _ at.ensures.quiet c.read_all.ensures.later;
    }

pub returns-in-Ok-redone : goal.returns-in-Ok-redone
returns-in-Ok-redone g c =
    let h = g.D.Device.past_of in
    let image : CrashState = (h c.args.device.now).disk.content in
    let at = c.in_ok-halves in
    let geometry = at.halves.geometry in
    let half = at.halves.current in
    let log = c.read_all.new.self in
    let area : log.area ≡ log_area_in c.args.version geometry half =
    c.read_all.ensures.area ∙ c.new-log.ensures.area
    ∙ area_is c.args.version c.log_first_in.result c.from.result geometry half c.log_first_in.ensures.value (c.from.ensures
    ∙ ap (λ (x : GeometryValue). x.slots) (c.geometry.view_is ∙ c.geometry-geometry.ensures)) in
    let read = c.in-Ok.ensures.read in
    let stands = subst (λ (d : Disk). StandsIn c.args.version log d.content read.0) at.ensures.reads.disk read.1 in
    let given = given_in c.in-Ok-redone.restored in
    let following = follows geometry c.deref.result.now at.cells at.ensures.geometry c.in-Ok-redone.ensures.following in
    let made = c.in-Ok-redone.ensures.given in
    let room : len given.entries ≤ geometry.entries =
    omega (arith, c.if-len-geometry.false, c.len.ensures, ap (λ (x : GeometryValue). x.entries) (c.geometry.view_is ∙ c.geometry-geometry.ensures)) in
    let told : IsTrue c.is_untouched.result ↔ IsTrue at.bare × (c.deref.result.now ≡ []) =
    subst (λ (l : List RecordValue). IsTrue c.is_untouched.result ↔ IsTrue at.bare × (l ≡ [])) (c.deref-in-Ok-redone.ensures.value
    ∙ sym c.deref.ensures.value) c.is_untouched.ensures in
    let back = sym (c.in-Ok-redone.ensures.geometry ∙ at.ensures.geometry) in
    let quiet = c.in-Ok.ensures.quiet ∙ at.ensures.quiet in
    record {
      found =
          subst (λ (x : GeometryValue). IsFoundIn c.args.version image x log given) back
          (found c.args.version image geometry half at.cells.last at.cells.cells log read.0 c.deref.result.now given at.ensures.opened at.ensures.imaged area
          stands (c.deref.ensures.value ∙ read.2) following made room);
      halves = at.ensures.opened;
      untouched =
          subst (λ (x : GeometryValue). IsTrue c.is_untouched.result ↔ IsUntouchedIn c.args.version image x) back
          (told_untouched c.args.version image geometry half at.cells.last at.cells.cells c.deref.result.now at.bare c.is_untouched.result
          (holds c.args.version image geometry half at.cells.last at.cells.cells log read.0 c.deref.result.now at.ensures.opened at.ensures.imaged area stands
          (c.deref.ensures.value ∙ read.2) following) at.ensures.bare told);
      area = area_inside c.args.version c.log_first_in.result geometry half log.area image area c.log_first_in.ensures.value c.log_first_in.ensures.inside
          at.ensures.opened;
      numbered = c.in-Ok-redone.restored.numbered;
      accepted = λ x given gives. tt;
      refused = tt;
      memory = tt;
      reads = reads_then _ _ _ c.open_store.ensures.reads c.read_all.ensures.reads;
      quiet = quiet;
      told = tt;
      later = not_fewer _ _ quiet;
    }

pub returns-then-len-geometry : goal.returns-then-len-geometry
returns-then-len-geometry g c =
    let h = g.D.Device.past_of in
    let image : CrashState = (h c.args.device.now).disk.content in
    let at = c.in_ok-halves in
    let geometry = at.halves.geometry in
    let half = at.halves.current in
    let log = c.read_all.new.self in
    let area : log.area ≡ log_area_in c.args.version geometry half =
    c.read_all.ensures.area ∙ c.new-log.ensures.area
    ∙ area_is c.args.version c.log_first_in.result c.from.result geometry half c.log_first_in.ensures.value (c.from.ensures
    ∙ ap (λ (x : GeometryValue). x.slots) (c.geometry.view_is ∙ c.geometry-geometry.ensures)) in
    let read = c.in-Ok.ensures.read in
    let stands = subst (λ (d : Disk). StandsIn c.args.version log d.content read.0) at.ensures.reads.disk read.1 in
    let given = given_in c.in-Ok-redone.restored in
    let following = follows geometry c.deref.result.now at.cells at.ensures.geometry c.in-Ok-redone.ensures.following in
    let made = c.in-Ok-redone.ensures.given in
    let crowded : geometry.entries < len given.entries =
    omega (arith, c.if-len-geometry.true, c.len.ensures, ap (λ (x : GeometryValue). x.entries) (c.geometry.view_is ∙ c.geometry-geometry.ensures)) in
    let quiet = c.in-Ok.ensures.quiet ∙ at.ensures.quiet in
    let told =
    overfull c.args.version image geometry half at.cells.last at.cells.cells c.deref.result.now c.header_sector_in.result _ _
    (holds c.args.version image geometry half at.cells.last at.cells.cells log read.0 c.deref.result.now at.ensures.opened at.ensures.imaged area stands
    (c.deref.ensures.value ∙ read.2) following)
    (subst (λ (x : Given). geometry.entries < len x.entries) made crowded) c.header_sector_in.ensures.value in
    record {
      found = tt;
      halves = tt;
      untouched = tt;
      area = tt;
      numbered = tt;
      accepted = λ x given gives. accepted_one c.args.version image x given _ _ _ gives told;
      refused = told;
      memory = λ _. (at.halves.geometry, at.halves.current, at.ensures.opened, (_, at.ensures.imaged.header-is));
      reads = reads_then _ _ _ c.open_store.ensures.reads c.read_all.ensures.reads;
      quiet = tt;
      told = λ _. quiet;
      later = not_fewer _ _ quiet;
    }

pub returns-in-Unfit : goal.returns-in-Unfit
returns-in-Unfit g c =
    let h = g.D.Device.past_of in
    let image : CrashState = (h c.args.device.now).disk.content in
    let now : CrashState = (h c.read_all.new.device).disk.content in
    let at = c.in_ok-halves in
    let geometry = at.halves.geometry in
    let half = at.halves.current in
    let log = c.read_all.new.self in
    let same = ap (λ (d : Disk). d.content) (c.in-Ok.ensures.reads.disk ∙ at.ensures.reads.disk) in
    let area : log.area ≡ log_area_in c.args.version geometry half =
    c.read_all.ensures.area ∙ c.new-log.ensures.area
    ∙ area_is c.args.version c.log_first_in.result c.from.result geometry half c.log_first_in.ensures.value (c.from.ensures
    ∙ ap (λ (x : GeometryValue). x.slots) (c.geometry.view_is ∙ c.geometry-geometry.ensures)) in
    let read = c.in-Ok.ensures.read in
    let stands = subst (λ (d : Disk). StandsIn c.args.version log d.content read.0) (sym c.in-Ok.ensures.reads.disk) read.1 in
    let index = c.in-Err-redone.stopped.index in
    let first = first_unfit geometry c.deref.result.now (records_of read.0) at.cells index at.ensures.geometry (c.deref.ensures.value
    ∙ read.2) (c.in-Err-redone.ensures.unfit c.in-Unfit.is).1 in
    let quiet = c.in-Ok.ensures.quiet ∙ at.ensures.quiet in
    let told =
    record_misplaced c.args.version image geometry half _ _ at.ensures.opened now _ _ same (c.in-Ok.ensures.quiet
    ∙ at.ensures.quiet) at.cells.last at.cells.cells at.ensures.imaged
    log read.0 index area stands first c.misplaced.ensures.told in
    record {
      found = tt;
      halves = tt;
      untouched = tt;
      area = tt;
      numbered = tt;
      accepted = λ x given gives. accepted_one c.args.version image x given _ _ c.misplaced.result gives told;
      refused = told;
      memory = λ _. (geometry, half, at.ensures.opened, (_, at.ensures.imaged.header-is));
      reads = reads_then _ _ _ c.open_store.ensures.reads (reads_then _ _ _ c.read_all.ensures.reads c.misplaced.ensures.reads);
      quiet = tt;
      told = λ other. c.misplaced.ensures.quiet (λ is. other is) ∙ quiet;
      later = later_than _ _ _ quiet c.misplaced.ensures.later;
    }

pub returns : goal.returns
returns g c =
    let at = c.in_ok-halves in
    let quiet = c.in-Ok.ensures.quiet ∙ at.ensures.quiet in
    record {
      found = tt;
      halves = tt;
      untouched = tt;
      area = tt;
      numbered = tt;
      accepted = λ x given gives. inl refl;
      refused = inl (inl refl);
      memory = λ _. (at.halves.geometry, at.halves.current, at.ensures.opened, (_, at.ensures.imaged.header-is));
      reads = reads_then _ _ _ c.open_store.ensures.reads c.read_all.ensures.reads;
      quiet = tt;
      told = λ _. quiet;
      later = not_fewer _ _ quiet;
    }

pub read_all-requires : goal.read_all-requires
read_all-requires g c =
    let at = c.in_ok-halves in
    let area : c.new-log.result.area ≡ log_area_in c.args.version at.halves.geometry at.halves.current =
    c.new-log.ensures.area
    ∙ area_is c.args.version c.log_first_in.result c.from.result _ _ c.log_first_in.ensures.value (c.from.ensures
    ∙ ap (λ (x : GeometryValue). x.slots) (c.geometry.view_is ∙ c.geometry-geometry.ensures)) in
    record {
      inside =
          subst (λ (d : Disk). IsAreaInside c.new-log.result.area d.content) (sym c.open_store.ensures.reads.disk)
          (area_inside c.args.version c.log_first_in.result _ _ c.new-log.result.area (g.D.Device.past_of c.args.device.now).disk.content area
          c.log_first_in.ensures.value c.log_first_in.ensures.inside at.ensures.opened);
    }

pub misplaced-requires : goal.misplaced-requires
misplaced-requires g c =
    let at = c.in_ok-halves in
    let log = c.read_all.new.self in
    let area : log.area ≡ log_area_in c.args.version at.halves.geometry at.halves.current =
    c.read_all.ensures.area ∙ c.new-log.ensures.area
    ∙ area_is c.args.version c.log_first_in.result c.from.result _ _ c.log_first_in.ensures.value (c.from.ensures
    ∙ ap (λ (x : GeometryValue). x.slots) (c.geometry.view_is ∙ c.geometry-geometry.ensures)) in
    let read = c.in-Ok.ensures.read in
    record {
      inside =
          subst (λ (d : Disk). IsAreaInside log.area d.content) (sym (c.in-Ok.ensures.reads.disk ∙ at.ensures.reads.disk))
          (area_inside c.args.version c.log_first_in.result _ _ log.area (g.D.Device.past_of c.args.device.now).disk.content area
          c.log_first_in.ensures.value c.log_first_in.ensures.inside at.ensures.opened);
      stands = (
        read.0,
        subst (λ (d : Disk). StandsIn c.args.version log d.content read.0) (sym c.in-Ok.ensures.reads.disk) read.1,
        subst (λ (l : List RecordValue). c.in-Err-redone.stopped.index < length l) (c.deref.ensures.value ∙ read.2)
            (c.in-Err-redone.ensures.unfit c.in-Unfit.is).0,
      );
    }

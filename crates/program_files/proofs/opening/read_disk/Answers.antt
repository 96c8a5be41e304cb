use Rattle.std.proofs.Common.{◌∙◌, ◌≡◌, ◌⊎◌, ⊎_elim, Err, List, ap, inl, length, refl, rules, subst, sym, vec_len, ℕ}
use Rattle.std.proofs.lemmas.Result.{err_from_is_err_and}
use Rattle.records.specs.RecordValue.{RecordValue}
use Rattle.record_values.specs.declared.error.Error.{Error}
use Rattle.record_values.specs.declared.error.Error.TheVariants.{Damaged}
use Rattle.record_values.specs.declared.version.Version.TheVariants.{Two}
use Rattle.sector_device.specs.Disk.{CrashState, Disk}
use Rattle.sector_device.proofs.Within.{reads_then}
use Rattle.gate_log.specs.Area.{Area, HoldsGroupsIn, IsFirstDamagedSlotIn, Refuses, records_of}
use Rattle.gate_log.proofs.Readings.{not_damaged, one_reading}
use Rattle.store_reader.specs.Restored.{given_in}
use Rattle.program_files.specs.declared.refused.Refused.TheVariants.{Store}
use Rattle.program_files.proofs.opening.read_disk.Goals as goal

-- a log that was found is refused only for want of memory, or where the device failed
not_read : (area : Area) (old mid : CrashState) (groups : List (List RecordValue)) (before between now : ℕ) (e : Error) → mid ≡ old → between ≡ before
    → HoldsGroupsIn Two area old groups
    → Refuses between now e ⊎ ((sector : ℕ) × (e ≡ Damaged sector) × IsFirstDamagedSlotIn Two area mid sector) → Refuses before now e
not_read area old mid groups before between now e content quiet held why = ⊎_elim
    (λ refuses. subst (λ (n : ℕ). Refuses n now e) quiet refuses)
    (λ harmed. absurd (not_damaged Two area mid harmed.0 groups harmed.2
    (subst (λ (image : CrashState). HoldsGroupsIn Two area image groups) (sym content) held)))
    why

pub returns-in_err-found : goal.returns-in_err-found
returns-in_err-found g c =
    let p = err_from_is_err_and c.from_residual.result c.from_residual.ensures.1 in
    rw (p.1 ∙ ap Err p.2) (record {
      stored = tt;
      refused = (_, refl, c.in_err-found.ensures.refused);
      reads = c.read_store.ensures.reads;
      quiet = tt;
      told = λ other. c.in_err-found.ensures.told (λ same. other (ap Store same));
    })

pub returns-in_err-records : goal.returns-in_err-records
returns-in_err-records g c =
    let p = err_from_is_err_and c.from_residual-in_err-records.result c.from_residual-in_err-records.ensures.1 in
    let found = c.in_ok-found.ensures.found in
    let content = ap (λ (d : Disk). d.content) c.read_store.ensures.reads.disk in
    rw (p.1 ∙ ap Err p.2) (record {
      stored = tt;
      refused = (
        _,
        refl,
        inl (not_read c.in_ok-found.found.log.area _ _ found.gives.holds.groups _ _ _ _ content
            c.in_ok-found.ensures.quiet found.stands.held c.in_err-records.ensures.refused),
      );
      reads = reads_then _ _ _ c.read_store.ensures.reads c.read_all.ensures.reads;
      quiet = tt;
      told = λ other. c.in_err-records.ensures.told (λ same. other (ap Store same)) ∙ c.in_ok-found.ensures.quiet;
    })

pub returns : goal.returns
returns g c =
    let counted : length c.in_ok-records.records.items ≡ vec_len c.in_ok-records.records = search rules in
    let found = c.in_ok-found.ensures.found in
    let log = c.in_ok-found.found.log in
    let read = c.in_ok-records.ensures.read in
    let content = ap (λ (d : Disk). d.content) c.read_store.ensures.reads.disk in
    let held = subst (λ (area : Area). HoldsGroupsIn Two area (g.D.Device.past_of c.read_store.new.device).disk.content read.0)
    c.read_all.ensures.area read.1.held in
    let held_before = subst (λ (image : CrashState). HoldsGroupsIn Two log.area image read.0) content held in
    let same = one_reading Two log.area (g.D.Device.past_of c.args.disk.now).disk.content read.0 found.gives.holds.groups
    held_before found.stands.held in
    record {
      stored = record {
        log = log;
        given = given_in c.in_ok-found.found.restored;
        found = found;
        open_slots = c.open_slots-open_slots.ensures.value;
        records = c.len.ensures ∙ sym counted ∙ ap (λ (rs : List RecordValue). length rs)
            (read.2 ∙ ap (λ (gs : List (List RecordValue)). records_of gs) same ∙ sym found.gives.holds.all);
        last = refl;
      };
      refused = tt;
      reads = reads_then _ _ _ c.read_store.ensures.reads c.read_all.ensures.reads;
      quiet = c.in_ok-records.ensures.quiet ∙ c.in_ok-found.ensures.quiet;
      told = tt;
    }

use Rattle.std.proofs.Common.{◌≡◌, ◌≤◌, ◌∙◌, Err, ap, arith, inl, inr, refl, subst, sym, ℕ}
use Rattle.std.proofs.lemmas.Result.{err_from_is_err_and}
use Rattle.std.specs.FinMap as map
use Rattle.record_values.specs.GeometryValue.{GeometryValue}
use Rattle.record_values.specs.declared.error.Error.TheVariants.{NoMemory}
use Rattle.record_values.specs.declared.version.Version.TheVariants.{Two}
use Rattle.sector_device.specs.Disk.{CrashState}
use Rattle.sector_device.specs.DevicePast.{Rises}
use Rattle.gate_log.specs.Area.{Refuses}
use Rattle.core_model.specs.Events.{standing_at}
use Rattle.core_copies.specs.Loaded.{holding}
use Rattle.core_model.specs.Histories.{opened}
use Rattle.nsf_core.specs.Value.{value_of}
use Rattle.core_parts.specs.View.{IsState}
use Rattle.flip_image.specs.Layout.{HalvesValue}
use Rattle.flip_image.specs.Store.{IsStore}
use Rattle.store_reader.specs.Contents.{Gives, HasHeader}
use Rattle.store_reader.specs.Restored.{given_in}
use Rattle.restart.specs.Reopening.{IsNotOpened, IsUnwritten}
use Rattle.restart.specs.Store.{over}
use Rattle.restart.proofs.Migrated.{has_header}
use Rattle.restart.proofs.Settled.{only_memory}
use Rattle.restart.proofs.Turning.{failed_back, other_again, turned_back, turned_read}
use Rattle.restart.proofs.reopen.open_core.Goals as goal

-- ---- it isn't read

pub returns-in_err-found-clause-turned : goal.returns-in_err-found-clause-turned
returns-in_err-found-clause-turned g c =
    turned_read g.D.Device.past_of c.args.device.now c.sync_and_read.new.device
    (record { content = c.sync_and_read.ensures.kept; images = c.sync_and_read.ensures.images })

pub returns-in_err-found-clause-refused : goal.returns-in_err-found-clause-refused
returns-in_err-found-clause-refused g c =
    let h = g.D.Device.past_of in
    let f = g.D.Device.failures in
    let read : IsUnwritten h c.args.device.now c.sync_and_read.new.device =
    record { content = c.sync_and_read.ensures.kept; images = c.sync_and_read.ensures.images } in
    let p = err_from_is_err_and c.from_residual.result c.from_residual.ensures.1 in
    rw p.1 (subst (λ e. IsNotOpened h f c.args.device.now c.sync_and_read.new.device e) (sym p.2) (record {
      device = turned_read h c.args.device.now c.sync_and_read.new.device read;
      why = c.in_err-found.ensures.refused;
      told = c.in_err-found.ensures.told;
      unwritten = λ other. read;
      synced = c.in_err-found.ensures.settled;
      later = c.sync_and_read.ensures.later;
    }))

pub returns-in_err-found-clause-accepted : goal.returns-in_err-found-clause-accepted
returns-in_err-found-clause-accepted g c geometry given gives =
    let f = g.D.Device.failures in
    let p = err_from_is_err_and c.from_residual.result c.from_residual.ensures.1 in
    rw p.1 (subst (λ e. Refuses (f c.args.device.now) (f c.sync_and_read.new.device) e) (sym p.2)
    (c.in_err-found.ensures.accepted geometry given gives))

pub returns-in_err-found-clause-memory : goal.returns-in_err-found-clause-memory
returns-in_err-found-clause-memory g c =
    let p = err_from_is_err_and c.from_residual.result c.from_residual.ensures.1 in
    rw p.1 (subst (λ e. e ≡ NoMemory → HasHeader (g.D.Device.past_of c.args.device.now).disk.content) (sym p.2) c.in_err-found.ensures.memory)

-- ---- it isn't loaded

pub returns-in-Err-clause-turned : goal.returns-in-Err-clause-turned
returns-in-Err-clause-turned g c =
    turned_read g.D.Device.past_of c.args.device.now c.sync_and_read.new.device
    (record { content = c.sync_and_read.ensures.kept; images = c.sync_and_read.ensures.images })

pub returns-in-Err-clause-refused : goal.returns-in-Err-clause-refused
returns-in-Err-clause-refused g c =
    let h = g.D.Device.past_of in
    let found = c.in_ok-found in
    let read : IsUnwritten h c.args.device.now c.sync_and_read.new.device =
    record { content = c.sync_and_read.ensures.kept; images = c.sync_and_read.ensures.images } in
    let fits : map.len found.found.restored.entries ≤ found.found.restored.geometry.entries =
    omega (arith, found.ensures.gives.room, ap (λ (x : GeometryValue). x.entries) found.ensures.geometry) in
    record {
      device = turned_read h c.args.device.now c.sync_and_read.new.device read;
      why = inl (inl (only_memory (Err c.in-Err.error) _ _ c.in-Err.ensures.full c.in-Err.ensures.refused fits));
      told = λ other. found.ensures.quiet;
      unwritten = λ other. read;
      synced = λ other. found.ensures.synced;
      later = c.sync_and_read.ensures.later;
    }

pub returns-in-Err-clause-accepted : goal.returns-in-Err-clause-accepted
returns-in-Err-clause-accepted g c geometry given gives =
    let found = c.in_ok-found in
    let fits : map.len found.found.restored.entries ≤ found.found.restored.geometry.entries =
    omega (arith, found.ensures.gives.room, ap (λ (x : GeometryValue). x.entries) found.ensures.geometry) in
    inl (only_memory (Err c.in-Err.error) _ _ c.in-Err.ensures.full c.in-Err.ensures.refused fits)

pub returns-in-Err-clause-memory : goal.returns-in-Err-clause-memory
returns-in-Err-clause-memory g c none =
    let found = c.in_ok-found in
    has_header Two (g.D.Device.past_of c.args.device.now).disk.content found.found.halves.geometry (given_in found.found.restored) found.ensures.gives

-- ---- it is written back

pub write_back-requires-clause-synced : goal.write_back-requires-clause-synced
write_back-requires-clause-synced g c = c.in_ok-found.ensures.synced

pub write_back-requires-clause-store : goal.write_back-requires-clause-store
write_back-requires-clause-store g c =
    let halves = c.in_ok-found.found.halves in
    subst (λ (i : CrashState). IsStore halves.geometry halves.current i) (sym c.sync_and_read.ensures.kept) c.in_ok-found.ensures.store

pub write_back-requires-clause-gives : goal.write_back-requires-clause-gives
write_back-requires-clause-gives g c =
    let found = c.in_ok-found.found in
    subst (λ (i : CrashState). Gives i found.halves.geometry (given_in found.restored)) (sym c.sync_and_read.ensures.kept) c.in_ok-found.ensures.gives

pub returns-in-Ok-write_back-clause-found : goal.returns-in-Ok-write_back-clause-found
returns-in-Ok-write_back-clause-found g c =
    let found = c.in_ok-found.found in
    let made = c.in-Ok-write_back.made in
    let given = given_in found.restored in
    let size : made.halves.geometry ≡ found.halves.geometry = ap (λ (x : HalvesValue). x.geometry) c.in-Ok-write_back.ensures.halves in
    let same : found.restored.geometry ≡ made.halves.geometry = c.in_ok-found.ensures.geometry ∙ sym size in
    record {
      given = given;
      gives = subst (λ (x : GeometryValue). Gives (g.D.Device.past_of c.args.device.now).disk.content x given) (sym size) c.in_ok-found.ensures.gives;
      holds = c.in-Ok.ensures.made ∙ ap (λ (x : GeometryValue). holding x given) same;
      shown = subst (λ (x : GeometryValue). IsState (value_of c.in-Ok.core) (opened (over x given)) (standing_at given.last)) same c.in-Ok.ensures.opened;
      opened-at = c.in-Ok-write_back.ensures.opened;
    }

pub returns-in-Ok-write_back-clause-turned : goal.returns-in-Ok-write_back-clause-turned
returns-in-Ok-write_back-clause-turned g c =
    turned_back g.D.Device.past_of c.args.device.now c.sync_and_read.new.device
    (record { content = c.sync_and_read.ensures.kept; images = c.sync_and_read.ensures.images }) c.write_back.new.device c.write_back.ensures.images
    c.write_back.ensures.written

pub returns-in-Ok-write_back-clause-flipped : goal.returns-in-Ok-write_back-clause-flipped
returns-in-Ok-write_back-clause-flipped g c =
    let halves = c.in_ok-found.found.halves in
    other_again halves.geometry halves.current c.in-Ok-write_back.made.halves (g.D.Device.past_of c.args.device.now).disk.content
    c.in-Ok-write_back.ensures.halves c.in_ok-found.ensures.store

pub returns-in-Ok-write_back-clause-quiet : goal.returns-in-Ok-write_back-clause-quiet
returns-in-Ok-write_back-clause-quiet g c = c.in-Ok-write_back.ensures.counts.none ∙ c.in_ok-found.ensures.quiet

pub returns-in-Err-write_back-clause-turned : goal.returns-in-Err-write_back-clause-turned
returns-in-Err-write_back-clause-turned g c =
    turned_back g.D.Device.past_of c.args.device.now c.sync_and_read.new.device
    (record { content = c.sync_and_read.ensures.kept; images = c.sync_and_read.ensures.images }) c.write_back.new.device c.write_back.ensures.images
    c.write_back.ensures.written

pub returns-in-Err-write_back-clause-refused : goal.returns-in-Err-write_back-clause-refused
returns-in-Err-write_back-clause-refused g c =
    failed_back g.D.Device.past_of c.args.device.now c.sync_and_read.new.device
    (record { content = c.sync_and_read.ensures.kept; images = c.sync_and_read.ensures.images }) c.write_back.new.device c.write_back.ensures.images
    c.write_back.ensures.written g.D.Device.failures c.in_ok-found.ensures.quiet c.write_back.ensures.counts.later c.in-Err-write_back.ensures.counts.failed

pub returns-in-Err-write_back-clause-accepted : goal.returns-in-Err-write_back-clause-accepted
returns-in-Err-write_back-clause-accepted g c geometry given gives =
    inr (
      refl,
      subst (λ (n : ℕ). Rises n (g.D.Device.failures c.write_back.new.device)) c.in_ok-found.ensures.quiet c.in-Err-write_back.ensures.counts.failed,
    )

pub returns-in-Err-write_back-clause-memory : goal.returns-in-Err-write_back-clause-memory
returns-in-Err-write_back-clause-memory g c is = absurd cc

use Rattle.std.proofs.Common.{◌≡◌, ◌⊎◌, ◌≢◌, ℕ, IfErr, IfOk, OnOk, arith, ap, sym, subst}
use Rattle.sector_device.specs.Disk.{CrashState, Disk, IsSynced}
use Rattle.record_values.specs.declared.error.Error.TheVariants.{DeviceFailed, NoMemory}
use Rattle.gate_log.specs.Area.{Refuses}
use Rattle.store_reader.specs.Restored.{given_in}
use Rattle.flip_image.specs.Store.{IsStore}
use Rattle.store_reader.specs.Contents.{Gives, HasHeader, IsUnreadable}
use Rattle.store_opener.proofs.Calls.{content_kept, found_gives, found_size, if_err_always, if_ok_both, on_ok_always, only_read, stays_synced, synced_first}
use Rattle.store_opener.proofs.opening.sync_and_read.Goals as goal

pub returns-in-Ok-clause-gives : goal.returns-in-Ok-clause-gives
returns-in-Ok-clause-gives g c =
    let h = g.D.Device.past_of in
    let content : (h c.sync.new.self).disk.content ≡ (h c.args.device.now).disk.content = ap (λ (d : Disk). d.content) c.in-Ok.ensures.ok in
    subst (λ (i : CrashState). IfOk c.read_store.result (λ found. Gives i found.halves.geometry (given_in found.restored))) content
    (if_ok_both _ _ _ c.read_store.result
    (λ found is store. found_gives (h c.sync.new.self).disk.content found.restored.geometry found.log (given_in found.restored) found.halves is store)
    c.read_store.ensures.found c.read_store.ensures.halves)

pub returns-in-Ok-clause-store : goal.returns-in-Ok-clause-store
returns-in-Ok-clause-store g c =
    let h = g.D.Device.past_of in
    let content : (h c.sync.new.self).disk.content ≡ (h c.args.device.now).disk.content = ap (λ (d : Disk). d.content) c.in-Ok.ensures.ok in
    subst (λ (i : CrashState). IfOk c.read_store.result (λ found. IsStore found.halves.geometry found.halves.current i)) content
    c.read_store.ensures.halves

pub returns-in-Ok-clause-geometry : goal.returns-in-Ok-clause-geometry
returns-in-Ok-clause-geometry g c =
    let h = g.D.Device.past_of in
    if_ok_both _ _ _ c.read_store.result
    (λ found is store. found_size (h c.sync.new.self).disk.content found.restored.geometry found.log (given_in found.restored) found.halves is store)
    c.read_store.ensures.found c.read_store.ensures.halves

pub returns-in-Ok-clause-synced : goal.returns-in-Ok-clause-synced
returns-in-Ok-clause-synced g c =
    let h = g.D.Device.past_of in
    on_ok_always _ c.read_store.result
    (stays_synced (h c.args.device.now) (h c.sync.new.self) (h c.read_store.new.device) c.in-Ok.ensures.ok c.read_store.ensures.reads)

pub returns-in-Ok-clause-kept : goal.returns-in-Ok-clause-kept
returns-in-Ok-clause-kept g c =
    let h = g.D.Device.past_of in
    content_kept (h c.args.device.now) (h c.sync.new.self) (h c.read_store.new.device) c.in-Ok.ensures.ok c.read_store.ensures.reads

pub returns-in-Ok-clause-images : goal.returns-in-Ok-clause-images
returns-in-Ok-clause-images g c =
    let h = g.D.Device.past_of in
    only_read (h c.args.device.now) (h c.sync.new.self) c.sync.result c.sync.ensures.time c.sync.ensures.ok c.sync.ensures.err (h c.read_store.new.device)
    c.read_store.ensures.reads

pub returns-in-Ok-clause-accepted : goal.returns-in-Ok-clause-accepted
returns-in-Ok-clause-accepted g c geometry given gives =
    let h = g.D.Device.past_of in
    let f = g.D.Device.failures in
    let content : (h c.sync.new.self).disk.content ≡ (h c.args.device.now).disk.content = ap (λ (d : Disk). d.content) c.in-Ok.ensures.ok in
    subst (λ (n : ℕ). IfErr c.read_store.result (Refuses n (f c.read_store.new.device))) c.in-Ok.ensures.counts.none
    (c.read_store.ensures.accepted geometry given (subst (λ (i : CrashState). Gives i geometry given) (sym content) gives))

pub returns-in-Ok-clause-refused : goal.returns-in-Ok-clause-refused
returns-in-Ok-clause-refused g c =
    let h = g.D.Device.past_of in
    let f = g.D.Device.failures in
    let content : (h c.sync.new.self).disk.content ≡ (h c.args.device.now).disk.content = ap (λ (d : Disk). d.content) c.in-Ok.ensures.ok in
    subst (λ (n : ℕ). IfErr c.read_store.result (λ e. Refuses n (f c.read_store.new.device) e ⊎ IsUnreadable (h c.args.device.now).disk.content e))
    c.in-Ok.ensures.counts.none
    (subst (λ (i : CrashState). IfErr c.read_store.result (λ e.
    Refuses (f c.sync.new.self) (f c.read_store.new.device) e ⊎ IsUnreadable i e)) content c.read_store.ensures.refused)

pub returns-in-Ok-clause-memory : goal.returns-in-Ok-clause-memory
returns-in-Ok-clause-memory g c =
    let h = g.D.Device.past_of in
    let content : (h c.sync.new.self).disk.content ≡ (h c.args.device.now).disk.content = ap (λ (d : Disk). d.content) c.in-Ok.ensures.ok in
    subst (λ (i : CrashState). IfErr c.read_store.result (λ e. e ≡ NoMemory → HasHeader i)) content c.read_store.ensures.memory

pub returns-in-Ok-clause-settled : goal.returns-in-Ok-clause-settled
returns-in-Ok-clause-settled g c =
    let h = g.D.Device.past_of in
    if_err_always (λ e. e ≢ DeviceFailed → IsSynced (h c.read_store.new.device).disk) c.read_store.result (λ e other.
    stays_synced (h c.args.device.now) (h c.sync.new.self) (h c.read_store.new.device) c.in-Ok.ensures.ok c.read_store.ensures.reads)

pub returns-in-Ok-clause-quiet : goal.returns-in-Ok-clause-quiet
returns-in-Ok-clause-quiet g c =
    let f = g.D.Device.failures in
    subst (λ (n : ℕ). OnOk c.read_store.result (f c.read_store.new.device ≡ n)) c.in-Ok.ensures.counts.none c.read_store.ensures.quiet

pub returns-in-Ok-clause-told : goal.returns-in-Ok-clause-told
returns-in-Ok-clause-told g c =
    let f = g.D.Device.failures in
    subst (λ (n : ℕ). IfErr c.read_store.result (λ e. e ≢ DeviceFailed → f c.read_store.new.device ≡ n)) c.in-Ok.ensures.counts.none
    c.read_store.ensures.told

pub returns-in-Ok-clause-later : goal.returns-in-Ok-clause-later
returns-in-Ok-clause-later g c = omega (arith, c.sync.ensures.counts.later, c.read_store.ensures.later)

pub returns-in-Err-clause-images : goal.returns-in-Err-clause-images
returns-in-Err-clause-images g c =
    let h = g.D.Device.past_of in
    synced_first (h c.args.device.now) (h c.sync.new.self) c.sync.result c.sync.ensures.time c.sync.ensures.ok c.sync.ensures.err

use Rattle.std.proofs.Common.{Result, Err, IfErr, ◌≡◌, ◌≤◌, ◌<◌, ◌⊎◌, ◌↔◌, ◌∙◌, ⊎_elim, ℕ, sym, ap, subst, arith}
use Rattle.std.proofs.lemmas.Result.{err_from_is_err_and}
use Rattle.sector_device.specs.Disk.{Disk, IsSynced, SameOutside}
use Rattle.sector_device.proofs.Sectors.{same_outside_wider}
use Rattle.record_values.specs.GeometryValue.{sectors_of}
use Rattle.record_values.specs.declared.error.Error.{Error}
use Rattle.record_values.specs.declared.error.Error.TheVariants.{DeviceTooSmall}
use Rattle.flip_image.specs.declared.half.Half.TheVariants.{A}
use Rattle.flip_image.specs.Layout.{HalvesValue}
use Rattle.flip_image.specs.Store.{IsDeviceFailure, IsFormatSector, IsStore}
use Rattle.restart.proofs.Migrated.{format_inside, if_ok_weaker, on_ok_always, on_ok_weaker}
use Rattle.restart.proofs.migration.format.Goals as goal

pub returns-clause-geometry : goal.returns-clause-geometry
returns-clause-geometry g c =
    if_ok_weaker _ _ c.open.result (λ (h : HalvesValue) is. ap (λ (x : HalvesValue). x.geometry) is)
    (c.open.ensures.store c.args.geometry A c.in_ok-format.ensures.formatted.store)

pub returns-clause-around : goal.returns-clause-around
returns-clause-around g c =
    let h = g.D.Device.past_of in
    let size = c.args.geometry in
    let before = (h c.args.device.now).disk.content in
    on_ok_always _ c.open.result (subst (λ (d : Disk). SameOutside (λ n. n < sectors_of size) before d.content) (sym c.open.ensures.reads.disk)
    (same_outside_wider (IsFormatSector size) (λ n. n < sectors_of size) before (h c.format.new.device).disk.content
    (format_inside size) c.in_ok-format.ensures.outside))

pub returns-clause-store : goal.returns-clause-store
returns-clause-store g c =
    if_ok_weaker _ _ c.open.result (λ (h : HalvesValue) is. subst (λ (d : Disk). IsStore h.geometry h.current d.content) (sym c.open.ensures.reads.disk) is)
    c.open.ensures.opened

pub returns-clause-synced : goal.returns-clause-synced
returns-clause-synced g c = on_ok_always _ c.open.result (subst IsSynced (sym c.open.ensures.reads.disk) c.in_ok-format.ensures.synced)

pub returns-clause-refused : goal.returns-clause-refused
returns-clause-refused g c =
    subst (λ n. IfErr c.open.result (IsDeviceFailure n (g.D.Device.failures c.open.new.device))) c.in_ok-format.ensures.quiet
    (c.open.ensures.accepted c.args.geometry A c.in_ok-format.ensures.formatted.store)

pub returns-clause-quiet : goal.returns-clause-quiet
returns-clause-quiet g c = on_ok_weaker _ _ c.open.result (λ same. same ∙ c.in_ok-format.ensures.quiet) c.open.ensures.quiet

-- where there is room, the device failed
device_failed : {T : Type 0} (e : Error) (before now len size : ℕ) → (◌≡◌ {A = Result T Error} (Err e) (Err DeviceTooSmall) ↔ (len < size)) → size ≤ len
    → (e ≡ DeviceTooSmall) ⊎ IsDeviceFailure before now e → IsDeviceFailure before now e
device_failed e before now len size small room = ⊎_elim (λ is. absurd (omega (arith, small.0 (ap Err is)))) (λ failed. failed)

pub returns-in_err-format : goal.returns-in_err-format
returns-in_err-format g c =
    let p = err_from_is_err_and c.from_residual.result c.from_residual.ensures.1 in
    let failed = device_failed _ _ _ _ _ c.in_err-format.ensures.too_small c.requires c.in_err-format.ensures.refused in
    rw (p.1 ∙ ap Err p.2) (record { geometry = tt; store = tt; synced = tt; around = tt; refused = failed; quiet = tt })

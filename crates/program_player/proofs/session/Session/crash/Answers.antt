use Rattle.std.proofs.Common.{◌≡◌, ℕ, true, false, subst, ◌∙◌}
use Rattle.std.specs.declared.alloc.Global.{Global}
use Rattle.sector_device.specs.declared.call.Fate.{Fate}
use Rattle.sector_device.specs.declared.fault.FaultDisk.{FaultDisk}
use Rattle.sector_device.specs.declared.memory.MemDisk.{MemDisk}
use Rattle.restart.specs.Store.{KeepsRun}
use Rattle.program_player.specs.Disk.{disk_past, LosesPower}
use Rattle.program_player.specs.Session.{tells_stop, calls_to_stop}
use Rattle.program_player.proofs.session.Session.crash.Goals as goal

-- the same loss of power, with the number and the disk by other names
loses : (fate : Fate) (n m : ℕ) (disk before after : FaultDisk (MemDisk Global)) → n ≡ m → disk ≡ before
    → LosesPower fate n disk after → LosesPower fate m before after
loses fate n m disk before after number is lost =
    subst (λ (k : ℕ). LosesPower fate k before after) number
    (subst (λ (d : FaultDisk (MemDisk Global)). LosesPower fate n d after) is lost)

pub returns-in-Ok-clause-crashed : goal.returns-in-Ok-clause-crashed
returns-in-Ok-clause-crashed c =
    let left : c.saturating_sub-left.result ≡ calls_to_stop c.args.self = cc in
    let on = c.in-Ok.ensures in (
      c.crashed-disk.result,
      loses c.args.fate _ _ _ _ _ left c.into_device-disk.ensures.device c.crashed-disk.ensures,
      record { store_is = on.store_is; fails_at_is = on.fails_at_is ∙ left },
    )

pub returns-then-tells_stop-clause-crashed : goal.returns-then-tells_stop-clause-crashed
returns-then-tells_stop-clause-crashed c =
    let left : c.saturating_sub-left.result ≡ calls_to_stop c.args.self = cc in
    let told : tells_stop c.saturating_sub-left.result c.in-Err.error ≡ true = cc in (
      c.crashed-disk.result,
      loses c.args.fate _ _ _ _ _ left c.into_device-disk.ensures.device c.crashed-disk.ensures,
      (c.in-Err.error, c.in-Err.ensures, subst (λ (n : ℕ). tells_stop n c.in-Err.error ≡ true) left told),
    )

pub returns-else-tells_stop-clause-crashed : goal.returns-else-tells_stop-clause-crashed
returns-else-tells_stop-clause-crashed c =
    let left : c.saturating_sub-left.result ≡ calls_to_stop c.args.self = cc in
    let told : tells_stop c.saturating_sub-left.result c.in-Err.error ≡ false = cc in (
      c.crashed-disk.result,
      loses c.args.fate _ _ _ _ _ left c.into_device-disk.ensures.device c.crashed-disk.ensures,
      (c.in-Err.disk, c.in-Err.ensures, subst (λ (n : ℕ). tells_stop n c.in-Err.error ≡ false) left told),
    )

pub returns-in-Ok-clause-survives : goal.returns-in-Ok-clause-survives
returns-in-Ok-clause-survives c = subst (λ (d : FaultDisk (MemDisk Global)).
    KeepsRun disk_past c.args.self.store.engine d) c.into_device-disk.ensures.device c.into_device-disk.ensures.survives

pub returns-then-tells_stop-clause-survives : goal.returns-then-tells_stop-clause-survives
returns-then-tells_stop-clause-survives c = subst (λ (d : FaultDisk (MemDisk Global)).
    KeepsRun disk_past c.args.self.store.engine d) c.into_device-disk.ensures.device c.into_device-disk.ensures.survives

pub returns-else-tells_stop-clause-survives : goal.returns-else-tells_stop-clause-survives
returns-else-tells_stop-clause-survives c = subst (λ (d : FaultDisk (MemDisk Global)).
    KeepsRun disk_past c.args.self.store.engine d) c.into_device-disk.ensures.device c.into_device-disk.ensures.survives

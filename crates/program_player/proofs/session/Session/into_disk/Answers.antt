use Rattle.std.proofs.Common.{subst}
use Rattle.std.specs.declared.alloc.Global.{Global}
use Rattle.sector_device.specs.declared.fault.FaultDisk.{FaultDisk}
use Rattle.sector_device.specs.declared.memory.MemDisk.{MemDisk}
use Rattle.restart.specs.Store.{KeepsRun}
use Rattle.program_player.specs.Disk.{disk_past}
use Rattle.program_player.proofs.session.Session.into_disk.Goals as goal

pub returns-clause-survives : goal.returns-clause-survives
returns-clause-survives c = subst (λ (d : FaultDisk (MemDisk Global)).
    KeepsRun disk_past c.args.self.store.engine d) c.into_device.ensures.device c.into_device.ensures.survives

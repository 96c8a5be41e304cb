use Rattle.std.proofs.Common.{◌≡◌, ℕ, ◌+◌, ◌-◌, ◌^◌, Option, min, sym, ap, subst, ◌∙◌}
use Rattle.std.specs.declared.alloc.Global.{Global}
use Rattle.sector_device.specs.FaultDisk.{made_of}
use Rattle.sector_device.specs.declared.fault.FaultDisk.{FaultDisk}
use Rattle.sector_device.specs.declared.memory.MemDisk.{MemDisk}
use Rattle.program_player.specs.Session.{disk_of}
use Rattle.program_player.specs.Plays.{IsCutAt}
use Rattle.program_player.proofs.program.stop_number.Goals as goal

pub returns-in_ok-start-in-Some-clause-cut : goal.returns-in_ok-start-in-Some-clause-cut
returns-in_ok-start-in-Some-clause-cut c =
    let uncut = c.in_ok-start-in-Some.field-0 in
    let made : c.made-made.result ≡ made_of (disk_of uncut) = c.made-made.ensures
    ∙ ap (λ (d : FaultDisk (MemDisk Global)). made_of d) c.into_disk.ensures.disk in
    subst (λ (o : Option ℕ). IsCutAt c.args.sectors c.args.geometry o c.saturating_add.result) (sym c.in-Some.is) (
      uncut,
      c.in_ok-start-in-Some.ensures.starts,
      c.saturating_add.ensures ∙ ap (λ (n : ℕ). min (n + c.from.result) (2 ^ 64 - 1)) made
          ∙ ap (λ (n : ℕ). min (made_of (disk_of uncut) + n) (2 ^ 64 - 1)) c.from.ensures,
    )

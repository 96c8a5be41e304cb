use Rattle.std.proofs.Common.{inl, inr, ℕ, refl, subst}
use Rattle.std.proofs.lemmas.Result.{IfOk-weaker}
use Rattle.std.specs.declared.alloc.Global.{Global}
use Rattle.sector_device.specs.declared.fault.FaultDisk.{FaultDisk}
use Rattle.sector_device.specs.declared.memory.MemDisk.{MemDisk}
use Rattle.program_player.specs.Plays.{IsRefused, IsStopped}
use Rattle.program_player.proofs.Kept.{on_ok_of}
use Rattle.program_player.proofs.program.after_stop.Goals as goal

pub returns-in_ok-shown-in-Ok : goal.returns-in_ok-shown-in-Ok
returns-in_ok-shown-in-Ok g c =
    let contents = g.W.Write.contents in
    let kept = c.in_ok-disk.ensures in
    let opened = c.in-Ok.ensures in
    subst (λ (d : FaultDisk (MemDisk Global)). IsStopped contents c.args.fate d 0 c.args.output.now c.show-shown.new.output) kept.0 (
      opened.0,
      c.print.new.output,
      on_ok_of _ c.print.result tt kept.1 c.print.ensures,
      opened.1,
      inl (c.in-Ok.session, opened.2, c.in_ok-shown-in-Ok.ensures, refl),
    )

pub returns-in-Err : goal.returns-in-Err
returns-in-Err g c =
    let contents = g.W.Write.contents in
    let kept = c.in_ok-disk.ensures in
    let printed = on_ok_of _ c.print.result tt kept.1 c.print.ensures in
    let opened = c.in-Err.ensures in
    IfOk-weaker c.refused.result (λ (status : ℕ). IsRefused contents c.in-Err.error status c.print.new.output c.refused.new.output)
    (λ (status : ℕ). IsStopped contents c.args.fate c.args.disk status c.args.output.now c.refused.new.output)
    (λ status told. subst (λ (d : FaultDisk (MemDisk Global)). IsStopped contents c.args.fate d status c.args.output.now c.refused.new.output) kept.0 (
      opened.0,
      c.print.new.output,
      printed,
      opened.1,
      inr (c.in-Err.error, c.in-Err.disk, opened.2, told),
    ))
    c.refused.ensures

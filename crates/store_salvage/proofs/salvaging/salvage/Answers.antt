use Rattle.std.proofs.Common.{Err, ◌∙◌, ap, subst}
use Rattle.std.proofs.lemmas.Result.{err_from_is_err_and}
use Rattle.sector_device.specs.Disk.{CrashState, Disk}
use Rattle.store_salvage.specs.Salvage.{IsUnindexed}
use Rattle.store_salvage.proofs.Parts.{not_bared, not_blanked, not_opened}
use Rattle.store_salvage.proofs.salvaging.salvage.Goals as goal

pub returns-clause-salvaged : goal.returns-clause-salvaged
returns-clause-salvaged g c =
    let h = g.D.Device.past_of in
    let halves = c.in_ok-halves.halves in
    let bare : CrashState = (h c.leave_entries.new.device).disk.content in
    record {
      store = c.in_ok-halves.ensures.opened;
      bare = bare;
      unindexed = subst (λ (d : Disk). IsUnindexed halves.geometry halves.current d.content bare) c.open.ensures.reads.disk
          c.in_ok-leave_entries.ensures.done;
      blanked = c.in_ok-lost.ensures.blanked;
      given = c.in_ok-lost.ensures.gives.0;
      gives = c.in_ok-lost.ensures.gives.1;
    }

pub returns-in_err-halves : goal.returns-in_err-halves
returns-in_err-halves g c =
    let p = err_from_is_err_and c.from_residual.result c.from_residual.ensures.1 in
    rw (p.1 ∙ ap Err p.2) (record {
      salvaged = tt;
      refused = not_opened _ _ _ _ c.in_err-halves.ensures.refused;
      quiet = tt;
    })

pub returns-in_err-leave_entries : goal.returns-in_err-leave_entries
returns-in_err-leave_entries g c =
    let halves = c.in_ok-halves.halves in
    let p = err_from_is_err_and c.from_residual-in_err-leave_entries.result c.from_residual-in_err-leave_entries.ensures.1 in
    rw (p.1 ∙ ap Err p.2) (record {
      salvaged = tt;
      refused = not_bared _ _ halves.geometry halves.current (g.D.Device.past_of c.open.new.device).disk.content _ _ _ c.in_ok-halves.ensures.opened
          c.in_ok-halves.ensures.quiet (ap (λ (d : Disk). d.content) c.open.ensures.reads.disk) c.in_err-leave_entries.ensures.refused;
      quiet = tt;
    })

pub returns-in_err-lost : goal.returns-in_err-lost
returns-in_err-lost g c =
    let h = g.D.Device.past_of in
    let halves = c.in_ok-halves.halves in
    let bare : CrashState = (h c.leave_entries.new.device).disk.content in
    let p = err_from_is_err_and c.from_residual-in_err-lost.result c.from_residual-in_err-lost.ensures.1 in
    rw (p.1 ∙ ap Err p.2) (record {
      salvaged = tt;
      refused = not_blanked _ _ halves.geometry halves.current bare _ _ _ c.in_ok-halves.ensures.opened
          (c.in_ok-leave_entries.ensures.quiet ∙ c.in_ok-halves.ensures.quiet)
          (subst (λ (d : Disk). IsUnindexed halves.geometry halves.current d.content bare) c.open.ensures.reads.disk c.in_ok-leave_entries.ensures.done)
          c.in_err-lost.ensures.refused;
      quiet = tt;
    })

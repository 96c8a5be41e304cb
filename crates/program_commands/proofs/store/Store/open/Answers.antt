use Rattle.std.proofs.Common.{sym, subst}
use Rattle.std.proofs.lemmas.Result.{err_from_is_err_and}
use Rattle.record_values.specs.declared.error.Error.{Error}
use Rattle.program_commands.specs.Store.{IsRefusedOn}
use Rattle.program_commands.proofs.store.Store.open.Goals as goal

pub returns-in_err-engine : goal.returns-in_err-engine
returns-in_err-engine g c =
    let p = err_from_is_err_and c.from_residual.result c.from_residual.ensures.1 in
    rw p.1 (subst (λ (r : Error × g.row.D.Denot). IsRefusedOn g.D.Device.past_of g.D.Device.failures c.args.device r.1 r.0) (sym p.2)
    (record { not_opened = c.in_err-engine.ensures.refused; readable = c.in_err-engine.ensures.readable }))

pub returns : goal.returns
returns g c = record { opened = c.in_ok-engine.ensures.opened; recovers = c.in_ok-engine.ensures.recovers }

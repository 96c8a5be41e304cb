use Rattle.std.proofs.Common.{refl, arith}
use Rattle.std.proofs.lemmas.List.{take_at, take_all}
use Rattle.std.proofs.lemmas.Result.{err_from_is_err_and}
use Rattle.records.proofs.encode.put_byte.Goals as goal

pub returns : goal.returns
returns g c =
    let items = c.in_ok-push.ensures.items in
    record { ok = items; kept = rw items (take_at c.args.out.now.items _ _ refl) }

pub returns-in_err-push : goal.returns-in_err-push
returns-in_err-push g c =
    let items = c.in_err-push.ensures.items in
    rw (err_from_is_err_and c.from_residual.result c.from_residual.ensures.1).1
    (record { ok = tt; kept = rw items (take_all _ c.args.out.now.items (omega arith)) })

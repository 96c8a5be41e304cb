use Rattle.nsf_c.proofs.Opened.{ok_and, ok_map, err_map, unmade_on}
use Rattle.nsf_c.proofs.opening.make.Goals as goal

pub returns-clause-ok : goal.returns-clause-ok
returns-clause-ok c = ok_map c.open_on.result
    (λ held opens. record { disk = c.in_ok-disk.disk; is_disk = c.in_ok-disk.ensures.ok; opens = opens.0; sound = opens.1 })
    (ok_and _ _ c.open_on.result c.open_on.ensures.ok c.open_on.ensures.sound)

pub returns-clause-err : goal.returns-clause-err
returns-clause-err c =
    err_map c.open_on.result (unmade_on c.args.geometry c.in_ok-disk.disk c.in_ok-disk.ensures.ok) c.open_on.ensures.err

use Rattle.nsf_c.specs.Calls.{Is, IsDisk}
use Rattle.nsf_c.proofs.Opened.{ok_and, ok_map, err_map, unopened_on}
use Rattle.nsf_c.proofs.opening.open_sectors.Goals as goal

held_as : (c : goal.After-open_on) → IsDisk (Is c.args.sectors.now) c.in-Ok.disk
held_as c = record {
  content = c.in-Ok.ensures.content;
  synced = c.in-Ok.ensures.synced;
  failures = c.in-Ok.ensures.failures;
}

pub returns-clause-ok : goal.returns-clause-ok
returns-clause-ok c = ok_map c.open_on.result (λ held opens. record { disk = c.in-Ok.disk; is_disk = held_as c; opens = opens.0; sound = opens.1 })
    (ok_and _ _ c.open_on.result c.open_on.ensures.ok c.open_on.ensures.sound)

pub returns-clause-err : goal.returns-clause-err
returns-clause-err c = err_map c.open_on.result (unopened_on (Is c.args.sectors.now) c.in-Ok.disk (held_as c)) c.open_on.ensures.err

use Rattle.std.proofs.Common.{sym, subst}
use Rattle.sector_device.specs.Disk.{IsSynced}
use Rattle.store_reader.specs.Contents.{Gives}
use Rattle.restart.specs.Migrating.{WritesTheStoreAlone}
use Rattle.store_moving.proofs.old.move_disk.Goals as goal

pub returns-clause-moved : goal.returns-clause-moved
returns-clause-moved g c =
    let past_of = g.N.Device.past_of in
    let is = c.in_ok-engine.ensures.migrated in
    let now = sym c.into_device.ensures.device in
    record {
      geometry = is.opened.geometry;
      given = is.opened.given;
      gave = is.gave;
      gives = subst (λ d. Gives (past_of d).disk.content is.opened.geometry is.opened.given) now is.opened.gives;
      synced = subst (λ d. IsSynced (past_of d).disk) now is.opened.synced;
    }

pub returns-clause-around : goal.returns-clause-around
returns-clause-around g c =
    subst (WritesTheStoreAlone (g.O.Device.past_of c.args.old.now).disk.content g.N.Device.past_of c.args.new)
    (sym c.into_device.ensures.device) c.in_ok-engine.ensures.around

use Rattle.std.proofs.Common.{ap, refl}
use Rattle.restart.specs.History.{asked}
use Rattle.restart.specs.declared.event.Event.TheVariants as event
use Rattle.restart.proofs.Answered.{as_asked}
use Rattle.restart.proofs.parts.EngineParts.ask_core.Goals as goal

pub returns-in-Begin-clause-some : goal.returns-in-Begin-clause-some
returns-in-Begin-clause-some g c = as_asked c.args.event event.Begin c.begin.result c.args.self.now c.begin.new.self c.in-Begin.is c.begin.ensures

pub returns-in-Insert-clause-some : goal.returns-in-Insert-clause-some
returns-in-Insert-clause-some g c = as_asked c.args.event
    (event.Insert c.in-Insert.txn c.in-Insert.key c.in-Insert.body) c.insert.result c.args.self.now c.insert.new.self c.in-Insert.is c.insert.ensures

pub returns-in-Delete-clause-some : goal.returns-in-Delete-clause-some
returns-in-Delete-clause-some g c = as_asked c.args.event
    (event.Delete c.in-Delete.txn c.in-Delete.rid) c.delete.result c.args.self.now c.delete.new.self c.in-Delete.is c.delete.ensures

pub returns-in-Update-clause-some : goal.returns-in-Update-clause-some
returns-in-Update-clause-some g c = as_asked c.args.event
    (event.Update c.in-Update.txn c.in-Update.rid c.in-Update.key c.in-Update.body) c.update.result c.args.self.now c.update.new.self c.in-Update.is
    c.update.ensures

pub returns-in-Step-clause-some : goal.returns-in-Step-clause-some
returns-in-Step-clause-some g c = as_asked c.args.event
    (event.Step c.in-Step.txn) c.owed_step.result c.args.self.now c.owed_step.new.self c.in-Step.is c.owed_step.ensures

pub returns-in-Undo-clause-some : goal.returns-in-Undo-clause-some
returns-in-Undo-clause-some g c = as_asked c.args.event (event.Undo c.in-Undo.txn) c.undo.result c.args.self.now c.undo.new.self c.in-Undo.is c.undo.ensures

pub returns-in-End-clause-some : goal.returns-in-End-clause-some
returns-in-End-clause-some g c = as_asked c.args.event (event.End c.in-End.txn) c.end.result c.args.self.now c.end.new.self c.in-End.is c.end.ensures

pub returns-in-Commit-clause-some : goal.returns-in-Commit-clause-some
returns-in-Commit-clause-some g c = as_asked c.args.event
    (event.Commit c.in-Commit.txn) c.commit.result c.args.self.now c.commit.new.self c.in-Commit.is c.commit.ensures

pub returns-in-Create-clause-some : goal.returns-in-Create-clause-some
returns-in-Create-clause-some g c = as_asked c.args.event event.Create c.create.result c.args.self.now c.create.new.self c.in-Create.is c.create.ensures

pub returns-in-Drop-clause-some : goal.returns-in-Drop-clause-some
returns-in-Drop-clause-some g c = as_asked c.args.event event.Drop c.drop_index.result c.args.self.now c.drop_index.new.self c.in-Drop.is c.drop_index.ensures

pub returns-in-Build-clause-some : goal.returns-in-Build-clause-some
returns-in-Build-clause-some g c = as_asked c.args.event event.Build c.build.result c.args.self.now c.build.new.self c.in-Build.is c.build.ensures

pub returns-in-Clean-clause-some : goal.returns-in-Clean-clause-some
returns-in-Clean-clause-some g c = as_asked c.args.event event.Clean c.clean.result c.args.self.now c.clean.new.self c.in-Clean.is c.clean.ensures

pub returns-in-Flush-clause-none : goal.returns-in-Flush-clause-none
returns-in-Flush-clause-none g c = (ap asked c.in-Flush.is, refl)

pub returns-in-Copy-clause-none : goal.returns-in-Copy-clause-none
returns-in-Copy-clause-none g c = (ap asked c.in-Copy.is, refl)

pub returns-in-Get-clause-some : goal.returns-in-Get-clause-some
returns-in-Get-clause-some g c = as_asked c.args.event (event.Get c.in-Get.rid) c.get.result c.args.self.now c.args.self.now c.in-Get.is c.get.ensures

pub returns-in-Find-clause-some : goal.returns-in-Find-clause-some
returns-in-Find-clause-some g c = as_asked c.args.event (event.Find c.in-Find.key) c.find.result c.args.self.now c.args.self.now c.in-Find.is c.find.ensures

pub returns-in-Life-clause-some : goal.returns-in-Life-clause-some
returns-in-Life-clause-some g c = as_asked c.args.event event.Life c.life.result c.args.self.now c.args.self.now c.in-Life.is c.life.ensures

use Rattle.std.proofs.Common.{false, None, refl}
use Rattle.store_writer.specs.declared.copying.Copying.TheVariants.{Idle}
use Rattle.store_writer.specs.declared.writer.Writer.{Writer}
use Rattle.store_writer.specs.Writer.{opened_run}
use Rattle.store_writer.proofs.Opening.{opened_writer}
use Rattle.store_writer.proofs.store.StoreWriter.new.Goals as goal

pub returns-clause-writer : goal.returns-clause-writer
returns-clause-writer g c = λ cells is.
    let w : Writer g.row.D.Denot g.row.A.Denot = record {
      device = c.args.device;
      halves = c.args.halves;
      log = c.args.log;
      waiting = c.new.result;
      synced = c.args.synced;
      image = None;
      copying = Idle;
      known = c.new-2.result;
      failed = false;
    } in
    opened_writer g.D.Device.past_of cells w is c.new.ensures refl refl c.new-2.ensures.changed c.new-2.ensures.current c.new-2.ensures.other

pub invariant_of-result : goal.invariant_of-result
invariant_of-result g c = let (cells, is) = c.requires in (opened_run c.args.halves c.args.synced cells, c.args.synced, returns-clause-writer g c cells is)

pub returns-clause-knows : goal.returns-clause-knows
returns-clause-knows g c = (c.new-2.ensures.changed, c.new-2.ensures.current, c.new-2.ensures.other)

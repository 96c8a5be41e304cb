use Rattle.std.proofs.Common.{ap, ◌∙◌, refl, sym}
use Rattle.model.specs.declared.write.Write.{Write}
use Rattle.nsf_core.specs.Value.{value_of}
use Rattle.threads_sessions.specs.Steps.{row_now}
use Rattle.threads_sessions.proofs.Lists.{row_read, rows_read}
use Rattle.threads_sessions.proofs.active.read_again.Goals as goal

pub loop-i-preserved : goal.loop-i-preserved
loop-i-preserved g c =
    let core = value_of c.args.core.now in
    let place = ap (λ (w : Write). w.rid) c.row_now.ensures in record {
      same = row_read core c.loop-i.rows.items c.loop-i.i c.row_now.result c.index.result.now (ap (row_now core) place
          ∙ ap (λ (w : Write). row_now core w.rid) c.index.ensures) ∙ c.loop-i.invariant.same;
      read = rows_read core c.loop-i.rows.items c.loop-i.i _ c.row_now.result refl (c.row_now.ensures ∙ ap (row_now core) (sym place)) c.loop-i.invariant.read;
    }

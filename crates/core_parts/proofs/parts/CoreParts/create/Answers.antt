use Rattle.std.proofs.Common.{None, ap, ◌∙◌}
use Rattle.std.proofs.lemmas.Result.{err_from_is_err_and}
use Rattle.sorted_scan.specs.Scans.{ScanValue, begun}
use Rattle.core_parts.specs.Parts.{parts_of}
use Rattle.core_parts.specs.View.{CoreValue}
use Rattle.core_parts.proofs.Building.{run_begun}
use Rattle.core_parts.proofs.parts.CoreParts.create.Goals as goal

pub returns-in_err-ticket : goal.returns-in_err-ticket
returns-in_err-ticket g c =
    let p = err_from_is_err_and c.from_residual.result c.from_residual.ensures.1 in
    let e = c.in_err-ticket.ensures in
    rw (p.1, p.2) (record { ok = tt; run = tt; left = tt; ticket = tt; no_commit = tt; refused = e.refused; unchanged = e.unchanged })

pub returns : goal.returns
returns g c =
    let e = c.in_ok-ticket.ensures in
    record {
      ok = ap (λ (s : ScanValue). record (parts_of c.turn.new.self) { scan = s; tried = 0 }) (c.new.ensures.made ∙ ap (begun None) c.pages.ensures.number)
          ∙ ap (λ (w : CoreValue). record w { scan = begun None w.heap.pages; tried = 0 }) e.ok;
      run = run_begun _ _ _ c.new.ensures.made (c.pages.ensures.number ∙ ap (λ (w : CoreValue). w.heap.pages) e.ok) c.new.ensures.run;
      left = e.left;
      ticket = e.ticket;
      no_commit = e.no_commit;
      refused = tt;
      unchanged = tt;
    }

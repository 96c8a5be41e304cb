use Rattle.std.proofs.Common.{None, ap, ◌∙◌}
use Rattle.std.proofs.lemmas.Result.{err_from_is_err_and}
use Rattle.std.specs.FinMap as map
use Rattle.marked_index.specs.Index.{IndexValue}
use Rattle.sorted_scan.specs.Scans.{ScanValue, begun}
use Rattle.core_parts.specs.Parts.{parts_of}
use Rattle.core_parts.specs.View.{CoreValue}
use Rattle.core_parts.proofs.Building.{run_begun}
use Rattle.core_parts.proofs.parts.CoreParts.take_away.Goals as goal

pub returns-in_err-ticket : goal.returns-in_err-ticket
returns-in_err-ticket g c =
    let p = err_from_is_err_and c.from_residual.result c.from_residual.ensures.1 in
    let e = c.in_err-ticket.ensures in
    rw (p.1, p.2) (record { ok = tt; run = tt; left = tt; ticket = tt; no_commit = tt; taken = tt; refused = e.refused; unchanged = e.unchanged })

pub returns : goal.returns
returns g c =
    let e = c.in_ok-ticket.ensures in
    let w = parts_of c.turn.new.self in
    record {
      ok = ap (λ (i : IndexValue). record w { index = i; scan = c.new.result; cleaned = None; tried = 0 }) c.clear-entries.ensures.cleared
          ∙ ap (λ (s : ScanValue). record w { index = record w.index { entries = map.empty }; scan = s; cleaned = None; tried = 0 })
          (c.new.ensures.made ∙ ap (begun None) c.pages.ensures.number)
          ∙ ap (λ (x : CoreValue). record x { index = record x.index { entries = map.empty }; scan = begun None x.heap.pages; cleaned = None; tried = 0 }) e.ok;
      run = run_begun _ _ _ c.new.ensures.made (c.pages.ensures.number ∙ ap (λ (x : CoreValue). x.heap.pages) e.ok) c.new.ensures.run;
      left = e.left;
      ticket = e.ticket;
      no_commit = e.no_commit;
      taken = c.clear-entries.ensures.taken ∙ ap (λ (x : CoreValue). x.index.entries) e.ok;
      refused = tt;
      unchanged = tt;
    }

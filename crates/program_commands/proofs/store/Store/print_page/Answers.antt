use Rattle.std.proofs.Common.{Result, sym, subst, refl}
use Rattle.std.specs.Io.KnownBytes.{Appends}
use Rattle.std.specs.declared.alloc.Global.{Global}
use Rattle.record_values.specs.declared.error.Error.{Error}
use Rattle.core_scan.specs.declared.reading.Page.{Page}
use Rattle.program_commands.specs.Pages.{page_text, printed}
use Rattle.program_commands.proofs.store.Store.print_page.Goals as goal

pub returns-in_ok-print_lines-in-Ok : goal.returns-in_ok-print_lines-in-Ok
returns-in_ok-print_lines-in-Ok g c =
    let contents = g.W.Write.contents in
    record {
      page = c.page_of.result;
      is_page = c.page_of.ensures;
      prints = subst (λ (r : Result (Page Global) Error). Appends (contents c.args.output.now) (contents c.print_lines.new.output) (printed page_text r))
          (sym c.in-Ok.is) c.in_ok-print_lines-in-Ok.ensures;
      came = rw c.in-Ok.is refl;
    }

pub returns-in_ok-print_refusal-in-Err : goal.returns-in_ok-print_refusal-in-Err
returns-in_ok-print_refusal-in-Err g c =
    let contents = g.W.Write.contents in
    record {
      page = c.page_of.result;
      is_page = c.page_of.ensures;
      prints = subst (λ (r : Result (Page Global) Error). Appends (contents c.args.output.now) (contents c.print_refusal.new.output) (printed page_text r))
          (sym c.in-Err.is) c.in_ok-print_refusal-in-Err.ensures;
      came = rw c.in-Err.is refl;
    }

use Rattle.std.proofs.Common.{List, subst}
use Rattle.std.specs.Io.KnownBytes.{Appends}
use Rattle.std.proofs.KnownBytes.{Appends-trans}
use Rattle.std.proofs.lemmas.Result.{on_ok_weaker}
use Rattle.record_values.specs.declared.pair.Pair.{Pair}
use Rattle.program_commands.specs.Pages.{end_line, pair_lines}
use Rattle.program_commands.proofs.pages.print_lines.Goals as goal

pub returns : goal.returns
returns g c =
    let contents = g.W.Write.contents in
    let page = c.args.page.now in
    let pairs : Appends (contents c.args.output.now) (contents c.print_pairs.new.output) (pair_lines page.pairs.items) =
    subst (λ (ps : List Pair). Appends (contents c.args.output.now) (contents c.print_pairs.new.output) (pair_lines ps)) c.as_slice.ensures.value
    c.in_ok-print_pairs.ensures in
    on_ok_weaker c.print_end.result (λ printed.
    Appends-trans (contents c.args.output.now) (contents c.print_pairs.new.output) (contents c.print_end.new.output) (pair_lines page.pairs.items)
    (end_line page.next) pairs printed) c.print_end.ensures

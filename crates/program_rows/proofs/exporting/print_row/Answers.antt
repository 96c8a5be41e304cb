use Rattle.std.proofs.Common.{◌∙◌, List, Option, [], subst, sym, ℕ}
use Rattle.std.specs.Io.KnownBytes.{Appends}
use Rattle.std.specs.Option.{option_map_or}
use Rattle.record_values.specs.declared.row.Row.{Row}
use Rattle.program_rows.specs.Exported.{line_by}
use Rattle.program_rows.proofs.exporting.print_row.Goals as goal

pub returns-clause-printed : goal.returns-clause-printed
returns-clause-printed g c =
    let contents = g.W.Write.contents in
    let printed = subst (λ (bytes : List ℕ). Appends (contents c.args.output.now) (contents c.write_all.new.self) bytes)
    (c.as_slice.ensures.value ∙ c.in_ok-line.ensures.text) c.in_ok-write_all.ensures.bytes in
    subst (λ (o : Option Row). Appends (contents c.args.output.now) (contents c.write_all.new.self) (option_map_or (line_by c.args.format) o []))
    (sym c.in-Some.is ∙ c.get.ensures.row) printed

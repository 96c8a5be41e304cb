use Rattle.std.proofs.Common.{◌∙◌, List, subst, ℕ}
use Rattle.std.specs.Io.KnownBytes.{Appends}
use Rattle.program_rows.proofs.exporting.print_header.Goals as goal

pub returns-clause-printed : goal.returns-clause-printed
returns-clause-printed g c =
    let contents = g.W.Write.contents in
    subst (λ (bytes : List ℕ). Appends (contents c.args.output.now) (contents c.write_all.new.self) bytes)
    (c.as_slice.ensures.value ∙ c.in_ok-line.ensures.text) c.in_ok-write_all.ensures.bytes

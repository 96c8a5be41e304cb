use Rattle.std.proofs.KnownBytes.{Appends-trans}
use Rattle.nsf_core.specs.Value.{value_of}
use Rattle.program_rows.specs.Exported.{visible_records}
use Rattle.program_rows.specs.Rows.{own_header}
use Rattle.program_rows.specs.declared.exporting.Format.TheVariants.{Fields}
use Rattle.program_rows.proofs.Outcomes.{on_ok_map}
use Rattle.program_rows.proofs.exporting.export_by_key.Goals as goal

pub returns-clause-printed : goal.returns-clause-printed
returns-clause-printed g c =
    let contents = g.W.Write.contents in
    on_ok_map c.print_visible.result _ _ c.print_visible.ensures.printed (λ printed.
    Appends-trans (contents c.args.output.now) (contents c.print_header.new.output) (contents c.print_visible.new.output) own_header
    (visible_records Fields (value_of c.args.core.now)) c.in_ok-print_header.ensures.printed printed)

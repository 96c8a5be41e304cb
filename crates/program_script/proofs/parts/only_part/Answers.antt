use Rattle.program_script.proofs.Cuts.{not_only}
use Rattle.program_script.proofs.parts.only_part.Goals as goal

pub returns-in_default-Some : goal.returns-in_default-Some
returns-in_default-Some c =
    rw c.in_ok-rest.was (rw c.cut_at.ensures (rw c.in_default-Some.is-1 (not_only c.cut_at.result.0.now c.args.separator c.in_default-Some.field-0-1.now)))

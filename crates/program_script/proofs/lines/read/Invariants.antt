use Rattle.std.proofs.Common.{◌-◌}
use Rattle.std.specs.Option.{option_map}
use Rattle.program_script.specs.declared.lines.TheConstants.{LINES_MAX}
use Rattle.program_script.specs.Grammar.{lines}
use Rattle.program_script.specs.Reading.{parts_left}
use Rattle.program_script.proofs.Scripts.{HasRead}
use Rattle.program_script.proofs.lines.read.Given as goal

abbrev pub invariant-loop-rest : goal.invariant-loop-rest
invariant-loop-rest l = HasRead (lines l.fn.text) l.done (parts_left 10 (option_map (λ r. r.now) l.rest)) l.commands.items

abbrev pub decreases-loop-rest : goal.decreases-loop-rest
decreases-loop-rest l = LINES_MAX - l.done

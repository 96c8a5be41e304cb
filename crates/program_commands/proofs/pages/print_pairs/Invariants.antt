use Rattle.std.proofs.Common.{take}
use Rattle.std.specs.Io.KnownBytes.{Appends}
use Rattle.program_commands.specs.Pages.{pair_lines}
use Rattle.program_commands.proofs.pages.print_pairs.Given as goal

-- the pairs so far are printed
abbrev pub invariant-loop-pair : goal.invariant-loop-pair
invariant-loop-pair g l = Appends (g.W.Write.contents l.initial.output) (g.W.Write.contents l.output) (pair_lines (take l.pair-index l.pairs))

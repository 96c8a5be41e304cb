use Rattle.std.proofs.Common.{◌≤◌, take}
use Rattle.program_player.specs.Inputs.{feeds_in}
use Rattle.program_player.proofs.input.has_many_lines.Given as goal

abbrev pub invariant-loop-byte : goal.invariant-loop-byte
invariant-loop-byte l = l.feeds ≤ feeds_in (take l.byte-index l.text)

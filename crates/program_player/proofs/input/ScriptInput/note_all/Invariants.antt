use Rattle.std.proofs.Common.{◌≡◌}
use Rattle.program_player.proofs.input.ScriptInput.note_all.Given as goal

abbrev pub invariant-loop-byte : goal.invariant-loop-byte
invariant-loop-byte g l = l.self.source ≡ l.fn.self.source

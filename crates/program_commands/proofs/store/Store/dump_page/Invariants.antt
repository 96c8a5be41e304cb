use Rattle.std.specs.Io.KnownBytes.{Appends}
use Rattle.program_commands.specs.Store.{rows_of}
use Rattle.program_commands.specs.Dump.{slot_lines}
use Rattle.program_commands.proofs.store.Store.dump_page.Given as goal

-- the slots so far are printed
abbrev pub invariant-loop-slot : goal.invariant-loop-slot
invariant-loop-slot g l = Appends (g.W.Write.contents l.initial.output) (g.W.Write.contents l.output) (slot_lines (rows_of l.self) l.page l.slot)

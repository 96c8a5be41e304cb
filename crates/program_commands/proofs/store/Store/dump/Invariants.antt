use Rattle.std.specs.Io.KnownBytes.{Appends}
use Rattle.program_commands.specs.Store.{rows_of}
use Rattle.program_commands.specs.Dump.{page_lines}
use Rattle.program_commands.proofs.store.Store.dump.Given as goal

-- the pages so far are printed
abbrev pub invariant-loop-page : goal.invariant-loop-page
invariant-loop-page g l = Appends (g.W.Write.contents l.initial.output) (g.W.Write.contents l.output) (page_lines (rows_of l.self) l.page)

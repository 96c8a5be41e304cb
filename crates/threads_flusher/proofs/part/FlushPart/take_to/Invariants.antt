use Rattle.std.proofs.Common.{◌≡◌, ◌++◌, List}
use Rattle.records.specs.RecordValue.{RecordValue}
use Rattle.threads_flusher.proofs.part.FlushPart.take_to.Given as goal

abbrev pub invariant-loop : goal.invariant-loop
invariant-loop g l = (more : List RecordValue) × (l.self ≡ record l.fn.self { held = l.fn.self.held ++ more })

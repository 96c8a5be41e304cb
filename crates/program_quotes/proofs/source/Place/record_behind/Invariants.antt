use Rattle.std.proofs.Common.{◌≡◌, take}
use Rattle.std.specs.Prelude.{fold}
use Rattle.program_quotes.specs.Quotes.{counted_then}
use Rattle.program_quotes.proofs.source.Place.record_behind.Given as goal

abbrev pub invariant-loop-byte : goal.invariant-loop-byte
invariant-loop-byte l = (l.place, l.record) ≡ fold counted_then (l.fn.self, l.fn.before) (take l.byte-index l.bytes)

use Rattle.std.proofs.Common.{◌≡◌, take}
use Rattle.program_quotes.specs.Quotes.{place_after}
use Rattle.program_quotes.proofs.source.Place.behind.Given as goal

abbrev pub invariant-loop-byte : goal.invariant-loop-byte
invariant-loop-byte l = l.place ≡ place_after l.fn.self (take l.byte-index l.bytes)

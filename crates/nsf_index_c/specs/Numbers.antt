-- What calls answer.
use Rattle.std.specs.Prelude.{ℕ, Result, Ok, Err}
use Rattle.record_values.specs.Refusals.{number_of}
use Rattle.record_values.specs.declared.error.Error.{Error}

-- 0, or the number of the refusal
abbrev pub status_of : Result (Unit {0}) Error → ℕ
status_of (Ok done) = 0
status_of (Err e) = number_of e

use Rattle.std.proofs.Common.{◌≡◌, ◌<◌, ℕ, List, Some, false}
use Rattle.std.specs.Prelude.{slice_get}
use Rattle.threads_sessions.specs.Values.{CommitValue}
use Rattle.threads_lifetime.specs.Gathered.{heads_with, lists_of}
use Rattle.threads_lifetime.proofs.gather.find_next.Given as goal

abbrev pub invariant-loop-k : goal.invariant-loop-k
invariant-loop-k g l = (j : ℕ) (list : List CommitValue) → j < l.k → slice_get (lists_of l.lists) j ≡ Some list → heads_with l.number list ≡ false

use Rattle.std.proofs.Common.{◌≡◌, ◌+◌, ℕ, length, vec_len}
use Rattle.threads_register.specs.Register.{AreAllCommits}
use Rattle.threads_sessions.specs.Values.{SessionValue}
use Rattle.std.specs.Prelude.{List}
use Rattle.threads_lifetime.specs.Gathered.{commits_of, lists_of}
use Rattle.threads_lifetime.proofs.Gathering.{Gathers}
use Rattle.threads_lifetime.proofs.gather.gather.Given as goal

abbrev pub invariant-loop : goal.invariant-loop
invariant-loop g l =
    (book : List SessionValue) (count : ℕ) → lists_of l.fn.lists.items ≡ commits_of book → (all : AreAllCommits book count)
    → Gathers (length (lists_of l.lists.items)) (vec_len l.gathered + 1) (lists_of l.lists.items) l.gathered.items all.commits

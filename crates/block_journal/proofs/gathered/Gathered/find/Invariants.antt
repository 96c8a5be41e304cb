use Rattle.std.proofs.Common.{◌≡◌, ℕ, ◌-◌, ◌<◌, ◌≤◌, slice_index}
use Rattle.block_journal.proofs.gathered.Gathered.find.Given as goal

abbrev pub invariant-loop-k : goal.invariant-loop-k
invariant-loop-k g l = (j : ℕ) → l.self.count - l.k ≤ j → j < l.self.count → slice_index l.self.places j ≡ l.place → ⊥

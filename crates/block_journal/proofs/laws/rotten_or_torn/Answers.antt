use Rattle.std.proofs.Common.{◌≡◌, ℕ, ◌+◌, ◌<◌, ◌≤◌, true, ◌||◌, length, sym, ◌∙◌, ap, arith}
use Rattle.std.proofs.lemmas.Bool.{false≢true}
use Rattle.std.proofs.lemmas.Bool.Decides.{nat_tests}
use Rattle.block_device.specs.Blocks.{is_in_run}
use Rattle.block_journal.proofs.laws.rotten_or_torn.Goals as goal

in_run : (first count n : ℕ) → first ≤ n → n < first + count → is_in_run first count n ≡ true
in_run first count n from below = grind (arith, nat_tests)

pub returns : goal.returns
returns c file first run rotten same whole = record {
  size = same.size;
  kept = λ n tight. same.same n
      (λ within. false≢true (sym tight ∙ ap (λ b. b || file.loose n) (in_run first (length run) n within.0 within.1)));
  torn = λ n below loose. whole n below;
}

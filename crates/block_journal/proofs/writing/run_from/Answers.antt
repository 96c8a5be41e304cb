use Rattle.std.proofs.Common.{◌≡◌, ◌⊎◌, inl, inr, ℕ, ◌+◌, ◌-◌, ◌<◌, ◌≤◌, List, slice_index, sym, ◌∙◌, ap, subst, arith}
use Rattle.std.proofs.lemmas.Bool.{cases_eq}
use Rattle.block_batch.specs.Batch.{IsPlace}
use Rattle.block_journal.specs.Gathered.{entries_of}
use Rattle.block_journal.proofs.writing.run_from.Goals as goal

run_longer : (places : List ℕ) (i k : ℕ) → i ≤ k → ((j : ℕ) → j < k - i → slice_index places (i + j) ≡ slice_index places i + j)
    → slice_index places k ≡ slice_index places i + (k - i) → (j : ℕ) → j < k + 1 - i → slice_index places (i + j) ≡ slice_index places i + j
run_longer places i k from so_far here j below = elim (cases_eq j (k - i)) [
  | inl same ↦
      let at : i + j ≡ k = omega (arith, from, same) in
      ap (slice_index places) at ∙ here ∙ ap (λ n. slice_index places i + n) (sym same)
  | inr other ↦ so_far j (omega (arith, below, other))
]

pub loop-k-init : goal.loop-k-init
loop-k-init g c = record {
  from = omega arith;
  low = omega arith;
  run = λ j below. omega (arith, below);
  kept = λ some. omega (arith, some);
}

pub loop-k-preserved : goal.loop-k-preserved
loop-k-preserved g c =
    let so_far = c.loop-k.invariant in
    let here = c.goes_on.ensures.here c.if-not-goes_on.false in
    record {
      from = omega arith;
      low = omega arith;
      run = run_longer c.args.last.now.places c.args.i c.loop-k.k so_far.from so_far.run here;
      kept = λ some. omega (arith, so_far.from, here, c.goes_on.ensures.kept c.if-not-goes_on.false);
    }

pub returns-then-not-goes_on : goal.returns-then-not-goes_on
returns-then-not-goes_on g c =
    let so_far = c.loop-k.invariant in
    let places = c.args.last.now.places in
    record {
      low = omega arith;
      run = so_far.run;
      kept = λ some. so_far.kept (omega (arith, some));
      passed = λ none.
          let at : c.loop-k.k ≡ c.args.i = omega (arith, none, so_far.from) in
          subst (λ (k : ℕ). (c.args.shape.kept ≤ slice_index places k) ⊎ IsPlace (entries_of c.args.next.now) (slice_index places k)) at
          (c.goes_on.ensures.passed c.if-not-goes_on.true (ap (slice_index places) at ∙ omega (arith, none)));
    }

pub returns : goal.returns
returns g c =
    let so_far = c.loop-k.invariant in
    let end : c.loop-k.k ≡ c.args.last.now.count = omega arith in
    record {
      low = omega arith;
      run = λ k below. so_far.run k (omega (arith, below, end));
      kept = λ some. omega (arith, end, so_far.kept (omega (arith, some, end)));
      passed = λ none. inl (omega (arith, none, c.requires.low));
    }

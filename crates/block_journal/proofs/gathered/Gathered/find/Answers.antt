use Rattle.std.proofs.Common.{⊎_elim, ◌-◌, slice_index, sym, ◌∙◌, ap, arith}
use Rattle.std.proofs.lemmas.Bool.{cases_eq}
use Rattle.block_journal.proofs.gathered.Gathered.find.Goals as goal

pub loop-k-preserved : goal.loop-k-preserved
loop-k-preserved g c = λ j from below same. ⊎_elim
    (λ is. c.if-here-place.false (sym (ap (slice_index c.args.self.now.places) is) ∙ same))
    (λ other. c.loop-k.invariant j (omega (arith, from, other)) below same)
    (cases_eq j (c.args.self.now.count - 1 - c.loop-k.k))

pub returns-then-here-place : goal.returns-then-here-place
returns-then-here-place g c = record {
  found = record {
    low = omega arith;
    here = c.if-here-place.true;
    behind = λ k above below. c.loop-k.invariant k (omega (arith, above)) below;
  };
  none = tt;
}

pub returns : goal.returns
returns g c = record { found = tt; none = λ k below. c.loop-k.invariant k (omega (arith, below)) below }

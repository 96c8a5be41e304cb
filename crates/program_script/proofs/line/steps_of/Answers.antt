use Rattle.std.proofs.Common.{ℕ, List, Option, ap}
use Rattle.program_script.specs.Reading.{◌>>=◌, count_at, steps_at}
use Rattle.program_script.proofs.Cuts.{not_only}
use Rattle.program_script.proofs.line.steps_of.Goals as goal

pub returns-in-Some-more : goal.returns-in-Some-more
unfolding steps_at
returns-in-Some-more c =
    rw c.in-Some.is (rw c.cut_at.ensures (rw c.in-Some-more.is
    (ap (λ (word : Option (List ℕ)). word >>= count_at) (not_only c.cut_at.result.0.now 32 c.in-Some-more.field-0.now))))

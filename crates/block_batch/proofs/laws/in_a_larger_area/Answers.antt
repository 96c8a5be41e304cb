use Rattle.block_batch.proofs.Larger.{larger_has, larger_same}
use Rattle.block_batch.proofs.laws.in_a_larger_area.Goals as goal

pub returns-clause-has : goal.returns-clause-has
returns-clause-has c = λ area other le same is. larger_has area other le same is

pub returns-clause-same : goal.returns-clause-same
returns-clause-same c = λ area other le same. larger_same area other le same

use Rattle.threads_lifetime.proofs.Again.{gives_soundly}
use Rattle.threads_lifetime.proofs.openable.left_by_a_run.Goals as goal

pub returns : goal.returns
returns g c past floor image left = ∣ gives_soundly image past.geometry left.given left.gives left.opens ∣₁

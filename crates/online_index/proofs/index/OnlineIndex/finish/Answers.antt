use Rattle.std.proofs.Common.{refl, subst, sym}
use Rattle.online_index.proofs.StandingLemmas.{finish_made}
use Rattle.online_index.proofs.index.OnlineIndex.finish.Goals as goal
use Rattle.online_index.specs.Standing.{StandsFor}
use Rattle.online_index.specs.Value.{IndexValue}
use Rattle.online_model.specs.World.{Finish, after}
use Rattle.online_model.specs.declared.life.Life.TheVariants.{Complete}

pub returns-clause-made : goal.returns-clause-made
returns-clause-made g c = λ w h.
    let made = finish_made c.args.self.now c.requires.building w h (c.requires.end h.run h.made) in
    (made.0, subst (λ (v : IndexValue). StandsFor (record v { life = Complete }) (after w Finish)) (sym c.self.view_is) made.1, refl)

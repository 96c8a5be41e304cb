use Rattle.std.proofs.Common.{ap, ◌∙◌}
use Rattle.threads_sessions.specs.Values.{SessionValue}
use Rattle.std.proofs.lemmas.List.{reverse-reverse}
use Rattle.std.specs.Prelude.{reverse}
use Rattle.threads_lifetime.proofs.gather.reversed.Goals as goal

pub returns : goal.returns
returns g c =
    ap reverse c.reverse.ensures.items
    ∙ (reverse-reverse _ ∙ (c.in-Some.ensures.commits ∙ ap (λ (s : SessionValue). s.commits) c.into_session.ensures))

use Rattle.std.proofs.Common.{ap, refl, sym, ◌∙◌}
use Rattle.online_plan.specs.declared.builder.Due.TheVariants as due
use Rattle.online_plan.proofs.Following.{recorded_by, same_due}
use Rattle.online_plan.proofs.builder.Builder.recorded.Goals as goal

pub returns-in-Life-clause-made : goal.returns-in-Life-clause-made
returns-in-Life-clause-made g c = λ life now w f.
    let is = same_due (sym c.in-Life.is ∙ c.due_now.ensures.due ∙ now) in
    recorded_by _ _ _ life (sym c.self.view_is) now refl refl is (λ e. c.due_now.ensures.end (c.in-Life.is ∙ ap due.Life (is ∙ e))) w f

use Rattle.std.proofs.Common.{refl, rules, sym, ◌∙◌}
use Rattle.online_plan.proofs.Following.{gather_follows}
use Rattle.online_plan.proofs.builder.Builder.gather_one.Goals as goal

pub returns-clause-follows : goal.returns-clause-follows
returns-clause-follows g c = gather_follows _ _ _ c.in-Some.pair c.hand_out.result (sym c.self.view_is) c.requires.building c.in-Some.ensures.next
    (c.hand_out.ensures.pair ∙ sym c.next.ensures.pair ∙ c.in-Some.is) c.hand_out.ensures.run c.hand_out.ensures.place (search rules) refl

use Rattle.std.proofs.Common.{refl, sym}
use Rattle.online_plan.proofs.Following.{take_follows}
use Rattle.online_plan.proofs.builder.Builder.take_page.Goals as goal

pub returns-clause-follows : goal.returns-clause-follows
returns-clause-follows g c = take_follows c.args.page c.args.pairs.now c.take_page.result _ _ _ (sym c.self.view_is) c.take_page.ensures.run
    c.take_page.ensures.place refl refl

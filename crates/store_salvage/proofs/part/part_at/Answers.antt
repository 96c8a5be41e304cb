use Rattle.store_salvage.proofs.Parts.{names_none, none_so}
use Rattle.store_salvage.proofs.part.part_at.Goals as goal

pub returns-in-None-clause-none : goal.returns-in-None-clause-none
returns-in-None-clause-none c = none_so c.log_at.result _ _ (names_none _ _ _ c.in-None.ensures.none) c.log_at.ensures.none

use Rattle.record_values.specs.declared.version.Version.TheVariants.{One}
use Rattle.store_moving.proofs.OneStore.{one_refusal, store_or_refusal}
use Rattle.store_moving.proofs.laws.one_old_store.Goals as goal

pub returns-clause-geometry : goal.returns-clause-geometry
returns-clause-geometry c = λ image g h first second. c.one_store.ensures.geometry One g h first.0 second.0 image first.1 second.1

pub returns-clause-either : goal.returns-clause-either
returns-clause-either c = λ image before after. store_or_refusal c.one_store.ensures.accepted image before after c.one_store.ensures.older

pub returns-clause-refusal : goal.returns-clause-refusal
returns-clause-refusal c = λ image before after. one_refusal c.one_store.ensures.accepted image before after c.one_store.ensures.refusal

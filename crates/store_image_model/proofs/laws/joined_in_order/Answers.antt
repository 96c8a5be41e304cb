use Rattle.record_values.specs.Maps.{pair_exact}
use Rattle.store_image_model.proofs.Ordered.{joined_entries, joined_next, joined_last}
use Rattle.store_image_model.proofs.laws.joined_in_order.Goals as goal

pub returns-clause-both : goal.returns-clause-both
returns-clause-both c = joined_entries pair_exact

pub returns-clause-next : goal.returns-clause-next
returns-clause-next c = joined_next

pub returns-clause-last : goal.returns-clause-last
returns-clause-last c = joined_last

use Rattle.flip_image.proofs.Stores as stores
use Rattle.flip_image.proofs.laws.store_beside_log.Goals as goal

pub returns-clause-store : goal.returns-clause-store
returns-clause-store c = stores.store_apart

pub returns-clause-fresh : goal.returns-clause-fresh
returns-clause-fresh c = stores.fresh_apart

pub returns-clause-formatted : goal.returns-clause-formatted
returns-clause-formatted c = stores.formatted_apart

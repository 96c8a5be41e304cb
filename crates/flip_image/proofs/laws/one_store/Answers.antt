use Rattle.flip_image.proofs.Stores as stores
use Rattle.flip_image.proofs.laws.one_store.Goals as goal

pub returns-clause-geometry : goal.returns-clause-geometry
returns-clause-geometry c = stores.one_geometry

pub returns-clause-accepted : goal.returns-clause-accepted
returns-clause-accepted c = stores.accepted

pub returns-clause-refusal : goal.returns-clause-refusal
returns-clause-refusal c = stores.one_refusal

pub returns-clause-current : goal.returns-clause-current
returns-clause-current c = stores.one_half

pub returns-clause-older : goal.returns-clause-older
returns-clause-older c = stores.refused_older

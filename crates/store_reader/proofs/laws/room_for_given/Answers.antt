use Rattle.store_reader.proofs.Room.{fits}
use Rattle.store_reader.proofs.laws.room_for_given.Goals as goal

pub returns : goal.returns
returns c v image g given gives = fits v image g given gives (c.fitting_cells.ensures.none g)

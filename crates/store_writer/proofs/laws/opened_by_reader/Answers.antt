use Rattle.store_writer.proofs.Given.{opened}
use Rattle.store_writer.proofs.laws.opened_by_reader.Goals as goal

pub returns : goal.returns
returns c = λ now halves log given store found all small. opened now halves log given store found all small c.image_inside.ensures.placed

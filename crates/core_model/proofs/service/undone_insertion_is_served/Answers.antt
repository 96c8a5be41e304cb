use Rattle.core_model.proofs.Worked.{served_script}
use Rattle.core_model.proofs.service.undone_insertion_is_served.Goals as goal

pub returns : goal.returns
returns c = served_script

use Rattle.program_script.proofs.Cuts.{parts_whole, parts_cut}
use Rattle.program_script.proofs.parts.cut_at.Goals as goal

pub returns-in-None : goal.returns-in-None
returns-in-None c = parts_whole c.args.separator c.args.bytes.now c.in-None.ensures

pub returns-in-Some : goal.returns-in-Some
returns-in-Some c = parts_cut c.args.separator c.args.bytes.now c.in-Some.i c.in-Some.ensures

use Rattle.core_scan.proofs.Unread.{absent_incomplete, absent_no_index, absent_not_built, building_incomplete, building_no_index, building_not_built}
use Rattle.nsf_core.specs.Value.{value_of}
use Rattle.core_scan.proofs.backward.scan_back.Goals as goal

pub returns-in-Absent-clause-no_index : goal.returns-in-Absent-clause-no_index
returns-in-Absent-clause-no_index g c = absent_no_index (value_of c.args.core.now).life c.in-Absent.ensures.life

pub returns-in-Absent-clause-not_built : goal.returns-in-Absent-clause-not_built
returns-in-Absent-clause-not_built g c = absent_not_built (value_of c.args.core.now).life c.in-Absent.ensures.life

pub returns-in-Building-clause-no_index : goal.returns-in-Building-clause-no_index
returns-in-Building-clause-no_index g c = building_no_index (value_of c.args.core.now).life _ c.in-Building.ensures.life

pub returns-in-Building-clause-not_built : goal.returns-in-Building-clause-not_built
returns-in-Building-clause-not_built g c = building_not_built (value_of c.args.core.now).life _ c.in-Building.ensures.life

pub returns-in-Absent-clause-no_memory : goal.returns-in-Absent-clause-no_memory
returns-in-Absent-clause-no_memory g c = λ complete. absurd (absent_incomplete (value_of c.args.core.now).life c.in-Absent.ensures.life complete)

pub returns-in-Building-clause-no_memory : goal.returns-in-Building-clause-no_memory
returns-in-Building-clause-no_memory g c = λ complete. absurd (building_incomplete (value_of c.args.core.now).life _ c.in-Building.ensures.life complete)

use Rattle.record_values.specs.declared.version.Version.TheVariants.{Two}
use Rattle.store_reader.proofs.Readings as readings
use Rattle.store_reader.proofs.laws.one_answer.Goals as goal

pub returns-clause-geometry : goal.returns-clause-geometry
returns-clause-geometry c = readings.one_geometry Two

pub returns-clause-given : goal.returns-clause-given
returns-clause-given c = readings.one_given Two

pub returns-clause-log : goal.returns-clause-log
returns-clause-log c = readings.one_found Two

pub returns-clause-readable : goal.returns-clause-readable
returns-clause-readable c = readings.readable Two

pub returns-clause-refusal : goal.returns-clause-refusal
returns-clause-refusal c = readings.one_refusal Two

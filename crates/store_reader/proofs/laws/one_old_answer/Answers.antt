use Rattle.record_values.specs.declared.version.Version.TheVariants.{One}
use Rattle.store_reader.proofs.Readings as readings
use Rattle.store_reader.proofs.laws.one_old_answer.Goals as goal

pub returns-clause-geometry : goal.returns-clause-geometry
returns-clause-geometry c = readings.one_geometry One

pub returns-clause-given : goal.returns-clause-given
returns-clause-given c = readings.one_given One

pub returns-clause-readable : goal.returns-clause-readable
returns-clause-readable c = readings.readable One

pub returns-clause-refusal : goal.returns-clause-refusal
returns-clause-refusal c = readings.one_refusal One

pub returns-clause-older : goal.returns-clause-older
returns-clause-older c = readings.old_refused

use Rattle.threads_lifetime.proofs.Refusals.{busy_engine, opened_engine, sound_engine, unsound_engine}
use Rattle.threads_lifetime.proofs.laws.told_of_an_engine.Goals as goal

pub returns-clause-opened : goal.returns-clause-opened
returns-clause-opened g c = opened_engine g.D.Device.past_of g.D.Device.failures

pub returns-clause-busy : goal.returns-clause-busy
returns-clause-busy g c = λ old new count e few. busy_engine g.D.Device.past_of g.D.Device.failures old new count few e

pub returns-clause-unsound : goal.returns-clause-unsound
returns-clause-unsound g c = λ old new count e few. unsound_engine g.D.Device.past_of g.D.Device.failures old new count few e

pub returns-clause-sound : goal.returns-clause-sound
returns-clause-sound g c = λ old new count e few. sound_engine g.D.Device.past_of g.D.Device.failures old new count few e

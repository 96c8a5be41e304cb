use Rattle.threads_lifetime.proofs.Refusals.{opened_sound, sound_store, unreadable_store, unsound_store}
use Rattle.threads_lifetime.proofs.laws.told_of_a_store.Goals as goal

pub returns-clause-opened : goal.returns-clause-opened
returns-clause-opened g c = λ before count s o is opens.
    opened_sound (c.one_answer.ensures.geometry, c.one_answer.ensures.given) g.D.Device.past_of g.D.Device.failures before o opens count s is

pub returns-clause-sound : goal.returns-clause-sound
returns-clause-sound g c = λ before after count o e few.
    sound_store (c.one_answer.ensures.geometry, c.one_answer.ensures.given) (c.one_answer.ensures.readable, c.one_answer.ensures.refusal)
    g.D.Device.past_of g.D.Device.failures before after count few o e

pub returns-clause-unsound : goal.returns-clause-unsound
returns-clause-unsound g c = λ before after count o e few.
    unsound_store (c.one_answer.ensures.geometry, c.one_answer.ensures.given) (c.one_answer.ensures.readable, c.one_answer.ensures.refusal)
    g.D.Device.past_of g.D.Device.failures before after count few o e

pub returns-clause-unreadable : goal.returns-clause-unreadable
returns-clause-unreadable g c = λ before after count error e few.
    unreadable_store (c.one_answer.ensures.geometry, c.one_answer.ensures.given) (c.one_answer.ensures.readable, c.one_answer.ensures.refusal)
    g.D.Device.past_of g.D.Device.failures before after count few error e

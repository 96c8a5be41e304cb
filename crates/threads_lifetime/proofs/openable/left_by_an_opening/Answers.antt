use Rattle.threads_lifetime.proofs.Turned.{openable_back, openable_behind, openable_between, synced_stays}
use Rattle.threads_lifetime.proofs.openable.left_by_an_opening.Goals as goal

pub returns-clause-crashes : goal.returns-clause-crashes
returns-clause-crashes g c = λ before after stays turned.
    openable_between (c.one_answer.ensures.geometry, c.one_answer.ensures.given) g.D.Device.past_of before after turned stays

pub returns-clause-behind : goal.returns-clause-behind
returns-clause-behind g c = λ before after stays turned.
    openable_behind (c.one_answer.ensures.geometry, c.one_answer.ensures.given) g.D.Device.past_of before after turned stays

pub returns-clause-back : goal.returns-clause-back
returns-clause-back g c = λ before after opens turned.
    openable_back (c.one_answer.ensures.geometry, c.one_answer.ensures.given) g.D.Device.past_of before after turned opens

pub returns-clause-synced : goal.returns-clause-synced
returns-clause-synced g c = synced_stays

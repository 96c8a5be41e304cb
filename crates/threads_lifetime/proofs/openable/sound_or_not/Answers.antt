use Rattle.threads_lifetime.proofs.Again.{sound_whole}
use Rattle.threads_lifetime.proofs.openable.sound_or_not.Goals as goal

pub returns-clause-sound : goal.returns-clause-sound
returns-clause-sound c = sound_whole (c.one_answer.ensures.geometry, c.one_answer.ensures.given)

pub returns-clause-openable : goal.returns-clause-openable
returns-clause-openable c = λ image o opens can. ∣ record { opened = o; opens = opens; sound = can } ∣₁

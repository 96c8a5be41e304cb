use Rattle.model.proofs.FollowingLaws.{following_push, following-take, following-append, following_front, following_back, not_following, one_unfit}
use Rattle.model.proofs.PlacedLaws.{following_placed}
use Rattle.model.proofs.laws.following_records.Goals as goal

pub returns-clause-joined : goal.returns-clause-joined
returns-clause-joined c = following-append

pub returns-clause-earlier : goal.returns-clause-earlier
returns-clause-earlier c = following_front

pub returns-clause-later : goal.returns-clause-later
returns-clause-later c = following_back

pub returns-clause-unfit : goal.returns-clause-unfit
returns-clause-unfit c = not_following

pub returns-clause-first : goal.returns-clause-first
returns-clause-first c = one_unfit

pub returns-clause-last : goal.returns-clause-last
returns-clause-last c = following_push

pub returns-clause-prefix : goal.returns-clause-prefix
returns-clause-prefix c = following-take

pub returns-clause-placed : goal.returns-clause-placed
returns-clause-placed c = following_placed

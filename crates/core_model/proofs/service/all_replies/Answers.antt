use Rattle.core_model.proofs.Pinned.{one_given, one_made}
use Rattle.core_model.proofs.Served.{all_served, served_rising}
use Rattle.core_model.proofs.service.all_replies.Goals as goal

pub returns-clause-log : goal.returns-clause-log
returns-clause-log c = all_served

pub returns-clause-rising : goal.returns-clause-rising
returns-clause-rising c = served_rising

pub returns-clause-one : goal.returns-clause-one
returns-clause-one c = one_made

pub returns-clause-pinned : goal.returns-clause-pinned
returns-clause-pinned c = one_given

use Rattle.std.proofs.lemmas.Result.{IfOk-weaker}
use Rattle.program_team.proofs.Keeping.{commits_one, err_weaker, same_keeps}
use Rattle.program_team.proofs.rows.commit.Goals as goal

pub returns-clause-ok : goal.returns-clause-ok
returns-clause-ok g c = IfOk-weaker c.commit.result _ _ (λ ticket is. commits_one c.args.seat.now c.commit.new.seat c.args.txn ticket is) c.commit.ensures.ok

pub returns-clause-refused : goal.returns-clause-refused
returns-clause-refused g c = err_weaker c.commit.result c.commit.ensures.refused (λ same. same_keeps c.args.seat.now c.commit.new.seat same)

use Rattle.threads_register.proofs.Numbers.{begin, commit, commit_record, counted, create, create_record, drop, drop_record, others}
use Rattle.threads_register.proofs.each_number.Goals as goal

pub returns-clause-begin : goal.returns-clause-begin
returns-clause-begin c = begin

pub returns-clause-commit : goal.returns-clause-commit
returns-clause-commit c = commit

pub returns-clause-counted : goal.returns-clause-counted
returns-clause-counted c = counted

pub returns-clause-create : goal.returns-clause-create
returns-clause-create c = create

pub returns-clause-others : goal.returns-clause-others
returns-clause-others c = others

pub returns-clause-commit_record : goal.returns-clause-commit_record
returns-clause-commit_record c = commit_record

pub returns-clause-create_record : goal.returns-clause-create_record
returns-clause-create_record c = create_record

pub returns-clause-drop : goal.returns-clause-drop
returns-clause-drop c = drop

pub returns-clause-drop_record : goal.returns-clause-drop_record
returns-clause-drop_record c = drop_record

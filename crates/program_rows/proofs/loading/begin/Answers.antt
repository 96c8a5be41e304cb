use Rattle.program_rows.proofs.loading.begin.Goals as goal

pub returns-in-Txn-clause-begun : goal.returns-in-Txn-clause-begun
returns-in-Txn-clause-begun g c = rw c.in-Txn.is at c.serve.ensures

use Rattle.threads_loops.proofs.threads.flush_in_run.Goals as goal

pub returns : goal.returns
returns g c = record { called_off = tt; ran = c.requires.flushes _ _ _ c.flush.ensures.leaves }

-- Which runs of blocks were written back, as a list that only clauses read.
use Rattle.std.specs.Prelude.{◌-◌, List, length, map}
use Rattle.block_device.specs.declared.back.BackRun.{BackRun}
use Rattle.block_device.specs.declared.back.BackRuns.{BackRuns}
use Rattle.block_device.specs.BlocksPast.{WrittenBack}

module _ {H : Type 0} where
  -- a run, at the moment of the last state until then, of which the first one is at moment 0
  abbrev pub run_in : BackRun H → WrittenBack
  run_in run = record { first = run.first; count = run.count; moment = length run.until.items - 1 }

  -- each of them, in order
  abbrev pub runs_in : BackRuns H → List WrittenBack
  runs_in b = map run_in b.runs.items

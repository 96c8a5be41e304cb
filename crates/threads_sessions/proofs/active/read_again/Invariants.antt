use Rattle.std.proofs.Common.{◌≡◌, take}
use Rattle.nsf_core.specs.Value.{value_of}
use Rattle.threads_sessions.specs.Steps.{rows_now}
use Rattle.threads_sessions.proofs.active.read_again.Given as goal

abbrev pub invariant-loop-i : goal.invariant-loop-i
invariant-loop-i g l = record {
  same : rows_now (value_of l.core) l.rows.items ≡ rows_now (value_of l.core) l.initial.rows.items;
  read : rows_now (value_of l.core) (take l.i l.rows.items) ≡ take l.i l.rows.items;
}

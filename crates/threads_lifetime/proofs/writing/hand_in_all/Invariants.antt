use Rattle.std.proofs.Common.{◌≡◌, length, take}
use Rattle.locked_core.specs.Locked.{locked_of}
use Rattle.threads_flusher.specs.Part.{popped_by}
use Rattle.threads_lifetime.specs.Written.{HasTaken}
use Rattle.threads_lifetime.proofs.writing.hand_in_all.Given as goal

abbrev pub invariant-loop : goal.invariant-loop
invariant-loop g l = record {
  taken : HasTaken l.fn.flush l.flush;
  begins : l.flush.handed ≡ take (length l.flush.handed) (locked_of l.locked).pushed;
  popped : popped_by l.fn.flush ≡ take (length (popped_by l.fn.flush)) (locked_of l.locked).pushed;
  same : locked_of l.locked ≡ locked_of l.initial.locked;
}

use Rattle.std.proofs.Common.{◌≡◌, length}
use Rattle.block_journal.specs.Entries.{AreDigests}
use Rattle.block_journal.proofs.gathered.digests_of.Given as goal

abbrev pub invariant-loop-i : goal.invariant-loop-i
invariant-loop-i l = record {
  size : length l.digests ≡ 254;
  digests : AreDigests l.area l.places l.digests l.i;
}

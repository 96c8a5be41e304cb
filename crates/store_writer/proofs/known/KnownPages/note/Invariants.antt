use Rattle.std.proofs.Common.{◌≡◌, drop}
use Rattle.store_writer.specs.Known.{with_changes}
use Rattle.store_writer.proofs.known.KnownPages.note.Given as goal

abbrev pub invariant-loop-record : goal.invariant-loop-record
invariant-loop-record g l = record {
  changed : with_changes l.self.changed.items (drop l.record-index l.records) ≡ with_changes l.initial.self.changed.items l.records;
  current : l.self.current ≡ l.initial.self.current;
  other : l.self.other ≡ l.initial.self.other;
}

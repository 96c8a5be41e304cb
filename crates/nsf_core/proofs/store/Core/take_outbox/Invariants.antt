use Rattle.std.proofs.Common.{◌≡◌, ◌+◌, ◌≤◌, length}
use Rattle.nsf_core.specs.Outbox.{HandsOn}
use Rattle.nsf_core.specs.Value.{value_of}
use Rattle.nsf_core.proofs.store.Core.take_outbox.Given as goal

abbrev pub invariant-loop-next : goal.invariant-loop-next
invariant-loop-next g l = record {
  handed : HandsOn (value_of l.initial.self) (value_of l.self) (g.S.Sink.taken l.initial.sink) (g.S.Sink.taken l.sink);
  place : g.S.Sink.place l.sink ≡ g.S.Sink.place l.initial.sink;
  room : g.S.Sink.room l.initial.sink + length l.self.parts.outbox.items ≤ g.S.Sink.room l.sink + length l.initial.self.parts.outbox.items;
}

abbrev pub decreases-loop-next : goal.decreases-loop-next
decreases-loop-next g l = length l.self.parts.outbox.items

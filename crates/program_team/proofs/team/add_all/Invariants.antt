use Rattle.std.proofs.Common.{◌≡◌, ◌++◌, map}
use Rattle.std.specs.Prelude.{flat_map}
use Rattle.program_team.proofs.team.add_all.Given as goal

abbrev pub invariant-loop-writer : goal.invariant-loop-writer
invariant-loop-writer g l = record {
  seats : l.gathered.seats.items ++ map (λ w. w.seat) l.writer-iterator.rest.items ≡ l.fn.gathered.seats.items ++ map (λ w. w.seat) l.fn.writers.items;
  acks : l.gathered.acks.items ++ flat_map (λ w. w.acks.items) l.writer-iterator.rest.items
      ≡ l.fn.gathered.acks.items ++ flat_map (λ w. w.acks.items) l.fn.writers.items;
  acknowledged : l.gathered.acknowledged.items ++ flat_map (λ w. w.acknowledged.items) l.writer-iterator.rest.items
      ≡ l.fn.gathered.acknowledged.items ++ flat_map (λ w. w.acknowledged.items) l.fn.writers.items;
}

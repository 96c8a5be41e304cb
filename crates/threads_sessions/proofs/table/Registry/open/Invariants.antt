use Rattle.std.proofs.Common.{◌≡◌, length}
use Rattle.threads_sessions.specs.Halves.{IsNew}
use Rattle.threads_sessions.proofs.table.Registry.open.Given as goal

abbrev pub invariant-loop-number : goal.invariant-loop-number
invariant-loop-number g l = record {
  next : l.maker ≡ record { table = l.registry-inside.table.shared.table_id; next = l._number };
  books : length l.book.items ≡ l._number;
  book : IsNew l.registry-inside.table.shared.table_id l.book.items;
  seated : length l.seats.items ≡ l._number;
  seats : IsNew l.registry-inside.table.shared.table_id l.seats.items;
}

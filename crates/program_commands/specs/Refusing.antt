-- What is left of a store by an event that is refused.
use Rattle.std.specs.Prelude.{◌≡◌}
use Rattle.program_commands.specs.Guarded.{store_of}
use Rattle.program_commands.specs.Store.{entries_of, life_of, rows_of}
use Rattle.program_commands.specs.declared.guarded.GuardedStore.{GuardedStore}

-- its rows, the entries of its index, and how far that is
pub record HoldsTheSame {D : Type 0} (old new : GuardedStore D) : Type 0 where
  pub rows : rows_of (store_of new) ≡ rows_of (store_of old)
  pub entries : entries_of (store_of new) ≡ entries_of (store_of old)
  pub life : life_of (store_of new) ≡ life_of (store_of old)

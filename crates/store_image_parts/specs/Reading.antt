-- Words for the private steps of reading: what stands at the front of some bytes. Padding within a field is zeros;
-- behind the last field there may be anything. No public clause cites them.
use Rattle.std.specs.Prelude.{ℕ, ◌+◌, ◌-◌, List, [], ◌∷◌, length, take, drop, slice_range, Option, Some, None, Bool}
use Rattle.std.specs.Prelude.{true, ◌&&◌, if◌then◌else◌, nat_lt, ◌==◌}
use Rattle.record_values.specs.Version.{key_max, body_max}
use Rattle.record_values.specs.declared.version.Version.{Version}
use Rattle.records.specs.declared.change.TheConstants.{CHANGES_MAX}
use Rattle.record_values.specs.declared.row.Row.{Row}
use Rattle.record_values.specs.declared.pair.Pair.{Pair}
use Rattle.record_values.specs.declared.pair.Mark.{Mark}
use Rattle.record_values.specs.declared.pair.Mark.TheVariants.{Live, Marked}
use Rattle.records.specs.Reading.{◌>>=◌, u16_at, u32_at, u64_at, byte_at, rid_at, rows_of}
use Rattle.model.specs.declared.life.Life.{Life}
use Rattle.model.specs.declared.life.Life.TheVariants.{Absent, Building, Complete}
use Rattle.store_image_parts.specs.Spelling.{row_size, pair_size}
use Rattle.store_image_parts.specs.declared.head.Head.{Head}
use Rattle.store_image_parts.specs.declared.header.Header.{Header}
use Rattle.store_image_parts.specs.declared.item.UndoItem.{UndoItem}

-- whether each byte is zero
unfoldable pub are_zeros : List ℕ → Bool
are_zeros [] = true
are_zeros (b ∷ rest) = (b == 0) && are_zeros rest

unfoldable pub skipped : ℕ → List ℕ → Option (List ℕ)
skipped count bytes = if nat_lt (length bytes) count then None else if are_zeros (take count bytes) then Some
    (drop count bytes) else None

unfoldable pub padded_at : ℕ → List ℕ → Option (List ℕ × List ℕ)
padded_at max bytes = do
  n ← byte_at bytes
  if nat_lt max n.0 then None else if nat_lt (length n.1) max then None else if are_zeros
      (slice_range n.1 n.0 max) then Some (take n.0 n.1, drop max n.1) else None

unfoldable pub row_at : Version → List ℕ → Option (Option Row × List ℕ)
row_at v bytes = do
  tag ← byte_at bytes
  if tag.0 == 0 then (skipped (row_size v - 1) tag.1 >>= λ rest. Some (None, rest)) else if tag.0 == 1 then
      (padded_at (key_max v) tag.1 >>= λ key. padded_at (body_max v) key.1 >>= λ body.
      Some (Some (record { key = key.0; body = body.0 }), body.1)) else None

unfoldable pub pair_at : Version → List ℕ → Option (Pair × List ℕ)
pair_at v bytes = do
  key ← padded_at (key_max v) bytes
  place ← rid_at key.1
  Some (record { key = key.0; rid = place.0 }, place.1)

unfoldable pub highest_at : Version → List ℕ → Option (Option Pair × List ℕ)
highest_at v bytes = do
  tag ← byte_at bytes
  if tag.0 == 0 then (skipped (pair_size v) tag.1 >>= λ rest. Some (None, rest)) else if tag.0 == 1 then
      (pair_at v tag.1 >>= λ p. Some (Some p.0, p.1)) else None

unfoldable pub life_at : Version → List ℕ → Option (Life × List ℕ)
life_at v bytes = do
  tag ← byte_at bytes
  if tag.0 == 0 then (skipped (1 + pair_size v) tag.1 >>= λ rest. Some (Absent, rest)) else if tag.0 == 1 then
      (highest_at v tag.1 >>= λ h. Some (Building h.0, h.1)) else if tag.0 == 2 then
      (skipped (1 + pair_size v) tag.1 >>= λ rest. Some (Complete, rest)) else None

unfoldable pub header_at : Version → List ℕ → Option (Header × List ℕ)
header_at v bytes = do
  life ← life_at v bytes
  base ← u64_at life.1
  entries ← u32_at base.1
  Some (record { life = life.0; base = base.0; entries = entries.0 }, entries.1)

unfoldable pub head_at : List ℕ → Option (Option Head × List ℕ)
head_at bytes = do
  txn ← u64_at bytes
  changes ← u16_at txn.1
  if txn.0 == 0 then Some (None, changes.1) else if nat_lt CHANGES_MAX changes.0 then None else Some
      (Some (record { txn = txn.0; changes = changes.0 }), changes.1)

unfoldable pub item_at : Version → List ℕ → Option (UndoItem × List ℕ)
item_at v bytes = do
  tag ← byte_at bytes
  place ← rid_at tag.1
  old ← row_at v place.1
  new ← row_at v old.1
  rows ← rows_of old.0 new.0
  if tag.0 == 1 then Some (record { rid = place.0; rows = rows }, new.1) else None

unfoldable pub entry_at : Version → List ℕ → Option ((Pair × Mark) × List ℕ)
entry_at v bytes = do
  p ← pair_at v bytes
  tag ← byte_at p.1
  if tag.0 == 1 then Some ((p.0, Live), tag.1) else if tag.0 == 2 then Some ((p.0, Marked), tag.1) else None

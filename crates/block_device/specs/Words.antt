-- A block as numbers.
use Rattle.std.specs.Prelude.{ℕ, ◌*◌, List, drop}
use Rattle.byteorder.specs.Endian.{big_number}

-- the number in eight bytes of a block, the highest byte first: the i-th of 512
unfoldable pub word : List ℕ → ℕ → ℕ
word bytes i = big_number 8 (drop (8 * i) bytes)

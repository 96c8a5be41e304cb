-- What the head of a batch tells.
use Rattle.std.specs.Prelude.{ℕ, ◌+◌, ◌*◌, slice_index}
use Rattle.block_batch.specs.declared.head.Head.{Head}

-- its number
abbrev pub number_of : Head → ℕ
number_of head = slice_index head.words 1

-- how many blocks it has
abbrev pub count_of : Head → ℕ
count_of head = slice_index head.words 2

-- the place of the i-th
abbrev pub place_of : Head → ℕ → ℕ
place_of head i = slice_index head.words (3 + 2 * i)

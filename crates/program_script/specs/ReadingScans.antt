-- Reading a line that asks for a scan from left to right.
use Rattle.std.specs.Prelude.{[], Bool, codes, false, if◌then◌else◌, List, None, Option, Some, true, ℕ, ◌∷◌}
use Rattle.std.specs.Option.{option_map}
use Rattle.std.specs.Str.{bytes_eq}
use Rattle.program_script.specs.Reading.{count_at, only, text_at, ◌>>=◌}
use Rattle.program_script.specs.declared.scan.Scan.{Scan}
use Rattle.program_script.specs.declared.scan.Span.{Span}
use Rattle.program_script.specs.declared.scan.Span.TheVariants.{Between, From, Whole}

-- which pair comes first, and how many there are
abbrev pub Manner : Type 0
Manner = Bool × Option ℕ

abbrev pub as_scan : Span → Manner → Scan
as_scan span manner = record { span = span; is_back = manner.0; limit = manner.1 }

-- so many pairs, and no further word
abbrev pub count_asked : List (List ℕ) → Option (Option ℕ)
count_asked args = do
  word ← only args
  count ← count_at word
  Some (Some count)

-- the words give nothing but how many pairs are asked for
unfoldable pub limit_at : List (List ℕ) → Option (Option ℕ)
limit_at [] = Some None
limit_at (name ∷ args) = if bytes_eq name (codes "count") then count_asked args else None

-- the words give nothing but which pair comes first, and how many are asked for
unfoldable pub manner_at : List (List ℕ) → Option Manner
manner_at [] = Some (false, None)
manner_at (name ∷ args) =
    if bytes_eq name (codes "back")
    then option_map (λ limit. (true, limit)) (limit_at args)
    else option_map (λ limit. (false, limit)) (limit_at (name ∷ args))

-- in this manner, if it is one; or else the other
abbrev pub in_manner : Option Manner → Span → Option Scan → Option Scan
in_manner (Some manner) span other = Some (as_scan span manner)
in_manner None span other = other

-- behind the first key come the last one, and the manner
unfoldable pub between_at : (first : List ℕ) → List (List ℕ) → Option Scan
between_at first [] = None
between_at first (word ∷ rest) = do
  last ← text_at word
  manner ← manner_at rest
  Some (as_scan (Between first last) manner)

-- the first key comes, and then the manner, or the last key
unfoldable pub from_at : List (List ℕ) → Option Scan
from_at [] = None
from_at (word ∷ rest) = do
  first ← text_at word
  in_manner (manner_at rest) (From first) (between_at first rest)

-- the manner comes, or the first key
unfoldable pub keys_at : List (List ℕ) → Option Scan
keys_at args = in_manner (manner_at args) Whole (from_at args)

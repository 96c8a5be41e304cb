-- The lines of pairs.
use Rattle.std.proofs.Common.{◌≡◌, ℕ, ◌+◌, ◌<◌, List, [], ◌∷◌, ◌++◌, length, get_or, take, sym, ap, ◌∙◌, append-nil}
use Rattle.std.proofs.lemmas.List.{take_more}
use Rattle.std.proofs.lemmas.List.Concat.{flat_map-append}
use Rattle.record_values.specs.declared.pair.Pair.{Pair}
use Rattle.program_commands.specs.Pages.{pair_line, pair_lines}

-- one pair more
pub lines_more : (pairs : List Pair) (i : ℕ) (pair : Pair) → i < length pairs → pair ≡ get_or pairs i pair
    → pair_lines (take (i + 1) pairs) ≡ pair_lines (take i pairs) ++ pair_line pair
lines_more pairs i pair there is =
    ap pair_lines (take_more pairs i pair there)
    ∙ flat_map-append pair_line (take i pairs) (get_or pairs i pair ∷ [])
    ∙ ap (λ (p : Pair). pair_lines (take i pairs) ++ (pair_line p ++ [])) (sym is)
    ∙ ap (λ (l : List ℕ). pair_lines (take i pairs) ++ l) (append-nil (pair_line pair))

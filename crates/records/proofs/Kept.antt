-- What is kept of what stood before, over two steps of spelling.
use Rattle.std.proofs.Common.{◌≡◌, ℕ, List, length, take, sym, ap, ◌∙◌, arith}
use Rattle.std.proofs.lemmas.List.{take-take, length-take}

pub kept_more : (a b c : List ℕ) → take (length a) b ≡ a → take (length b) c ≡ b → take (length a) c ≡ a
kept_more a b c p q = sym (take-take (length a) (length b) c (omega (arith, ap length p, length-take (length a) b))) ∙ ap (take (length a)) q ∙ p

-- Entries are gone through in their order, each found behind the one before.
use Rattle.std.proofs.Common.{◌≡◌, ⊎_elim, ℕ, ◌+◌, ◌<◌, ◌≤◌, List, length, Option, Some, None, sym, ◌∙◌, arith}
use Rattle.std.specs.Prelude.{slice_get}
use Rattle.std.proofs.lemmas.Bool.{cases_lt}
use Rattle.std.proofs.lemmas.Option.{slice_get_past, slice_get_within}
use Rattle.store_image_half.specs.Source.{IsNextBehind}
use Rattle.store_image_half.specs.Steps.{IsReached}
use Rattle.store_image_half.proofs.Lists.{not_past}

module _ {K X : Type 0} (es : List (K × X)) where
  pub reached_first : IsReached es 0 None
  reached_first next is = is

  pub reached_next : (n : ℕ) (start : Option K) (found : Option (K × X)) (key : K) (value : X) → IsReached es n start → IsNextBehind es start found
      → found ≡ Some (key, value) → IsReached es (n + 1) (Some key)
  reached_next n start found key value reached next is later step = step n value (sym (reached found next) ∙ is)

  ended : (n : ℕ) → slice_get es n ≡ None → length es ≤ n
  ended n none = ⊎_elim (λ below. absurd (not_past es n below none)) (λ past. past) (cases_lt n (length es))

  -- what is found at a number comes before the first number at which nothing is
  pub before_end : (n k : ℕ) (e : K × X) → slice_get es n ≡ None → slice_get es k ≡ Some e → k < n
  before_end n k e none at_k = omega (arith, slice_get_within es k e at_k, ended n none)

  pub reached_at : (n : ℕ) (e : K × X) → slice_get es n ≡ Some e → IsReached es (n + 1) (Some e.0)
  reached_at n e is later step = step n e.1 is

  -- behind the last one there is none, however often it is asked
  pub reached_past : (n : ℕ) (start : Option K) → IsReached es n start → slice_get es n ≡ None → IsReached es (n + 1) start
  reached_past n start reached none later step = reached later step ∙ none ∙ sym (slice_get_past es (n + 1) (omega (arith, ended n none)))

  pub reached_end : (n : ℕ) (start : Option K) (found : Option (K × X)) → IsReached es n start → IsNextBehind es start found → found ≡ None
      → IsReached es (n + 1) start
  reached_end n start found reached next is = reached_past n start reached (sym (reached found next) ∙ is)

-- Lawful answers, one more and the first of them.
use Rattle.std.proofs.Common.{◌≡◌, ℕ, ◌-◌, List, [], ◌∷◌, ◌++◌, length, take, refl, ap, subst, ◌∙◌, arith, length-append}
use Rattle.restart.specs.declared.event.Event.{Event}
use Rattle.restart.specs.declared.event.Reply.{Reply}
use Rattle.restart.specs.declared.parts.EngineParts.{EngineParts}
use Rattle.restart.specs.Lawful.{AreLawful, IsLawful}

-- one request more
pub lawful_more : {D M : Type 0} (failures : D → ℕ) (events : List Event) (replies : List (Reply M)) (event : Event) (reply : Reply M)
    (old mid new : EngineParts D M)
    → AreLawful failures events replies old mid → IsLawful failures event reply mid new
    → AreLawful failures (events ++ event ∷ []) (replies ++ reply ∷ []) old new
lawful_more failures [] [] event reply old mid new are is = (new, subst (λ (p : EngineParts _ _). IsLawful failures event reply p new) are is, refl)
lawful_more failures [] (r ∷ replies) event reply old mid new are is = absurd are
lawful_more failures (e ∷ events) [] event reply old mid new are is = absurd are
lawful_more failures (e ∷ events) (r ∷ replies) event reply old mid new are is =
    (are.0, are.1, lawful_more failures events replies event reply are.0 mid new are.2 is)

-- each request has its reply
pub lawful_even : {D M : Type 0} (failures : D → ℕ) (events : List Event) (replies : List (Reply M)) (old new : EngineParts D M)
    → AreLawful failures events replies old new → length replies ≡ length events
lawful_even failures [] [] old new are = refl
lawful_even failures [] (r ∷ replies) old new are = absurd are
lawful_even failures (e ∷ events) [] old new are = absurd are
lawful_even failures (e ∷ events) (r ∷ replies) old new are =
    let rest = lawful_even failures events replies are.0 new are.2 in
    omega (arith, rest)

-- all but the last
take_first : {A : Type 0} (first : List A) (last : A) → take (length first) (first ++ last ∷ []) ≡ first
take_first [] last = refl
take_first (x ∷ first) last = ap (λ (l : List _). x ∷ l) (take_first first last)

pub all_but_last : {A : Type 0} (all first : List A) (last : A) → all ≡ first ++ last ∷ [] → take (length all - 1) all ≡ first
all_but_last all first last is =
    let many : length all - 1 ≡ length first = omega (arith, ap length is, length-append first (last ∷ [])) in
    ap (λ (n : ℕ). take n all) many ∙ ap (take (length first)) is ∙ take_first first last

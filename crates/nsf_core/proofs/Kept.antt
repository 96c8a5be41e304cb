-- What a core keeps stays true where a call leaves it as it was, and where it answers.
use Rattle.std.proofs.Common.{subst, sym, ◌≡◌, Result, Ok, Err, OnOk, OnErr}
use Rattle.std.proofs.Math.Logic.{∥∥₁_map}
use Rattle.core_model.specs.Events.{Event, Reply}
use Rattle.core_parts.specs.View.{CoreValue, IsSafe, Serves}
use Rattle.core_parts.proofs.Due.{stays_safe}

pub kept_safe : (old new : CoreValue) → new ≡ old → ∥ IsSafe old ∥₁ → ∥ IsSafe new ∥₁
kept_safe old new same safe = subst (λ v. ∥ IsSafe v ∥₁) (sym same) safe

pub served_safe : (old : CoreValue) (e : Event) (reply : Reply) (new : CoreValue) → Serves old e reply new → ∥ IsSafe old ∥₁ → ∥ IsSafe new ∥₁
served_safe old e reply new serves safe = ∥∥₁_map safe (stays_safe old e reply new serves)

-- a step that is made, or else changes nothing
pub stepped_safe : {T E : Type 0} (r : Result T E) (old new : CoreValue) (P : Type 0) → OnOk r P → OnErr r (new ≡ old) → (P → IsSafe old → IsSafe new)
    → ∥ IsSafe old ∥₁ → ∥ IsSafe new ∥₁
stepped_safe (Ok x) old new P made same keeps safe = ∥∥₁_map safe (keeps made)
stepped_safe (Err e) old new P made same keeps safe = kept_safe old new same safe

pub on_both : {T E : Type 0} (r : Result T E) (P Q : Type 0) → OnOk r P → OnOk r Q → OnOk r (P × Q)
on_both (Ok x) P Q p q = (p, q)
on_both (Err e) P Q p q = p

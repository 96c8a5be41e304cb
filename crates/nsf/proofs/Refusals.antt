-- Why no client began, and why not all was written out that clients made.
use Rattle.std.proofs.Common.{◌≡◌, ◌≤◌, Bool, Err, IfErr, IfOk, Ok, OnOk, Result, ap, false, inl, inr, refl, subst, sym, true, ◌∙◌, ℕ}
use Rattle.record_values.specs.declared.error.Error.{Error}
use Rattle.restart.specs.Reopening.{IsTurned}
use Rattle.sector_device.specs.Disk.{IsSynced}
use Rattle.sector_device.specs.DevicePast.{DevicePast, Rises}
use Rattle.threads_flusher.proofs.Going.{counted_then}
use Rattle.threads_lifetime.specs.Openings.{IsNotShared, IsOpenedOver, IsGivenBack, StoreValue}
use Rattle.threads_lifetime.specs.declared.refusal.OpenError.{OpenError}
use Rattle.nsf.specs.Serving.{IsNotServed, IsUnserved, WhyRestUnwritten, WhyUnwritten}

module _ {D : Type 0} (past_of : D → DevicePast) (failures : D
    → ℕ) (before : D) (count : ℕ) (s : StoreValue D) (is : IsOpenedOver past_of failures before count s) where
  -- the device is that of the store that was opened
  given_back : (after : D) → after ≡ s.device → IsGivenBack past_of failures before after
  given_back after same = record {
    opened = s.site.opened;
    opens = is.opened;
    sound = is.sound;
    device = subst (λ (d : D). IsTurned past_of before d) (sym same) is.device;
    synced = subst (λ (d : D). IsSynced (past_of d).disk) (sym same) is.synced;
    quiet = ap failures same ∙ is.quiet;
  }

  pub not_served : (after : D) (e : OpenError) → IsUnserved e → after ≡ s.device → IsNotServed past_of failures before count after e
  not_served after e (inl none) same = inl (subst (λ (x : OpenError). IsNotShared past_of failures before count after x) (sym none)
      (inr (inl (refl, given_back after same))))
  not_served after e (inr none) same = inr (none, given_back after same)

  pub none_began : {X : Type 0} (r : Result X (OpenError × D)) → IfErr r (λ x. IsUnserved x.0 × (x.1 ≡ s.device))
      → IfErr r (λ x. IsNotServed past_of failures before count x.1 x.0)
  none_began (Ok x) told = tt
  none_began (Err x) told = not_served x.1 x.0 told.0 told.1

pub both : {T E : Type 0} (P Q : T → Type 0) (r : Result T E) → IfOk r P → IfOk r Q → IfOk r (λ x. P x × Q x)
both P Q (Ok x) p q = (p, q)
both P Q (Err e) p q = tt

-- the device failed as the clients ran, or behind that; or it has not failed
pub unwritten_since : {U : Type 0} (old mid : Bool) (a b c : ℕ) → old ≡ false → a ≤ b → (mid ≡ true → old ≡ false → Rises a b) → (mid ≡ false → b ≡ a)
    → (written : Result U Error) → IfErr written (WhyRestUnwritten mid b c) → b ≤ c → IfErr written (WhyUnwritten a c)
unwritten_since old mid a b c sound low first quiet (Ok x) why later = tt
unwritten_since old mid a b c sound low first quiet (Err e) (inl none) later = inl (none.0, none.2 ∙ quiet none.1)
unwritten_since old mid a b c sound low first quiet (Err e) (inr failed) later =
    inr (failed.0, counted_then old mid true a b c low later first (λ now before. failed.1 before) refl sound)

-- all was written out: the device has not failed as the clients ran, nor behind that
pub quiet_since : {U : Type 0} (mid : Bool) (a b c : ℕ) → (mid ≡ false → b ≡ a) → (written : Result U Error) → OnOk written (mid ≡ false)
    → OnOk written (c ≡ b) → OnOk written (c ≡ a)
quiet_since mid a b c quiet (Ok x) sound same = same ∙ quiet sound
quiet_since mid a b c quiet (Err e) sound same = tt

-- one result isn't both
pub never_both : {T E : Type 0} (r : Result T E) (x : T) (e : E) → r ≡ Ok x → r ≡ Err e → ⊥
never_both r x e ok err = cc

-- and a refusal is one, whatever is answered else
same_error : {T E : Type 0} (r : Result T E) (e f : E) → r ≡ Err e → r ≡ Err f → e ≡ f
same_error r e f is also = cc

pub same_refusal : {T U E : Type 0} (r : Result T E) (e f : E) → r ≡ Err e → r ≡ Err f → (λ (s : Result U E). s ≡ Err f) (Err e)
same_refusal r e f is also = ap Err (same_error r e f is also)

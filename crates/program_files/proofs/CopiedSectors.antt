-- What a copy of the first sectors of a disk comes to, sector by sector.
use Rattle.std.specs.Prelude.{is_err}
use Rattle.std.proofs.Common.{◌≡◌, inl, inr, ⊎_elim, ℕ, ◌+◌, ◌<◌, true, false, Result, Ok, Err, OnOk, OnErr, refl, sym, ◌∙◌, ap, subst, arith}
use Rattle.std.proofs.lemmas.Bool.{cases_eq}
use Rattle.sector_device.specs.Disk.{CrashState, sector, SameOutside}
use Rattle.sector_device.specs.DevicePast.{Rises}
use Rattle.program_files.specs.declared.copying.NotCopied.{NotCopied}
use Rattle.program_files.specs.Copied.{AreCopied, IsCopyFailure}

pub from_ok : {T E : Type 0} (P : Type 0) (r : Result T E) → is_err r ≡ false → OnOk r P → P
from_ok P (Ok x) is h = h
from_ok P (Err e) is h = absurd cc

pub from_err : {T E : Type 0} (P : Type 0) (r : Result T E) → is_err r ≡ true → OnErr r P → P
from_err P (Ok x) is h = absurd cc
from_err P (Err e) is h = h

-- nothing was written
pub same_here : (S : ℕ → Type 0) (image : CrashState) → SameOutside S image image
same_here S image = record { sectors = refl; same = λ k out. refl }

-- one sector more is copied
pub copied_more : (n : ℕ) (from now next : CrashState) → AreCopied n from now → SameOutside (λ k. k ≡ n) now next → sector next n ≡ sector from n
    → AreCopied (n + 1) from next
copied_more n from now next copied others this k below = ⊎_elim
    (λ (same : k ≡ n). ap (sector next) same ∙ this ∙ sym (ap (sector from) same))
    (λ other. others.same k other ∙ copied k (omega (arith, below, other)))
    (cases_eq k n)

-- and those behind the last one stay
pub rest_more : (n sectors : ℕ) (first now next : CrashState) → n < sectors → SameOutside (λ k. k < sectors) first now
    → SameOutside (λ k. k ≡ n) now next → SameOutside (λ k. k < sectors) first next
rest_more n sectors first now next below so_far others = record {
  sectors = others.sectors ∙ so_far.sectors;
  same = λ k out. others.same k (λ is. out (omega (arith, is, below)))
      ∙ so_far.same k out;
}

-- a failure behind calls that didn't fail
pub fails_later : (a b c : ℕ) (a' b' c' : ℕ) (e : NotCopied) → b ≡ a → b' ≡ a' → IsCopyFailure (Rises b c) (Rises b' c') e
    → IsCopyFailure (Rises a c) (Rises a' c') e
fails_later a b c a' b' c' e same same' (inl p) = inl (p.0, subst (λ m. Rises m c) same p.1)
fails_later a b c a' b' c' e same same' (inr p) = inr (p.0, subst (λ m. Rises m c') same' p.1)

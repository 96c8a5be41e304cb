-- A read of the checked blocks is counted, and so is a block that was damaged.
use Rattle.std.specs.Prelude.{is_ok}
use Rattle.std.proofs.Common.{Result, Ok, Err, ◌≡◌, ◌⊎◌, inl, inr, ⊎_elim, ℕ, ◌+◌, ◌-◌, ◌^◌, ◌<◌, min, true, false, refl, sym, ◌∙◌, ap, arith}
use Rattle.sector_device.specs.DevicePast.{CountsFailure}
use Rattle.block_table.specs.declared.checked.ReadError.{ReadError}
use Rattle.block_table.specs.declared.checked.ReadError.TheVariants.{Damaged, FileFailed}
use Rattle.block_table.specs.Checked.{CountsRead}

-- what is answered isn't refused
pub ok_not_err : {T E : Type 0} {x : T} {e : E} → ◌≡◌ {A = Result T E} (Ok x) (Err e) → ⊥
ok_not_err is = cc

module _ (done : Result Unit ReadError) where
  pub is_ok_done : (x : Unit) → done ≡ Ok x → is_ok done ≡ true
  is_ok_done x is = ap is_ok is

  pub is_err_done : (e : ReadError) → done ≡ Err e → is_ok done ≡ false
  is_err_done e is = ap is_ok is

  pub counts_ok : {T E : Type 0} (x : Unit) (y : T) → done ≡ Ok x → (before now d : ℕ) → CountsRead before now done
      → CountsFailure {T = T} {E = E} (before + d) (now + d) (Ok y)
  counts_ok x y is before now d read = record {
    later = omega (arith, read.later);
    none = omega (arith, read.quiet (λ failed. never (sym is ∙ failed)));
    failed = tt;
  }
    where
      never : Ok x ≡ Err FileFailed → ⊥
      never both = absurd cc

  pub counts_failed : {T E : Type 0} (y : E) (which : ReadError) → done ≡ Err which → which ≡ FileFailed → (before now d : ℕ) → CountsRead before now done
      → CountsFailure {T = T} {E = E} (before + d) (now + d) (Err y)
  counts_failed y which is same before now d read = record {
    later = omega (arith, read.later);
    none = tt;
    failed = λ below. let up : before < now = read.rises (is ∙ ap Err same) (omega (arith, below)) in omega (arith, up);
  }

  pub counts_damaged : {T E : Type 0} (y : E) (which : ReadError) → done ≡ Err which → which ≡ Damaged → (before now d e : ℕ) → d < 2 ^ 64
      → e ≡ min (d + 1) (2 ^ 64 - 1)
      → CountsRead before now done → CountsFailure {T = T} {E = E} (before + d) (now + e) (Err y)
  counts_damaged y which is same before now d e small sum read = record {
    later = omega (arith, read.later, sum, small);
    none = tt;
    failed = λ below. omega (arith, read.quiet (λ failed. never (sym (ap Err same) ∙ sym is ∙ failed)), sum, below);
  }
    where
      never : Path (Result Unit ReadError) (Err Damaged) (Err FileFailed) → ⊥
      never both = absurd cc

-- why a block isn't read
pub why_unread : (P Q R : Type 0) (e : ReadError) → (Path (Result Unit ReadError) (Err e) (Err FileFailed) → P ⊎ Q)
    → (Path (Result Unit ReadError) (Err e) (Err Damaged) → R) → P ⊎ (Q ⊎ R)
why_unread P Q R FileFailed failed damaged = ⊎_elim (λ p. inl p) (λ q. inr (inl q)) (failed refl)
why_unread P Q R Damaged failed damaged = inr (inr (damaged refl))

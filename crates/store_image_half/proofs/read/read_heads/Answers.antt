use Rattle.std.specs.Prelude.{ok_or}
use Rattle.std.proofs.Common.{◌≡◌, ◌≢◌, Option, Some, None, IfSome, IfOk, IfErr, OnOk, List, ℕ, inl, inr, refl, sym, subst, ◌∙◌}
use Rattle.std.proofs.lemmas.Result.{err_from_is_err_and}
use Rattle.store_image_half.proofs.Joined.{from_ok, from_err}
use Rattle.record_values.specs.declared.error.Error.{Error}
use Rattle.record_values.specs.declared.error.Error.TheVariants.{DeviceFailed}
use Rattle.store_image_half.specs.Image.{AreHeads}
use Rattle.store_image_half.proofs.Refusing.{not_fewer}
use Rattle.store_image_half.proofs.read.read_heads.Goals as goal

-- what is told of the error in place of nothing
found_told : {H : Type 0} (o : Option H) (e : Error) (P : H → Type 0) (Q : Error → Type 0) → IfSome o P → (o ≡ None → Q e)
    → IfOk (ok_or o e) P × IfErr (ok_or o e) Q
found_told None e P Q found none = (tt, none refl)
found_told (Some x) e P Q found none = (found, tt)

either_way : {H Q : Type 0} (o : Option H) (e : Error) → Q → OnOk (ok_or o e) Q × IfErr (ok_or o e) (λ x. x ≢ DeviceFailed → Q)
either_way None e q = (tt, λ _. q)
either_way (Some x) e q = (q, tt)

pub read-requires : goal.read-requires
read-requires g c = c.requires.inside

pub returns-then-is_err : goal.returns-then-is_err
returns-then-is_err g c = record {
  found = tt;
  refused = inl (inr (refl, from_err _ c.read.result (sym c.is_err.ensures.value ∙ c.if-is_err.true) c.read.ensures.counts.failed));
  reads = record { disk = c.read.ensures.disk; time = c.read.ensures.time };
  quiet = tt;
  told = λ other. absurd (other refl);
  later = c.read.ensures.counts.later;
}

pub returns-in_err-heads_in : goal.returns-in_err-heads_in
returns-in_err-heads_in g c =
    let quiet = from_ok _ c.read.result (sym c.is_err.ensures.value ∙ c.if-is_err.false) c.read.ensures.counts.none in
    let p = err_from_is_err_and c.from_residual.result c.from_residual.ensures.1 in
    rw p.1 (record {
      found = tt;
      refused = inl (inl p.2);
      reads = record { disk = c.read.ensures.disk; time = c.read.ensures.time };
      quiet = tt;
      told = λ _. quiet;
      later = not_fewer _ _ quiet;
    })

pub returns : goal.returns
returns g c =
    let is_ok = sym c.is_err.ensures.value ∙ c.if-is_err.false in
    let quiet = from_ok _ c.read.result is_ok c.read.ensures.counts.none in
    let read = from_ok _ c.read.result is_ok c.read.ensures.ok in
    let o = c.in_ok-heads_in.field-0 in
    let told = found_told o _ _ _ (subst (λ (b : List ℕ). IfSome o (λ heads. AreHeads b heads.items)) read c.in_ok-heads_in.ensures.found)
    (λ is. inr (refl, λ heads. subst (λ (b : List ℕ). ¬ AreHeads b heads.0) read (c.in_ok-heads_in.ensures.none is heads.0) heads.1)) in
    let both = either_way o _ quiet in
    rw c.ok_or.ensures.value (record {
      found = told.0;
      refused = told.1;
      reads = record { disk = c.read.ensures.disk; time = c.read.ensures.time };
      quiet = both.0;
      told = both.1;
      later = not_fewer _ _ quiet;
    })

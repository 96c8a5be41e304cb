use Rattle.std.proofs.Common.{⊎_elim, inl, inr, sym, subst, ◌∙◌, rules}
use Rattle.std.proofs.lemmas.Bool.{false≢true}
use Rattle.sector_device.specs.Disk.{Disk}
use Rattle.sector_device.specs.DevicePast.{Rises}
use Rattle.record_values.specs.declared.version.Version.TheVariants.{One, Two}
use Rattle.flip_image.specs.Store.{IsRefusedIn}
use Rattle.store_moving.proofs.Refusals.{not_failed}
use Rattle.store_moving.proofs.old.old_geometry.Goals as goal

pub returns-then-is_failure-clause-refused : goal.returns-then-is_failure-clause-refused
returns-then-is_failure-clause-refused g c =
    ⊎_elim (λ refused. absurd (not_failed One _ _ refused (c.is_failure.ensures.0 c.if-is_failure.true))) (λ failed. inl failed) c.in-Err.ensures.refused

pub returns-then-is_failure-2-clause-refused : goal.returns-then-is_failure-2-clause-refused
returns-then-is_failure-2-clause-refused g c =
    let same = c.in-Err.ensures.told (λ failed. false≢true (sym c.if-is_failure.false ∙ c.is_failure.ensures.1 failed)) in
    ⊎_elim (λ refused. absurd (not_failed Two _ _ refused (c.is_failure-2.ensures.0 c.if-is_failure-2.true))) (λ failed.
    inl (failed.0, subst (λ n. Rises n (g.D.Device.failures c.open.new.device)) same failed.1)) c.in-Err-open.ensures.refused

pub returns-clause-refused : goal.returns-clause-refused
returns-clause-refused g c =
    ⊎_elim
    (λ first. ⊎_elim (λ second. inr (
      first,
      (
        c.in-Err-open.other,
        subst (λ (d : Disk). IsRefusedIn Two d.content c.in-Err-open.other) c.in-Err.ensures.reads.disk second,
      ),
    )) (λ failed.
    absurd (false≢true (sym c.if-is_failure-2.false ∙ c.is_failure-2.ensures.1 failed.0))) c.in-Err-open.ensures.refused)
    (λ failed. absurd (false≢true (sym c.if-is_failure.false ∙ c.is_failure.ensures.1 failed.0)))
    c.in-Err.ensures.refused

pub returns-in-Ok-clause-found : goal.returns-in-Ok-clause-found
returns-in-Ok-clause-found g c = search rules

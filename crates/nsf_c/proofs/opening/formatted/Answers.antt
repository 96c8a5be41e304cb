use Rattle.std.proofs.Common.{arith, rules, Result, Err, ◌≡◌, ◌<◌, ◌⊎◌, ◌↔◌, ⊎_elim, ap, subst, ◌∙◌}
use Rattle.record_values.specs.declared.error.Error.{Error}
use Rattle.record_values.specs.declared.error.Error.TheVariants.{DeviceTooSmall}
use Rattle.std.proofs.lemmas.List.{length-replicate}
use Rattle.std.specs.Prelude.{ℕ, List, length, replicate}
use Rattle.sector_device.specs.Values.{zero_sector}
use Rattle.store_file.specs.FileDisk.{past_of}
use Rattle.flip_image.specs.Store.{IsDeviceFailure}
use Rattle.nsf_c.proofs.opening.formatted.Goals as goal

-- where there is room, the device failed
device_failed : {T : Type 0} (e : Error) (before now len size : ℕ) → (◌≡◌ {A = Result T Error} (Err e) (Err DeviceTooSmall) ↔ (len < size)) → len ≡ size
    → (e ≡ DeviceTooSmall) ⊎ IsDeviceFailure before now e → IsDeviceFailure before now e
device_failed e before now len size small room = ⊎_elim (λ is. absurd (omega (arith, small.0 (ap Err is)))) (λ failed. failed)

pub returns-in-Err : goal.returns-in-Err
returns-in-Err c =
    let zeros = subst (λ (n : ℕ). (past_of c.in-Ok.disk).disk.content ≡ replicate n zero_sector) c.sectors.ensures c.in-Ok.ensures.zeros in
    let room = ap (λ (image : List (List ℕ)). length image) zeros ∙ length-replicate {A = List ℕ} _ zero_sector in
    let failed = device_failed _ _ _ _ _ c.in-Err.ensures.too_small room c.in-Err.ensures.refused in
    record {
      ok = tt;
      err = record {
        disk = c.in-Ok.disk;
        is_disk = record { content = zeros; synced = c.in-Ok.ensures.synced; failures = c.in-Ok.ensures.failures };
        writes = c.in-Err.ensures.outside;
        fails = failed.1;
      };
    }

-- what is answered where the store was made
pub returns-in-Ok-format-clause-err : goal.returns-in-Ok-format-clause-err
returns-in-Ok-format-clause-err c = search rules

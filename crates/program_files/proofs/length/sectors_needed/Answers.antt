use Rattle.std.proofs.Common.{◌≡◌, ◌∙◌, Some, ap, inl, inr}
use Rattle.record_values.specs.GeometryValue.{sectors_of}
use Rattle.record_values.specs.declared.error.Error.{Error}
use Rattle.record_values.specs.declared.error.Error.TheVariants.{DeviceFailed, OldVersion}
use Rattle.flip_image.specs.Layout.{HalvesValue}
use Rattle.program_files.proofs.length.sectors_needed.Goals as goal

not_failed : (e : Error) → e ≡ OldVersion → e ≡ DeviceFailed → ⊥
not_failed e old failed = cc

pub returns-in-Ok-clause-newer : goal.returns-in-Ok-clause-newer
returns-in-Ok-clause-newer g c = λ g' half store.
    inl (ap Some (c.sectors.ensures ∙ ap sectors_of (c.geometry.ensures
    ∙ ap (λ (h : HalvesValue). h.geometry) (c.in-Ok.ensures.store g' half store))))

pub returns-in-Err-OldVersion-clause-newer : goal.returns-in-Err-OldVersion-clause-newer
returns-in-Err-OldVersion-clause-newer g c = λ g' half store.
    absurd (not_failed _ c.in-Err-OldVersion.field-0-is (c.in-Err-OldVersion.ensures.accepted g' half store).0)

pub returns-in-Err : goal.returns-in-Err
returns-in-Err g c = record {
  needed = tt;
  newer = λ g' half store. inr (c.in-Err.ensures.accepted g' half store).1;
  reads = c.in-Err.ensures.reads;
}

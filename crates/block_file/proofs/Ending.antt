-- The use of a file is ended.
use Rattle.std.proofs.Common.{Result, Ok, Err, OnErr, ◌≡◌, inl, inr, ⊎_elim, ℕ, sym, ◌∙◌, ap, subst, arith}
use Rattle.std.proofs.lemmas.Bool.{cases_lt}
use Rattle.sector_device.specs.DevicePast.{DevicePast, Elapses}
use Rattle.block_device.specs.Blocks.{CrashFile}
use Rattle.block_journal.specs.declared.shape.Shape.{Shape}
use Rattle.block_journal.specs.Journal.{NeedsNoArea}
use Rattle.block_table.specs.Table.{data_of}
use Rattle.block_file.specs.declared.plan.Plan.{Plan}
use Rattle.block_file.specs.Closing.{StandsAlone}
use Rattle.block_file.specs.Sectors.{sectors_of}

pub on_err_always : {T E : Type 0} (P : Type 0) (r : Result T E) → P → OnErr r P
on_err_always P (Ok x) h = tt
on_err_always P (Err e) h = h

-- where the journal needs no area, the file stands alone
pub stands_alone : (p : Plan) (g : Shape) (image settled kept : CrashFile) (blocks : ℕ) → g ≡ p.shape → blocks ≡ p.blocks → kept ≡ settled
    → NeedsNoArea g image settled → StandsAlone p image (sectors_of p.lead p.sectors (data_of blocks kept))
stands_alone p g image settled kept blocks shape count same needs = λ c there areas.
    let all : NeedsNoArea p.shape image settled = subst (λ (s : Shape). NeedsNoArea s image settled) shape needs in
    ap (λ (l : CrashFile). sectors_of p.lead p.sectors (data_of p.blocks l)) (all c there areas ∙ sym same)
    ∙ ap (λ (b : ℕ). sectors_of p.lead p.sectors (data_of b kept)) (sym count)

-- one call behind another that changes nothing of the disk
pub elapses_then : (a b c : DevicePast) → Elapses a b → Elapses b c → c.disk ≡ b.disk → Elapses a c
elapses_then a b c first second same = record {
  later = omega (arith, first.later, second.later);
  kept = λ t le. second.kept t (omega (arith, le, first.later)) ∙ first.kept t le;
  during = λ t from to. ⊎_elim
      (λ early. ⊎_elim
      (λ is. inl (second.kept t (omega (arith, early)) ∙ is))
      (λ is. inr (second.kept t (omega (arith, early)) ∙ is ∙ sym same))
      (first.during t from (omega (arith, early))))
      (λ late. ⊎_elim
      (λ is. inr (is ∙ sym same))
      (λ is. inr is)
      (second.during t late to))
      (cases_lt t b.moment);
}

-- Calls that change nothing, one after the other, and the count of failures.
use Rattle.std.proofs.Common.{◌≡◌, inl, inr, ⊎_elim, refl, ◌∙◌, ap, arith}
use Rattle.std.proofs.lemmas.Bool.{cases_lt}
use Rattle.block_device.specs.BlocksPast.{BlocksPast}
use Rattle.block_journal.specs.Journal.{OnlyReads}

pub reads_then : (old mid new : BlocksPast) → OnlyReads old mid → OnlyReads mid new → OnlyReads old new
reads_then old mid new first second = record {
  file = second.file ∙ first.file;
  time = record {
    later = omega (arith, first.time.later, second.time.later);
    kept = λ t le. second.time.kept t (omega (arith, le, first.time.later)) ∙ first.time.kept t le;
    during = λ t from to. ⊎_elim
        (λ early. ⊎_elim
        (λ is. inl (second.time.kept t (omega (arith, early)) ∙ is))
        (λ is. inl (second.time.kept t (omega (arith, early)) ∙ is ∙ first.file))
        (first.time.during t from (omega (arith, early))))
        (λ late. ⊎_elim
        (λ is. inl (is ∙ first.file))
        (λ is. inr is)
        (second.time.during t late to))
        (cases_lt t mid.moment);
  };
}

-- no call was made
pub reads_none : (h : BlocksPast) → OnlyReads h h
reads_none h = record {
  file = refl;
  time = record {
    later = omega arith;
    kept = λ t le. refl;
    during = λ t from to. let same : t ≡ h.moment = omega arith in inl (ap h.file_at same ∙ h.now);
  };
}

-- What was written back as a journal was opened.
use Rattle.std.proofs.Common.{◌≡◌, inl, inr, ⊎_elim, ℕ, ◌+◌, ◌%◌, ◌<◌, ◌≤◌, List, IfSome, sym, ◌∙◌, ap, subst, arith}
use Rattle.std.proofs.lemmas.Bool.{cases_lt}
use Rattle.block_device.specs.Blocks.{BlockFile}
use Rattle.block_device.specs.BlocksPast.{BlocksPast, WrittenBack}
use Rattle.block_journal.specs.declared.shape.Shape.{Shape}
use Rattle.block_journal.specs.Layout.{found}
use Rattle.block_journal.specs.Journal.{BeginsBack, OnlyReads, WritesBackFirst}

-- calls were made since, which wrote nothing back
pub writes_back_later : (g : Shape) (old mid new : BlocksPast) (before now later : List WrittenBack) → WritesBackFirst g old mid before now
    → mid.moment ≤ new.moment → ((t : ℕ) → t ≤ mid.moment → new.file_at t ≡ mid.file_at t) → later ≡ now → WritesBackFirst g old new before later
writes_back_later g old mid new before now later first le kept same = record {
  last = first.last;
  here = first.here;
  other = first.other;
  moment = first.moment;
  later = first.later;
  until = omega (arith, first.until, le);
  still = λ t from to. kept t (omega (arith, to, first.until)) ∙ first.still t from to;
  back = same ∙ first.back;
}

-- the file was only read before
pub writes_back_behind : (g : Shape) (old mid new : BlocksPast) (before now : List WrittenBack) → OnlyReads old mid
    → ((t : ℕ) → t ≤ mid.moment → new.file_at t ≡ mid.file_at t) → WritesBackFirst g mid new before now → WritesBackFirst g old new before now
writes_back_behind g old mid new before now reads kept since = record {
  last = since.last;
  here = ap (λ (f : BlockFile). found g f.content (since.last.number % 2)) (sym reads.file) ∙ since.here;
  other = subst (λ (f : BlockFile). IfSome (found g f.content ((since.last.number + 1) % 2)) (λ x. x.number < since.last.number)) reads.file since.other;
  moment = since.moment;
  later = omega (arith, reads.time.later, since.later);
  until = since.until;
  still = λ t from to. ⊎_elim
      (λ early. kept t (omega (arith, early)) ∙ ⊎_elim (λ is. is) (λ is. is ∙ reads.file) (reads.time.during t from (omega (arith, early))))
      (λ late. since.still t late to ∙ reads.file)
      (cases_lt t mid.moment);
  back = since.back;
}

-- the same where that only began
pub begins_back_behind : (g : Shape) (old mid new : BlocksPast) (before now : List WrittenBack) → OnlyReads old mid → OnlyReads old new
    → BeginsBack g mid new before now → BeginsBack g old new before now
begins_back_behind g old mid new before now reads all since = record {
  reads = all;
  back = ⊎_elim (λ none. inl none) (λ one. inr (record {
    last = one.last;
    here = ap (λ (f : BlockFile). found g f.content (one.last.number % 2)) (sym reads.file) ∙ one.here;
    other = subst (λ (f : BlockFile). IfSome (found g f.content ((one.last.number + 1) % 2)) (λ x. x.number < one.last.number)) reads.file one.other;
    moment = one.moment;
    later = omega (arith, reads.time.later, one.later);
    until = one.until;
    back = one.back;
  })) since.back;
}

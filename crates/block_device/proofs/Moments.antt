-- How "a crash leaves only images that have P" goes on from call to call.
use Rattle.std.proofs.Common.{◌≡◌, ⊎_elim, ℕ, ◌≤◌, refl, sym, ◌∙◌, subst, arith}
use Rattle.std.proofs.lemmas.Bool.{cases_lt}
use Rattle.block_device.specs.Blocks.{CrashFile, IsCrashFile}
use Rattle.block_device.specs.BlocksPast.{BlocksPast, Elapses, LeavesOnly}

-- before the first call
pub started : (h : BlocksPast) (P : CrashFile → Type 0) → ((c : CrashFile) → IsCrashFile h.file c → P c) → LeavesOnly h h P
started h P here = record {
  later = omega arith;
  kept = λ t le. refl;
  each = λ t c from to crash. here c (subst (λ f. IsCrashFile f c) (is_now t from to) crash);
}
  where
    is_now : (t : ℕ) → h.moment ≤ t → t ≤ h.moment → h.file_at t ≡ h.file
    is_now t from to = let same : t ≡ h.moment = omega arith in subst (λ u. h.file_at u ≡ h.file) (sym same) h.now

-- one call, before and after which a crash leaves what has P
pub one_call : (old new : BlocksPast) (P : CrashFile → Type 0) → Elapses old new → ((c : CrashFile) → IsCrashFile old.file c → P c)
    → ((c : CrashFile) → IsCrashFile new.file c → P c) → LeavesOnly old new P
one_call old new P time before after = record {
  later = time.later;
  kept = time.kept;
  each = λ t c from to crash. ⊎_elim (λ is. before c (subst (λ f. IsCrashFile f c) is crash)) (λ is. after c (subst (λ f. IsCrashFile f c) is crash))
      (time.during t from to);
}

-- one run after another
pub joined : (old mid new : BlocksPast) (P : CrashFile → Type 0) → LeavesOnly old mid P → LeavesOnly mid new P → LeavesOnly old new P
joined old mid new P first second = record {
  later = omega (arith, first.later, second.later);
  kept = λ t le. second.kept t (omega (arith, le, first.later)) ∙ first.kept t le;
  each = λ t c from to crash. ⊎_elim
      (λ early. first.each t c from (omega (arith, early)) (subst (λ f. IsCrashFile f c) (second.kept t (omega (arith, early))) crash))
      (λ late. second.each t c late to crash)
      (cases_lt t mid.moment);
}

-- what a crash now leaves has P
pub at_end : (old new : BlocksPast) (P : CrashFile → Type 0) → LeavesOnly old new P → (c : CrashFile) → IsCrashFile new.file c → P c
at_end old new P run c crash = run.each new.moment c run.later (omega arith) (subst (λ f. IsCrashFile f c) (sym new.now) crash)

-- one call more, after which a crash leaves what has P
pub goes_on : (old mid new : BlocksPast) (P : CrashFile → Type 0) → LeavesOnly old mid P → Elapses mid new → ((c : CrashFile) → IsCrashFile new.file c → P c)
    → LeavesOnly old new P
goes_on old mid new P so_far time here = joined old mid new P so_far (one_call mid new P time (at_end old mid P so_far) here)

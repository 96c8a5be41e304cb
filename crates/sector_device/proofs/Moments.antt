-- How "a crash leaves only images that have P" goes on from call to call.
use Rattle.std.proofs.Common.{Result, OnOk, OnErr, ◌≡◌, ⊎_elim, ℕ, ◌+◌, ◌≤◌, List, [], ◌∷◌, ◌++◌, length, slice_set, refl, sym, ◌∙◌, subst, arith}
use Rattle.std.proofs.lemmas.Bool.{cases_lt}
use Rattle.sector_device.specs.declared.device.Failed.{Failed}
use Rattle.sector_device.specs.Disk.{CrashState, sector, IsSector, Disk, after_write, after_sync, IsFailedWrite, IsCrashState, SameOutside}
use Rattle.sector_device.specs.DevicePast.{DevicePast, Elapses, Between, LeavesOnly, Spans}
use Rattle.sector_device.proofs.Sectors.{holds_after_write, holds_after_sync, image_before_write, content_is_image}

-- before the first call
pub started : (h : DevicePast) (P : CrashState → Type 0) → ((c : CrashState) → IsCrashState h.disk c → P c) → LeavesOnly h h P
started h P here = record {
  later = omega arith;
  kept = λ t le. refl;
  each = λ t c from to crash. here c (subst (λ d. IsCrashState d c) (is_now t from to) crash);
}
  where
    is_now : (t : ℕ) → h.moment ≤ t → t ≤ h.moment → h.disk_at t ≡ h.disk
    is_now t from to = let same : t ≡ h.moment = omega arith in subst (λ u. h.disk_at u ≡ h.disk) (sym same) h.now

-- one call, before and after which a crash leaves what has P
pub one_call : (old new : DevicePast) (P : CrashState → Type 0) → Elapses old new → ((c : CrashState) → IsCrashState old.disk c → P c)
    → ((c : CrashState) → IsCrashState new.disk c → P c) → LeavesOnly old new P
one_call old new P time before after = record {
  later = time.later;
  kept = time.kept;
  each = λ t c from to crash. ⊎_elim (λ is. before c (subst (λ d. IsCrashState d c) is crash)) (λ is. after c (subst (λ d. IsCrashState d c) is crash))
      (time.during t from to);
}

-- one run after another
pub joined : (old mid new : DevicePast) (P : CrashState → Type 0) → LeavesOnly old mid P → LeavesOnly mid new P → LeavesOnly old new P
joined old mid new P first second = record {
  later = omega (arith, first.later, second.later);
  kept = λ t le. second.kept t (omega (arith, le, first.later)) ∙ first.kept t le;
  each = λ t c from to crash. ⊎_elim
      (λ early. first.each t c from (omega (arith, early)) (subst (λ d. IsCrashState d c) (second.kept t (omega (arith, early))) crash))
      (λ late. second.each t c late to crash)
      (cases_lt t mid.moment);
}

-- what a crash now leaves has P
pub at_end : (old new : DevicePast) (P : CrashState → Type 0) → LeavesOnly old new P → (c : CrashState) → IsCrashState new.disk c → P c
at_end old new P run c crash = run.each new.moment c run.later (omega arith) (subst (λ d. IsCrashState d c) (sym new.now) crash)

-- and so has the content
pub content_at_end : (old new : DevicePast) (P : CrashState → Type 0) → LeavesOnly old new P → P new.disk.content
content_at_end old new P run = at_end old new P run new.disk.content (content_is_image new.disk new.whole)

-- one call more, after which a crash leaves what has P
pub goes_on : (old mid new : DevicePast) (P : CrashState → Type 0) → LeavesOnly old mid P → Elapses mid new → ((c : CrashState) → IsCrashState new.disk c → P c)
    → LeavesOnly old new P
goes_on old mid new P so_far time here = joined old mid new P so_far (one_call mid new P time (at_end old mid P so_far) here)

module _ (old mid new : DevicePast) (P : CrashState → Type 0) (so_far : LeavesOnly old mid P) (time : Elapses mid new) (result : Result Unit Failed) where
  -- one write more, done or failed
  pub write_goes_on : (n : ℕ) (bytes : List ℕ) → OnOk result (new.disk ≡ after_write mid.disk n bytes) → OnErr result (IsFailedWrite mid.disk n new.disk)
      → ((b : List ℕ) (c : CrashState) → IsCrashState (after_write mid.disk n b) c → P c) → LeavesOnly old new P
  write_goes_on n bytes ok err here = goes_on old mid new P so_far time
      (holds_after_write (λ d. (c : CrashState) → IsCrashState d c → P c) mid.disk n bytes new.disk result ok err here)

  -- one write more, where P doesn't depend on the sector
  pub write_keeps : (n : ℕ) (bytes : List ℕ) → OnOk result (new.disk ≡ after_write mid.disk n bytes) → OnErr result (IsFailedWrite mid.disk n new.disk)
      → ((image c : CrashState) → P image → SameOutside (λ k. k ≡ n) image c → P c) → LeavesOnly old new P
  write_keeps n bytes ok err same = write_goes_on n bytes ok err (λ b c crash.
      let before = image_before_write mid.disk n b c mid.whole crash in
      same (slice_set c n (sector mid.disk.content n)) c (at_end old mid P so_far (slice_set c n (sector mid.disk.content n)) before.0) before.1)

  -- one sync more, done or failed: no image comes that a crash didn't leave before
  pub sync_goes_on : OnOk result (new.disk ≡ after_sync mid.disk) → OnErr result (new.disk ≡ mid.disk) → LeavesOnly old new P
  sync_goes_on ok err = goes_on old mid new P so_far time
      (holds_after_sync (λ d. (c : CrashState) → IsCrashState d c → P c) mid.disk new.disk result ok err (at_end old mid P so_far)
      (λ c crash. at_end old mid P so_far c (record {
        sectors = crash.sectors;
        kept = λ k is. crash.kept k refl;
        torn = λ k below is.
            subst IsSector (sym (crash.kept k refl)) (mid.whole k (omega (arith, below, crash.sectors)));
      })))

-- what has P has Q
pub weaker : (old new : DevicePast) (P Q : CrashState → Type 0) → ((c : CrashState) → P c → Q c) → LeavesOnly old new P → LeavesOnly old new Q
weaker old new P Q so run = record { later = run.later; kept = run.kept; each = λ t c from to crash. so c (run.each t c from to crash) }

spans_rise : (disk_at : ℕ → Disk) (P : ℕ → CrashState → Type 0) (j from : ℕ) (borders : List ℕ) (to : ℕ) → Spans disk_at P j from borders to → from ≤ to
spans_rise disk_at P j from [] to is = omega (arith, is)
spans_rise disk_at P j from (next ∷ borders) to spans = omega (arith, spans.0, spans_rise disk_at P (j + 1) next borders to spans.2)

-- as time goes on the spans stay
pub spans_kept : (before after : ℕ → Disk) (P : ℕ → CrashState → Type 0) (j from : ℕ) (borders : List ℕ) (to : ℕ) → ((t : ℕ) → t ≤ to → after t ≡ before t)
    → Spans before P j from borders to → Spans after P j from borders to
spans_kept before after P j from [] to kept is = is
spans_kept before after P j from (next ∷ borders) to kept spans = (
  spans.0,
  (λ t c low high crash. spans.1 t c low high (subst (λ d. IsCrashState d c)
      (kept t (omega (arith, high, spans_rise before P (j + 1) next borders to spans.2))) crash)),
  spans_kept before after P (j + 1) next borders to kept spans.2,
)

-- one span more
pub spans_push : (disk_at : ℕ → Disk) (P : ℕ → CrashState → Type 0) (j from : ℕ) (borders : List ℕ) (mid to : ℕ) → Spans disk_at P j from borders mid → mid ≤ to
    → Between disk_at mid to (P (j + length borders)) → Spans disk_at P j from (borders ++ to ∷ []) to
spans_push disk_at P j from [] mid to is rise span = (
  omega (arith, is),
  (λ t c low high crash. subst (λ n. P n c) (omega arith) (span t c (omega (arith, is, low)) high crash)),
  refl,
)
spans_push disk_at P j from (next ∷ borders) mid to spans rise span = (
  spans.0,
  spans.1,
  spans_push disk_at P (j + 1) next borders mid to spans.2 rise (subst (λ n. Between disk_at mid to (P n)) (omega arith) span),
)

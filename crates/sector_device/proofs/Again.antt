-- Calls that are made again, over what a disk held at first, and a crash behind them.
use Rattle.std.proofs.Common.{◌≡◌, inl, inr, ℕ, ◌≤◌, true, false, List, [], length, replicate, slice_set, sym, ◌∙◌, ap, subst, arith}
use Rattle.std.proofs.Common.{length-set}
use Rattle.std.proofs.lemmas.Bool.{cases_eq}
use Rattle.std.proofs.lemmas.List.{get_or-set_other, set_past}
use Rattle.std.proofs.lemmas.Grind.{get_or-set_at}
use Rattle.std.proofs.Math.ListN.{length-replicate}
use Rattle.sector_device.specs.declared.call.Call.TheVariants.{Write, Sync}
use Rattle.sector_device.specs.declared.call.Fate.{Fate}
use Rattle.sector_device.specs.Disk.{CrashState, IsSector, IsDiskWhole, IsCrashState}
use Rattle.sector_device.specs.Memory.{MemoryState, initial_state, step, disk_of, marked_state, unsynced_since}
use Rattle.sector_device.specs.Crash.{IsCrashed}
use Rattle.sector_device.proofs.Record.{length-unsynced, unsynced-set, none_unsynced, all_zero}
use Rattle.sector_device.proofs.Sectors.{image_is_whole}
use Rattle.sector_device.proofs.Tear.{crash_image}

-- ---- a write

pub set_whole : (image : CrashState) (n : ℕ) (bytes : List ℕ) → IsSector bytes → IsDiskWhole image → IsDiskWhole (slice_set image n bytes)
set_whole image n bytes all whole k below = elim (cases_eq k n) [
  | inl same ↦ subst IsSector (sym (get_or-set_at image n k bytes [] same (omega (arith, below, same, length-set image n bytes)))) all
  | inr other ↦ subst IsSector (sym (get_or-set_other image n k bytes [] other)) (whole k (omega (arith, below, length-set image n bytes)))
]

-- the sector is marked
pub marked : (marks : List ℕ) (n : ℕ) → unsynced_since 0 (slice_set marks n 1) ≡ slice_set (unsynced_since 0 marks) n true
marked marks n = unsynced-set 0 marks n 1 (omega arith)

-- there is no such sector
pub none_set : (image : CrashState) (n : ℕ) (bytes : List ℕ) → length image ≤ n → image ≡ slice_set image n bytes
none_set image n bytes past = sym (set_past image n bytes past)

pub none_marked : (marks : List ℕ) (n : ℕ) → length marks ≤ n → unsynced_since 0 marks ≡ slice_set (unsynced_since 0 marks) n true
none_marked marks n past = sym (set_past (unsynced_since 0 marks) n true (omega (arith, past, length-unsynced 0 marks)))

pub made_write : (content synced other : CrashState) (marks others : List ℕ) (n : ℕ) (bytes : List ℕ) → other ≡ slice_set content n bytes
    → unsynced_since 0 others ≡ slice_set (unsynced_since 0 marks) n true
    → marked_state other synced others ≡ step (marked_state content synced marks) (Write n bytes)
made_write content synced other marks others n bytes is flags = λ i. record { content = is i; synced = synced; unsynced = flags i }

-- ---- a sync, and the beginning

none_marks : (marks : List ℕ) (n size : ℕ) → marks ≡ replicate n 0 → n ≡ size → unsynced_since 0 marks ≡ replicate size false
none_marks marks n size zeros same =
    ap (unsynced_since 0) zeros ∙ none_unsynced 0 (replicate n 0) (λ k. omega (arith, all_zero n k))
    ∙ ap (λ m. replicate m false) (length-replicate n 0 ∙ same)

pub made_sync : (content synced other : CrashState) (marks others : List ℕ) (n : ℕ) → other ≡ content → others ≡ replicate n 0 → n ≡ length content
    → marked_state content other others ≡ step (marked_state content synced marks) Sync
made_sync content synced other marks others n is zeros size =
    let flags = none_marks others n (length content) zeros size in
    λ i. record { content = content; synced = is i; unsynced = flags i }

pub begun : (first content synced : CrashState) (marks : List ℕ) (n : ℕ) → content ≡ first → synced ≡ first → marks ≡ replicate n 0 → n ≡ length first
    → marked_state content synced marks ≡ initial_state first
begun first content synced marks n is was zeros size =
    let flags = none_marks marks n (length first) zeros size in
    λ i. record { content = is i; synced = was i; unsynced = flags i }

-- ---- the crash

module _ (fates : List Fate) (content synced image : CrashState) (marks : List ℕ) (s : MemoryState) (is : marked_state content synced marks ≡ s)
    (whole : IsDiskWhole content) (synced_whole : IsDiskWhole synced) (size : length synced ≡ length content)
    (crashed : IsCrashed fates (marked_state content synced marks) image) where
  pub crashed_so : IsCrashed fates s image
  crashed_so = subst (λ t. IsCrashed fates t image) is crashed

  leaves : IsCrashState (disk_of (marked_state content synced marks)) image
  leaves = crash_image fates (marked_state content synced marks) image whole (λ k below. synced_whole k (omega (arith, below, size))) crashed

  pub leaves_so : IsCrashState (disk_of s) image
  leaves_so = subst (λ t. IsCrashState (disk_of t) image) is leaves

  pub left_whole : IsDiskWhole image
  left_whole = image_is_whole (disk_of (marked_state content synced marks)) image whole leaves

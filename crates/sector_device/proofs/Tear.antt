-- The unsynced sectors get their fates, one after the other.
use Rattle.std.proofs.Common.{◌≡◌, ◌≢◌, ⊎_elim, ℕ, ◌+◌, ◌<◌, ◌≤◌, Bool, true, false, List, [], length, replicate, slice_index, slice_set, slice_index_or, refl}
use Rattle.std.proofs.Common.{sym, ◌∙◌, ap, subst, arith, length-set}
use Rattle.std.proofs.lemmas.Bool.{cases_eq, cases_lt, true≢false}
use Rattle.std.proofs.lemmas.List.{get_or-set_same, get_or-set_other, get_or_past}
use Rattle.std.proofs.Math.ListN.{length-replicate, get_or-replicate}
use Rattle.std.proofs.lemmas.Grind.{common_steps}
use Rattle.sector_device.specs.declared.call.Fate.{Fate}
use Rattle.sector_device.specs.declared.call.Fate.TheVariants.{Old, New, Zero, Gate, Junk}
use Rattle.sector_device.specs.Disk.{CrashState, sector, IsSector, IsDiskWhole, IsCrashState}
use Rattle.sector_device.specs.Memory.{MemoryState, disk_of, unsynced_since, Represents}
use Rattle.sector_device.specs.Crash.{IsJunk, IsFilled, HasFate, fate_at, unsynced_below, IsCrashed}

-- the sectors below k have their fates, and the others are as they were
pub record TornBelow (fates : List Fate) (s : MemoryState) (image : CrashState) (k next : ℕ) : Type 0 where
  pub count : next ≡ unsynced_below s.unsynced k
  pub sectors : length image ≡ length s.content
  pub synced : (j : ℕ) → slice_index_or s.unsynced j false ≡ false → sector image j ≡ sector s.content j
  pub fated : (j : ℕ) → j < k → slice_index_or s.unsynced j false ≡ true
      → HasFate (fate_at fates (unsynced_below s.unsynced j)) (sector s.synced j) (sector s.content j) (sector image j)
  pub rest : (j : ℕ) → k ≤ j → sector image j ≡ sector s.content j

pub torn_start : (fates : List Fate) (s : MemoryState) → TornBelow fates s s.content 0 0
torn_start fates s = record { count = refl; sectors = refl; synced = λ j is. refl; fated = λ j below is. absurd (omega arith); rest = λ j le. refl }

one_more : (flags : List Bool) (k : ℕ) → k < length flags → slice_index_or flags k false ≡ true → unsynced_below flags (k + 1) ≡ unsynced_below flags k + 1
one_more flags k below is = grind (arith, common_steps)

no_more : (flags : List Bool) (k : ℕ) → k < length flags → slice_index_or flags k false ≡ false → unsynced_below flags (k + 1) ≡ unsynced_below flags k
no_more flags k below is = grind (arith, common_steps)

module _ (fates : List Fate) (s : MemoryState) (image : CrashState) (k next : ℕ) (so_far : TornBelow fates s image k next) (below : k < length s.content)
    (flag : k < length s.unsynced) where
  pub torn_synced : slice_index_or s.unsynced k false ≡ false → TornBelow fates s image (k + 1) next
  torn_synced is = record {
    count = so_far.count ∙ sym (no_more s.unsynced k flag is);
    sectors = so_far.sectors;
    synced = so_far.synced;
    fated = λ j under flags. ⊎_elim (λ same. absurd (true≢false (sym flags ∙ ap (λ n. slice_index_or s.unsynced n false) same ∙ is))) (λ other.
        so_far.fated j (omega (arith, under, other)) flags) (cases_eq j k);
    rest = λ j le. so_far.rest j (omega (arith, le));
  }

  pub torn_unsynced : (bytes : List ℕ) → slice_index_or s.unsynced k false ≡ true → HasFate (fate_at fates next) (sector s.synced k) (sector image k) bytes
      → TornBelow fates s (slice_set image k bytes) (k + 1) (next + 1)
  torn_unsynced bytes is fate = record {
    count = ap (λ n. n + 1) so_far.count ∙ sym (one_more s.unsynced k flag is);
    sectors = length-set image k bytes ∙ so_far.sectors;
    synced = λ j is_synced. get_or-set_other image k j bytes [] (λ same.
        true≢false (sym is ∙ ap (λ n. slice_index_or s.unsynced n false) (sym same) ∙ is_synced)) ∙ so_far.synced j is_synced;
    fated = λ j under flags. ⊎_elim (here j) (λ other. elsewhere j (omega (arith, under, other)) other flags) (cases_eq j k);
    rest = λ j le. get_or-set_other image k j bytes [] (omega (arith, le)) ∙ so_far.rest j (omega (arith, le));
  }
    where
      put : sector (slice_set image k bytes) k ≡ bytes
      put = get_or-set_same image k bytes [] (omega (arith, below, so_far.sectors))

      Fated : ℕ → Type 0
      Fated j = HasFate (fate_at fates (unsynced_below s.unsynced j)) (sector s.synced j) (sector s.content j) (sector (slice_set image k bytes) j)

      at_k : HasFate (fate_at fates (unsynced_below s.unsynced k)) (sector s.synced k) (sector s.content k) (sector (slice_set image k bytes) k)
      at_k = rw (← so_far.count, ← so_far.rest k (omega arith), put) fate

      here : (j : ℕ) → j ≡ k → HasFate (fate_at fates (unsynced_below s.unsynced j)) (sector s.synced j) (sector s.content j)
          (sector (slice_set image k bytes) j)
      here j same = subst (λ n. HasFate (fate_at fates (unsynced_below s.unsynced n)) (sector s.synced n) (sector s.content n)
          (sector (slice_set image k bytes) n)) (sym same) at_k

      elsewhere : (j : ℕ) → j < k → j ≢ k → slice_index_or s.unsynced j false ≡ true
          → HasFate (fate_at fates (unsynced_below s.unsynced j)) (sector s.synced j) (sector s.content j) (sector (slice_set image k bytes) j)
      elsewhere j under other flags = subst (HasFate (fate_at fates (unsynced_below s.unsynced j)) (sector s.synced j) (sector s.content j))
          (sym (get_or-set_other image k j bytes [] other)) (so_far.fated j under flags)

pub torn_end : (fates : List Fate) (s : MemoryState) (image : CrashState) (k next : ℕ) → length s.content ≤ k → TornBelow fates s image k next
    → IsCrashed fates s image
torn_end fates s image k next past torn = record {
  sectors = torn.sectors;
  synced = torn.synced;
  unsynced = λ j below is.
      torn.fated j (omega (arith, below, past)) is;
}

-- each fate leaves 512 bytes
filled_any : (n b i : ℕ) → i < n → slice_index (replicate n b) i ≡ b
filled_any n b i below = get_or-replicate n i b 0 below

pub filled : (b : ℕ) (bytes : List ℕ) (n : ℕ) → n ≡ 512 → bytes ≡ replicate n b → IsFilled b bytes
filled b bytes n size is = record {
  size = ap length is ∙ length-replicate n b ∙ size;
  each = λ i below. ap (λ l. slice_index l i) is ∙ filled_any n b i (omega (arith, below, size));
}

below_end : (bytes : List ℕ) → length bytes ≡ 512 → ((i : ℕ) → i < 512 → slice_index bytes i < 256) → (i : ℕ) → slice_index bytes i < 256
below_end bytes size inside i = ⊎_elim (inside i) (λ past. rw (get_or_past bytes i 0 (omega (arith, size, past))) (omega arith)) (cases_lt i 512)

filled_sector : (b : ℕ) (bytes : List ℕ) → b < 256 → IsFilled b bytes → IsSector bytes
filled_sector b bytes below full = record { size = full.size; are_bytes = below_end bytes full.size (λ i inside. omega (arith, full.each i inside, below)) }

junk_sector : (bytes : List ℕ) → IsJunk bytes → IsSector bytes
junk_sector bytes junk = record { size = junk.size; are_bytes = below_end bytes junk.size (λ i inside. omega (arith, junk.each i inside)) }

fate_sector : (fate : Fate) (old new bytes : List ℕ) → IsSector old → IsSector new → HasFate fate old new bytes → IsSector bytes
fate_sector Old old new bytes of_old of_new is = subst IsSector (sym is) of_old
fate_sector New old new bytes of_old of_new is = subst IsSector (sym is) of_new
fate_sector Zero old new bytes of_old of_new is = filled_sector 0 bytes (omega arith) is
fate_sector Gate old new bytes of_old of_new is = filled_sector 165 bytes (omega arith) is
fate_sector Junk old new bytes of_old of_new is = junk_sector bytes is

-- what a crash makes of the vectors is what it makes of the state
pub crashed_state : (fates : List Fate) (s : MemoryState) (calls : ℕ) (content before : CrashState) (written_at : List ℕ) (synced_at : ℕ) (image : CrashState)
    → Represents s calls content before written_at synced_at
    → IsCrashed fates (record { content = content; synced = before; unsynced = unsynced_since synced_at written_at }) image → IsCrashed fates s image
crashed_state fates s calls content before written_at synced_at image represents crashed = record {
  sectors = crashed.sectors ∙ ap length (sym represents.content_is);
  synced = λ k is. crashed.synced k (subst (λ f. slice_index_or f k false ≡ false) represents.unsynced_is is)
      ∙ ap (λ c. sector c k) (sym represents.content_is);
  unsynced = λ k below is. fated k is (crashed.unsynced k (omega (arith, below, ap length represents.content_is))
      (subst (λ f. slice_index_or f k false ≡ true) represents.unsynced_is is));
}
  where
    fated : (k : ℕ) → slice_index_or s.unsynced k false ≡ true
        → HasFate (fate_at fates (unsynced_below (unsynced_since synced_at written_at) k)) (sector before k) (sector content k) (sector image k)
        → HasFate (fate_at fates (unsynced_below s.unsynced k)) (sector s.synced k) (sector s.content k) (sector image k)
    fated k is fate =
        subst (λ f. HasFate (fate_at fates (unsynced_below f k)) (sector s.synced k) (sector s.content k) (sector image k)) (sym represents.unsynced_is)
        (subst (λ c. HasFate (fate_at fates (unsynced_below (unsynced_since synced_at written_at) k)) (sector s.synced k) (sector c k) (sector image k))
        (sym represents.content_is)
        (subst (λ b. HasFate (fate_at fates (unsynced_below (unsynced_since synced_at written_at) k)) b (sector content k) (sector image k))
        (sym (represents.before_is k is)) fate))

-- it is a crash image of the disk
pub crash_image : (fates : List Fate) (s : MemoryState) (image : CrashState) → IsDiskWhole s.content
    → ((k : ℕ) → k < length s.content → IsSector (sector s.synced k)) → IsCrashed fates s image → IsCrashState (disk_of s) image
crash_image fates s image whole synced_whole crashed = record {
  sectors = crashed.sectors;
  kept = crashed.synced;
  torn = λ k below is. fate_sector _ _ _ _ (synced_whole k (omega (arith, below, crashed.sectors))) (whole k (omega (arith, below, crashed.sectors)))
      (crashed.unsynced k (omega (arith, below, crashed.sectors)) is);
}

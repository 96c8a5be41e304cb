-- What a crash leaves while a slot is written.
use Rattle.std.proofs.Common.{◌≡◌, ◌≢◌, inl, inr, ⊎_elim, ℕ, ◌+◌, ◌-◌, ◌<◌, ◌≤◌, false, List, [], ◌∷◌, ◌++◌, length, slice_index, slice_range, sym, ap, subst}
use Rattle.std.proofs.Common.{◌∙◌, arith, length-append, replicate}
use Rattle.std.specs.List.{concat}
use Rattle.std.proofs.lemmas.Bool.{cases_eq, false≢true}
use Rattle.std.proofs.lemmas.List.{length-replicate}
use Rattle.sector_device.specs.Disk.{CrashState, sector, Disk, IsCrashState, SameOutside}
use Rattle.sector_device.specs.DevicePast.{DevicePast, LeavesOnly}
use Rattle.sector_device.proofs.Moments.{weaker, started}
use Rattle.sector_device.proofs.Sectors.{same_part, crash_outside, outside_unsynced, same_outside_wider}
use Rattle.sector_device.specs.DevicePast.{RunsWithin}
use Rattle.records.specs.RecordValue.{RecordValue}
use Rattle.gate_log.specs.Group.{spellings, header, IsGroup}
use Rattle.gate_log.specs.Area.{Log, gate, body, InArea, IsOpen, HoldsGroups, Stands, IsAppended}
use Rattle.gate_log.specs.Steps.{MayDiffer, IsPartlyWritten}
use Rattle.gate_log.proofs.Groups.{length-header}
use Rattle.gate_log.proofs.Areas.{holds_before, holds_after, holds_same}

-- until the body is on the disk
pub partly_before : (old mid : DevicePast) (n : ℕ) (bytes : List ℕ) → old.disk.unsynced n ≡ false
    → RunsWithin (MayDiffer old.disk (n + 1) (n + 8)) old.disk.content old mid → LeavesOnly old mid (IsPartlyWritten old.disk n bytes)
partly_before old mid n bytes all_synced run = weaker old mid (SameOutside (MayDiffer old.disk (n + 1) (n + 8)) old.disk.content)
    (IsPartlyWritten old.disk n bytes) so run.run
  where
    untouched : ¬ MayDiffer old.disk (n + 1) (n + 8) n
    untouched (inl within) = omega (arith, within.0)
    untouched (inr unsynced) = false≢true (sym all_synced ∙ unsynced)

    wide : (k : ℕ) → MayDiffer old.disk (n + 1) (n + 8) k → MayDiffer old.disk n (n + 8) k
    wide k (inl within) = inl (omega (arith, within.0), within.1)
    wide k (inr unsynced) = inr unsynced

    so : (c : CrashState) → SameOutside (MayDiffer old.disk (n + 1) (n + 8)) old.disk.content c → IsPartlyWritten old.disk n bytes c
    so c same = record {
      outside = same_outside_wider (MayDiffer old.disk (n + 1) (n + 8)) (MayDiffer old.disk n (n + 8)) old.disk.content c wide same;
      either = inl (same.same n untouched);
    }

-- from then on
pub partly_after : (old mid new : DevicePast) (n : ℕ) (bytes : List ℕ) → SameOutside (λ k. (n + 1 ≤ k) × (k < n + 8)) old.disk.content mid.disk.content
    → concat (slice_range mid.disk.content (n + 1) (n + 8)) ≡ bytes
    → RunsWithin (λ k. k ≡ n) mid.disk.content mid new → LeavesOnly mid new (IsPartlyWritten old.disk n bytes)
partly_after old mid new n bytes first there run = weaker mid new (SameOutside (λ k. k ≡ n) mid.disk.content) (IsPartlyWritten old.disk n bytes) so run.run
  where
    so : (c : CrashState) → SameOutside (λ k. k ≡ n) mid.disk.content c → IsPartlyWritten old.disk n bytes c
    so c same = record {
      outside = record {
        sectors = same.sectors ∙ first.sectors;
        same = λ k out. same.same k (λ is. out (inl (omega (arith, is), omega (arith, is))))
            ∙ first.same k (λ inside. out (inl (omega (arith, inside.0), inside.1)));
      };
      either = inr (ap concat (same_part c mid.disk.content (n + 1) (n + 8) same.sectors (λ k low high. same.same k (λ is. omega (arith, is, low)))) ∙ there);
    }

pub length-group : (records : List RecordValue) (bytes : List ℕ) → IsGroup records bytes → length bytes ≡ 3584
length-group records bytes group =
    let front : List ℕ = header (length records) (length (spellings records)) in
    let zeros : List ℕ = replicate (3580 - length (spellings records)) 0 in
    ap length group.spelled ∙ omega (
      arith,
      group.fits.short,
      length-header (length records) (length (spellings records)),
      length-append {A = ℕ} front (spellings records ++ zeros),
      length-append {A = ℕ} (spellings records) zeros,
      length-replicate {A = ℕ} (3580 - length (spellings records)) 0,
    )

module _ (log : Log) (old : Disk) (records : List RecordValue) (all_synced : (n : ℕ) → InArea log.area n
    → old.unsynced n ≡ false) (room : log.open_slots < log.area.slots) where
  -- the other slots are as they were
  others : (c : CrashState) (groups : List (List RecordValue)) → Stands log old.content groups
      → SameOutside (MayDiffer old (gate log.area log.open_slots) (gate log.area log.open_slots + 8)) old.content c
      → (i : ℕ) → i < log.area.slots → i ≢ length groups → (k : ℕ) → gate log.area i ≤ k → k < gate log.area i + 8 → sector c k ≡ sector old.content k
  others c groups stands same i lt other k low high = same.same k outside
    where
      outside : ¬ MayDiffer old (gate log.area log.open_slots) (gate log.area log.open_slots + 8) k
      outside (inl within) = omega (arith, within.0, within.1, low, high, other, stands.counted)
      outside (inr unsynced) = false≢true (sym (all_synced k (omega (arith, low), omega (arith, high, lt))) ∙ unsynced)

  -- with an open gate it is
  pub is_appended : (bytes : List ℕ) (c : CrashState) (groups : List (List RecordValue)) → IsGroup records bytes
      → SameOutside (MayDiffer old (gate log.area log.open_slots) (gate log.area log.open_slots + 8)) old.content c → Stands log old.content groups
      → IsOpen c (gate log.area log.open_slots) → body c (gate log.area log.open_slots) ≡ bytes → HoldsGroups log.area c (groups ++ records ∷ [])
  is_appended bytes c groups group same stands is_open there =
      holds_after log.area old.content c groups same.sectors stands.held (others c groups stands same) records (omega (arith, stands.counted))
      (subst (λ m. IsOpen c (gate log.area m)) stands.counted is_open)
      (subst (λ m. IsGroup records (body c (gate log.area m))) stands.counted (subst (IsGroup records) (sym there) group))

  -- with a closed gate it is not
  not_appended : (c : CrashState) (groups : List (List RecordValue))
      → SameOutside (MayDiffer old (gate log.area log.open_slots) (gate log.area log.open_slots + 8)) old.content c → Stands log old.content groups
      → ¬ IsOpen c (gate log.area log.open_slots) → HoldsGroups log.area c groups
  not_appended c groups same stands shut =
      holds_before log.area old.content c groups same.sectors stands.held (others c groups stands same) (λ _.
      subst (λ m. ¬ IsOpen c (gate log.area m)) stands.counted shut)

  was_shut : (groups : List (List RecordValue)) → Stands log old.content groups → ¬ IsOpen old.content (gate log.area log.open_slots)
  was_shut groups stands = stands.held.closed log.open_slots (omega (arith, stands.counted)) room

  -- what was partly written is appended or not
  pub appended : (bytes : List ℕ) (c : CrashState) → IsGroup records bytes → IsPartlyWritten old (gate log.area log.open_slots) bytes c
      → IsAppended log old records c
  appended bytes c group partly = record {
    outside = partly.outside;
    groups = λ groups stands. ⊎_elim
        (λ is_open. ⊎_elim
        (λ same. absurd (was_shut groups stands (ap (λ (b : List ℕ). slice_index b 0) (sym same) ∙ is_open)))
        (λ there. inr (is_appended bytes c groups group partly.outside stands is_open there))
        partly.either)
        (λ shut. inl (not_appended c groups partly.outside stands shut))
        (cases_eq (slice_index (sector c (gate log.area log.open_slots)) 0) 165);
  }

-- nothing was written
pub nothing_appended : (log : Log) (h : DevicePast) (records : List RecordValue) → ((n : ℕ) → InArea log.area n → h.disk.unsynced n ≡ false)
    → LeavesOnly h h (IsAppended log h.disk records)
nothing_appended log h records all_synced = started h (IsAppended log h.disk records) here
  where
    here : (c : CrashState) → IsCrashState h.disk c → IsAppended log h.disk records c
    here c crash = record {
      outside = crash_outside (MayDiffer h.disk (gate log.area log.open_slots) (gate log.area log.open_slots + 8)) h.disk.content h.disk c
          (outside_unsynced (λ k. (gate log.area log.open_slots ≤ k) × (k < gate log.area log.open_slots + 8)) h.disk) crash;
      groups = λ groups stands. inl (holds_same log.area h.disk.content c groups crash.sectors (λ n inside. crash.kept n (all_synced n inside)) stands.held);
    }

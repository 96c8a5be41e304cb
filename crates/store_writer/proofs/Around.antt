-- Calls that write the logs alone, one after another.
use Rattle.std.proofs.Common.{◌≡◌, ◌⊎◌, inl, inr, ⊎_elim, ℕ, ◌<◌, Bool, true, false, List, [], length, slice_index, slice_set, refl, sym, ap, subst, ◌∙◌, arith}
use Rattle.std.proofs.Common.{length-set}
use Rattle.std.proofs.lemmas.Bool.{false≢true, cases_eq, cases_lt}
use Rattle.std.proofs.lemmas.List.{get_or-set_other, get_or_past}
use Rattle.std.proofs.lemmas.Grind.{get_or-set_at}
use Rattle.sector_device.specs.Disk.{CrashState, sector, IsSector, IsCrashState, SameOutside}
use Rattle.sector_device.specs.DevicePast.{DevicePast, LeavesOnly}
use Rattle.sector_device.proofs.Moments.{started, joined, weaker, at_end}
use Rattle.sector_device.proofs.Sectors.{crash_outside, outside_unsynced, same_outside_then, same_outside_wider}
use Rattle.flip_image.specs.Layout.{HalvesValue, other, InLog}
use Rattle.store_writer.specs.declared.writer.Writer.{Writer}
use Rattle.store_writer.specs.Writer.{InLogs, WritesLogsAlone}

-- ---- a sector that no crash changes is synced

with_first : (x : List ℕ) (b : ℕ) → IsSector x → b < 256 → IsSector (slice_set x 0 b)
with_first x b is small = record {
  size = length-set x 0 b ∙ is.size;
  are_bytes = λ i. ⊎_elim
      (λ first. subst (λ n. n < 256) (sym (get_or-set_at x 0 i b 0 first (omega (arith, is.size)))) small)
      (λ later. subst (λ n. n < 256) (sym (get_or-set_other x 0 i b 0 later)) (is.are_bytes i))
      (cases_eq i 0);
}

module _ (h : DevicePast) (k : ℕ) (below : k < length h.disk.content) (loose : h.disk.unsynced k ≡ true) where
  torn : (bytes : List ℕ) → IsSector bytes → IsCrashState h.disk (slice_set h.disk.content k bytes)
  torn bytes is = record {
    sectors = length-set h.disk.content k bytes;
    kept = λ j synced. get_or-set_other h.disk.content k j bytes [] (λ same. false≢true (sym synced ∙ ap h.disk.unsynced same ∙ loose));
    torn = λ j inside _. ⊎_elim
        (λ same. subst IsSector (sym (get_or-set_at h.disk.content k j bytes [] same below)) is)
        (λ another. subst IsSector (sym (get_or-set_other h.disk.content k j bytes [] another))
        (h.whole j (omega (arith, inside, length-set h.disk.content k bytes))))
        (cases_eq j k);
  }

  not_kept : (there : List ℕ) → ¬ ((c : CrashState) → IsCrashState h.disk c → sector c k ≡ there)
  not_kept there kept = omega (arith, sym (get_or-set_at x 0 0 0 0 refl some) ∙ ap (λ (l : List ℕ). slice_index l 0) both ∙ get_or-set_at x 0 0 1 0 refl some)
    where
      x : List ℕ
      x = sector h.disk.content k

      some : 0 < length x
      some = omega (arith, (h.whole k below).size)

      is_there : (b : ℕ) → b < 256 → slice_set x 0 b ≡ there
      is_there b small = sym (get_or-set_at h.disk.content k k (slice_set x 0 b) [] refl below)
          ∙ kept (slice_set h.disk.content k (slice_set x 0 b)) (torn (slice_set x 0 b) (with_first x b (h.whole k below) small))

      both : slice_set x 0 0 ≡ slice_set x 0 1
      both = is_there 0 (omega arith) ∙ sym (is_there 1 (omega arith))

-- ---- calls

module _ {D M : Type 0} (past_of : D → DevicePast) where
  -- a sector that a crash may change in a call that writes the logs alone
  abbrev MayChange : Writer D M → ℕ → Type 0
  MayChange w n = InLogs w n ⊎ ((past_of w.device).disk.unsynced n ≡ true)

  abbrev content : Writer D M → CrashState
  content w = (past_of w.device).disk.content

  -- one that leaves device, halves, log and image alone
  pub none_written : (old new : Writer D M) → new.device ≡ old.device → new.halves ≡ old.halves → new.log ≡ old.log → new.image ≡ old.image
      → WritesLogsAlone past_of old new
  none_written old new device halves log image = record {
    halves-are = halves;
    area-is = ap (λ l. l.area) log;
    none-begun = λ none. image ∙ none;
    now = subst (λ (d : D). SameOutside (InLogs old) (content old) (past_of d).disk.content) (sym device) (record { sectors = refl; same = λ k out. refl });
    images = subst (λ (d : D). LeavesOnly (past_of old.device) (past_of d) (SameOutside (MayChange old) (content old))) (sym device)
        (started (past_of old.device) (SameOutside (MayChange old) (content old)) (λ c crash.
        crash_outside (MayChange old) (content old) (past_of old.device).disk c (outside_unsynced (InLogs old) (past_of old.device).disk) crash));
  }

  -- one after another
  module _ (old mid new : Writer D M) (first : WritesLogsAlone past_of old mid) (second : WritesLogsAlone past_of mid new) where
    in_logs : (n : ℕ) → InLogs mid n → InLogs old n
    in_logs n inside = ⊎_elim
        (λ here. inl (subst (λ (h : HalvesValue). InLog h.geometry h.current n) first.halves-are here))
        (λ there. inr ((λ none. there.0 (first.none-begun none)), subst (λ (h : HalvesValue). InLog h.geometry (other h.current) n) first.halves-are there.1))
        inside

    kept : (c : CrashState) → SameOutside (MayChange mid) (content mid) c → (k : ℕ) → ¬ MayChange old k → (b : Bool) → (past_of mid.device).disk.unsynced k ≡ b
        → sector c k ≡ sector (content old) k
    kept c same k out false synced =
        same.same k (λ either. ⊎_elim (λ log. out (inl (in_logs k log))) (λ loose. false≢true (sym synced ∙ loose)) either)
        ∙ first.now.same k (λ log. out (inl log))
    kept c same k out true loose = ⊎_elim
        (λ below. absurd (not_kept (past_of mid.device) k below loose (sector (content old) k) (λ d crash.
        (at_end (past_of old.device) (past_of mid.device) (SameOutside (MayChange old) (content old)) first.images d crash).same k out)))
        (λ past. get_or_past c k [] (omega (arith, past, same.sectors)) ∙ sym (get_or_past (content old) k [] (omega (arith, past, first.now.sectors))))
        (cases_lt k (length (content mid)))

    pub then_around : WritesLogsAlone past_of old new
    then_around = record {
      halves-are = second.halves-are ∙ first.halves-are;
      area-is = second.area-is ∙ first.area-is;
      none-begun = λ none. second.none-begun (first.none-begun none);
      now = same_outside_then (InLogs old) (content old) (content mid) (content new) first.now
          (same_outside_wider (InLogs mid) (InLogs old) (content mid) (content new) in_logs second.now);
      images = joined (past_of old.device) (past_of mid.device) (past_of new.device) (SameOutside (MayChange old) (content old)) first.images
          (weaker (past_of mid.device) (past_of new.device) (SameOutside (MayChange mid) (content mid)) (SameOutside (MayChange old) (content old))
          (λ c same. record { sectors = same.sectors ∙ first.now.sectors; same = λ k out. kept c same k out ((past_of mid.device).disk.unsynced k) refl })
          second.images);
    }

-- The loose blocks get their fates, one after the other.
use Rattle.std.proofs.Common.{◌≡◌, ◌≢◌, inl, inr, ⊎_elim, ℕ, ◌+◌, ◌-◌, ◌<◌, ◌≤◌, Bool, true, false, List, [], length, take, drop, slice_index, slice_set}
use Rattle.std.proofs.Common.{slice_index_or, refl, sym, ◌∙◌, ap, subst, arith, length-set, length-append, length-take, length-drop}
use Rattle.std.proofs.lemmas.Bool.{cases_eq, cases_lt, true≢false}
use Rattle.std.proofs.lemmas.List.{get_or-set_same, get_or-set_other, get_or_past, get_or_append_left, get_or-append_right, get_or-take, get_or-drop}
use Rattle.std.proofs.lemmas.Grind.{common_steps}
use Rattle.block_device.specs.declared.fate.Fate.{Fate}
use Rattle.block_device.specs.declared.fate.Fate.TheVariants.{Old, New, Front, Back, Junk}
use Rattle.block_device.specs.Blocks.{CrashFile, block, IsBlock, IsWhole, IsCrashFile}
use Rattle.block_device.specs.Crash.{IsJunk, halves, HasFate, fate_at, loose_below, Torn, IsCrashed}

-- the blocks below k have their fates, and the others are as they were
pub record TornBelow (fates : List Fate) (s : Torn) (image : CrashFile) (k next : ℕ) : Type 0 where
  pub count : next ≡ loose_below s.loose k
  pub size : length image ≡ length s.content
  pub kept : (j : ℕ) → slice_index_or s.loose j false ≡ false → block image j ≡ block s.content j
  pub fated : (j : ℕ) → j < k → slice_index_or s.loose j false ≡ true
      → HasFate (fate_at fates (loose_below s.loose j)) (block s.synced j) (block s.content j) (block image j)
  pub rest : (j : ℕ) → k ≤ j → block image j ≡ block s.content j

pub torn_start : (fates : List Fate) (s : Torn) → TornBelow fates s s.content 0 0
torn_start fates s = record { count = refl; size = refl; kept = λ j is. refl; fated = λ j below is. absurd (omega (arith, below)); rest = λ j le. refl }

one_more : (flags : List Bool) (k : ℕ) → k < length flags → slice_index_or flags k false ≡ true → loose_below flags (k + 1) ≡ loose_below flags k + 1
one_more flags k below is = grind (arith, common_steps)

no_more : (flags : List Bool) (k : ℕ) → k < length flags → slice_index_or flags k false ≡ false → loose_below flags (k + 1) ≡ loose_below flags k
no_more flags k below is = grind (arith, common_steps)

module _ (fates : List Fate) (s : Torn) (image : CrashFile) (k next : ℕ) (so_far : TornBelow fates s image k next) (below : k < length s.content)
    (flag : k < length s.loose) where
  pub torn_kept : slice_index_or s.loose k false ≡ false → TornBelow fates s image (k + 1) next
  torn_kept is = record {
    count = so_far.count ∙ sym (no_more s.loose k flag is);
    size = so_far.size;
    kept = so_far.kept;
    fated = λ j under flags. ⊎_elim (λ same. absurd (true≢false (sym flags ∙ ap (λ n. slice_index_or s.loose n false) same ∙ is))) (λ other.
        so_far.fated j (omega (arith, under, other)) flags) (cases_eq j k);
    rest = λ j le. so_far.rest j (omega (arith, le));
  }

  pub torn_loose : (bytes : List ℕ) → slice_index_or s.loose k false ≡ true → HasFate (fate_at fates next) (block s.synced k) (block image k) bytes
      → TornBelow fates s (slice_set image k bytes) (k + 1) (next + 1)
  torn_loose bytes is fate = record {
    count = ap (λ n. n + 1) so_far.count ∙ sym (one_more s.loose k flag is);
    size = length-set image k bytes ∙ so_far.size;
    kept = λ j is_kept. get_or-set_other image k j bytes [] (λ same.
        true≢false (sym is ∙ ap (λ n. slice_index_or s.loose n false) (sym same) ∙ is_kept)) ∙ so_far.kept j is_kept;
    fated = λ j under flags. ⊎_elim (here j) (λ other. elsewhere j (omega (arith, under, other)) other flags) (cases_eq j k);
    rest = λ j le. get_or-set_other image k j bytes [] (omega (arith, le)) ∙ so_far.rest j (omega (arith, le));
  }
    where
      put : block (slice_set image k bytes) k ≡ bytes
      put = get_or-set_same image k bytes [] (omega (arith, below, so_far.size))

      at_k : HasFate (fate_at fates (loose_below s.loose k)) (block s.synced k) (block s.content k) (block (slice_set image k bytes) k)
      at_k = rw (← so_far.count, ← so_far.rest k (omega arith), put) fate

      here : (j : ℕ) → j ≡ k → HasFate (fate_at fates (loose_below s.loose j)) (block s.synced j) (block s.content j)
          (block (slice_set image k bytes) j)
      here j same = subst (λ n. HasFate (fate_at fates (loose_below s.loose n)) (block s.synced n) (block s.content n)
          (block (slice_set image k bytes) n)) (sym same) at_k

      elsewhere : (j : ℕ) → j < k → j ≢ k → slice_index_or s.loose j false ≡ true
          → HasFate (fate_at fates (loose_below s.loose j)) (block s.synced j) (block s.content j) (block (slice_set image k bytes) j)
      elsewhere j under other flags = subst (HasFate (fate_at fates (loose_below s.loose j)) (block s.synced j) (block s.content j))
          (sym (get_or-set_other image k j bytes [] other)) (so_far.fated j under flags)

pub torn_end : (fates : List Fate) (s : Torn) (image : CrashFile) (k next : ℕ) → length s.content ≤ k → TornBelow fates s image k next
    → IsCrashed fates s image
torn_end fates s image k next past torn = record {
  size = torn.size;
  kept = torn.kept;
  fated = λ j below is. torn.fated j (omega (arith, below, past)) is;
}

-- ---- each fate leaves a block

below_end : (bytes : List ℕ) → length bytes ≡ 4096 → ((i : ℕ) → i < 4096 → slice_index bytes i < 256) → (i : ℕ) → slice_index bytes i < 256
below_end bytes size inside i = ⊎_elim (inside i) (λ past. rw (get_or_past bytes i 0 (omega (arith, size, past))) (omega arith)) (cases_lt i 4096)

junk_block : (bytes : List ℕ) → IsJunk bytes → IsBlock bytes
junk_block bytes junk = record { size = junk.size; are_bytes = below_end bytes junk.size (λ i inside. omega (arith, junk.each i inside)) }

module _ (front back : List ℕ) (of_front : IsBlock front) (of_back : IsBlock back) where
  first_size : length (take 2048 front) ≡ 2048
  first_size = omega (arith, length-take 2048 front, of_front.size)

  halves_size : length (halves front back) ≡ 4096
  halves_size = omega (arith, length-append (take 2048 front) (drop 2048 back), first_size, length-drop 2048 back, of_back.size)

  halves_block : IsBlock (halves front back)
  halves_block = record { size = halves_size; are_bytes = each }
    where
      each : (i : ℕ) → slice_index (halves front back) i < 256
      each i = elim (cases_lt i 2048) [
        | inl below ↦ rw (get_or_append_left (take 2048 front) (drop 2048 back) 0 i (omega (arith, first_size, below)), get_or-take 2048 front i 0 below)
            (of_front.are_bytes i)
        | inr past ↦ rw (get_or-append_right (take 2048 front) (drop 2048 back) 2048 i 0 first_size past, get_or-drop 2048 back (i - 2048) 0)
            (of_back.are_bytes (2048 + (i - 2048)))
      ]

fate_block : (fate : Fate) (old new bytes : List ℕ) → IsBlock old → IsBlock new → HasFate fate old new bytes → IsBlock bytes
fate_block Old old new bytes of_old of_new is = subst IsBlock (sym is) of_old
fate_block New old new bytes of_old of_new is = subst IsBlock (sym is) of_new
fate_block Front old new bytes of_old of_new is = subst IsBlock (sym is) (halves_block new old of_new of_old)
fate_block Back old new bytes of_old of_new is = subst IsBlock (sym is) (halves_block old new of_old of_new)
fate_block Junk old new bytes of_old of_new is = junk_block bytes is

-- it is a crash image of the file
pub crash_image : (fates : List Fate) (s : Torn) (image : CrashFile) → IsWhole s.content → IsWhole s.synced → length s.synced ≡ length s.content
    → IsCrashed fates s image → IsCrashFile (record { content = s.content; loose = λ n. slice_index_or s.loose n false }) image
crash_image fates s image whole synced_whole same crashed = record {
  size = crashed.size;
  kept = crashed.kept;
  torn = λ k below is. fate_block _ _ _ _ (synced_whole k (omega (arith, below, crashed.size, same))) (whole k (omega (arith, below, crashed.size)))
      (crashed.fated k (omega (arith, below, crashed.size)) is);
}

-- and each of its blocks is whole
pub crashed_whole : (fates : List Fate) (s : Torn) (image : CrashFile) → IsWhole s.content → IsWhole s.synced → length s.synced ≡ length s.content
    → IsCrashed fates s image → IsWhole image
crashed_whole fates s image whole synced_whole same crashed k below = go (slice_index_or s.loose k false) refl
  where
    go : (is : Bool) → slice_index_or s.loose k false ≡ is → IsBlock (block image k)
    go true is = (crash_image fates s image whole synced_whole same crashed).torn k below is
    go false is = subst IsBlock (sym (crashed.kept k is)) (whole k (omega (arith, below, crashed.size)))

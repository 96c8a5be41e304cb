-- What is there once a device is formatted.
use Rattle.std.proofs.Common.{◌≡◌, inl, inr, ℕ, ◌+◌, ◌*◌, ◌<◌, ◌≤◌, ◌-◌, List, All, length, refl, sym, ◌∙◌, ap, subst, arith}
use Rattle.sector_device.specs.Disk.{CrashState, sector, SameOutside}
use Rattle.sector_device.specs.Values.{zero_sector, IsMarked, InRow, AreZeroSectors}
use Rattle.sector_device.proofs.KnownSectors.{zero_bytes, zero_not_marked}
use Rattle.record_values.specs.GeometryValue.{GeometryValue, IsGeometry, sectors_of}
use Rattle.flip_image.specs.declared.half.Half.TheVariants.{A}
use Rattle.flip_image.specs.Layout.{pages_first, log_first}
use Rattle.flip_image.specs.declared.half.Half.{Half}
use Rattle.flip_image.specs.Store.{Names, IsSuperblock, AreZeros, IsFormatted, AreGatesClosed, AreLogGatesZero, IsFormatSector}

-- zeros that are there stay
zeros_stay : (S : ℕ → Type 0) (old new : CrashState) (first count : ℕ) → SameOutside S old new → ((n : ℕ) → first ≤ n → n < first + count → ¬ S n)
    → AreZeros old first count → AreZeros new first count
zeros_stay S old new first count same apart zeros i below =
    subst (All (λ b. b ≡ 0)) (sym (same.same (first + i) (apart (first + i) (omega arith) (omega arith)))) (zeros i below)

-- zeros from a later sector on
zeros_within : (image : CrashState) (first count low n : ℕ) → first ≤ low → low + n ≤ first + count → AreZeros image first count → AreZeros image low n
zeros_within image first count low n from to zeros i below =
    let same : first + (low + i - first) ≡ low + i = omega (arith, from) in
    subst (λ (k : ℕ). All (λ b. b ≡ 0) (sector image k)) same (zeros (low + i - first) (omega (arith, from, to, below)))

-- sectors of zeros, one behind the other
row_zeros : (image : CrashState) (first count : ℕ) → AreZeroSectors image first 1 count → AreZeros image first count
row_zeros image first count zeros i below =
    let same : first + i ≡ first + 1 * i = omega arith in
    subst (All (λ b. b ≡ 0)) (sym (ap (sector image) same ∙ zeros i below)) zero_bytes

-- nothing was written
pub still : (S : ℕ → Type 0) (c : CrashState) → SameOutside S c c
still S c = record { sectors = refl; same = λ k out. refl }

-- a gate of zeros is closed
pub gates_closed : (g : GeometryValue) (half : Half) (image : CrashState) → AreLogGatesZero g half image → AreGatesClosed g half image
gates_closed g half image zeros slot below is_open = zero_not_marked (subst IsMarked (zeros slot below) is_open)

module _ (g : GeometryValue) (header first pages log slots : ℕ) (is_header : header ≡ 2) (is_first : first ≡ pages_first g A) (is_pages : pages ≡ g.pages)
    (is_log : log ≡ log_first g A) (is_slots : slots ≡ g.slots)
    (c0 c1 c2 c3 c4 c5 : CrashState) (one : SameOutside (λ n. n ≡ 0) c0 c1) (two : SameOutside (λ n. n ≡ 1) c1 c2)
    (three : SameOutside (InRow header 1 2) c2 c3)
    (four : SameOutside (InRow first 1 (16 * pages)) c3 c4) (five : SameOutside (InRow log 8 slots) c4 c5) where
  -- the sectors that are written
  pub all_outside : SameOutside (IsFormatSector g) c0 c5
  all_outside = record {
    sectors = five.sectors ∙ four.sectors ∙ three.sectors ∙ two.sectors ∙ one.sectors;
    same = λ k out.
        five.same k (λ is. out (inr (inr (is.0, omega (arith, is.1, is_slots), omega (arith, is.2, is_log)))))
        ∙ four.same k (λ is. out (inr (inl (omega (arith, is.2, is_first), omega (arith, is.1, is.2, is_first, is_pages)))))
        ∙ three.same k (λ is. out (inl (omega (arith, is.1, is.2, is_header))))
        ∙ two.same k (λ is. out (inl (omega (arith, is))))
        ∙ one.same k (λ is. out (inl (omega (arith, is))));
  }

  low_stays : (k : ℕ) → k < 2 → sector c5 k ≡ sector c2 k
  low_stays k low =
      five.same k (λ is. omega (arith, low, is.2, is_log))
      ∙ four.same k (λ is. omega (arith, low, is.2, is_first))
      ∙ three.same k (λ is. omega (arith, low, is.2, is_header))

  -- the flip sector is there
  pub flip_there : sector c2 1 ≡ zero_sector → sector c5 1 ≡ zero_sector
  flip_there flip = low_stays 1 (omega arith) ∙ flip

  -- the gates are
  pub gates_there : AreZeroSectors c5 log 8 slots → AreLogGatesZero g A c5
  gates_there zeros slot below = ap (λ n. sector c5 (n + 8 * slot)) (sym is_log) ∙ zeros slot (omega (arith, below, is_slots))

  -- the store is there
  pub all_formatted : IsGeometry g → sectors_of g ≤ length c0 → IsSuperblock g (sector c1 0) → sector c2 1 ≡ zero_sector → AreZeroSectors c3 header 1 2
      → AreZeroSectors c4 first 1 (16 * pages) → IsFormatted g c5
  all_formatted limits room superblock flip heads rows = record {
    store = record {
      limits = limits;
      room = omega (arith, room, all_outside.sectors);
      superblock-is = subst (IsSuperblock g) (sym (low_stays 0 (omega arith) ∙ two.same 0 (λ is. omega (arith, is)))) superblock;
      current = subst (λ (b : List ℕ). Names b A) (sym (flip_there flip)) zero_not_marked;
    };
    fresh = record {
      header = zeros_within c5 header 2 2 1 (omega (arith, is_header)) (omega (arith, is_header)) heads_there;
      heads = zeros_within c5 header 2 3 1 (omega (arith, is_header)) (omega (arith, is_header)) heads_there;
      pages = λ page below. zeros_within c5 first (16 * pages) (pages_first g A + 16 * page) 16 (omega (arith, is_first))
          (omega (arith, is_first, is_pages, below)) rows_there;
    };
  }
    where
      heads_there : AreZeros c5 header 2
      heads_there = zeros_stay _ c4 c5 header 2 five (λ n from to is. omega (arith, to, is.2, is_log, is_header))
          (zeros_stay _ c3 c4 header 2 four (λ n from to is. omega (arith, to, is.2, is_first, is_header)) (row_zeros c3 header 2 heads))

      rows_there : AreZeros c5 first (16 * pages)
      rows_there = zeros_stay _ c4 c5 first (16 * pages) five (λ n from to is. omega (arith, to, is.2, is_log, is_first, is_pages))
          (row_zeros c4 first (16 * pages) rows)

  -- all of it
  pub all_there : IsGeometry g → sectors_of g ≤ length c0 → IsSuperblock g (sector c1 0) → sector c2 1 ≡ zero_sector → AreZeroSectors c3 header 1 2
      → AreZeroSectors c4 first 1 (16 * pages) → AreZeroSectors c5 log 8 slots
      → IsFormatted g c5 × SameOutside (IsFormatSector g) c0 c5 × (sector c5 1 ≡ zero_sector) × AreLogGatesZero g A c5
  all_there limits room superblock flip heads rows gates =
      (all_formatted limits room superblock flip heads rows, all_outside, flip_there flip, gates_there gates)

-- What a crash leaves of a journal while a batch is committed.
use Rattle.std.proofs.Common.{◌≡◌, ◌≢◌, ◌⊎◌, inl, inr, ⊎_elim, ℕ, ◌+◌, ◌*◌, ◌%◌, ◌&&◌, ◌==◌, if◌then◌else◌, ◌<◌, ◌≤◌, List, []}
use Rattle.std.proofs.Common.{length, drop, Some, None}
use Rattle.std.proofs.Common.{sym, ◌∙◌, ap, subst, arith, length-take, length-drop}
use Rattle.std.proofs.lemmas.Bool.{cases_eq, cases_lt}
use Rattle.std.proofs.lemmas.List.{get_or-take, get_or-drop, get_or_past, ext_get_or}
use Rattle.block_device.specs.Blocks.{CrashFile, block, run_of, InRun, SameOutside}
use Rattle.block_batch.specs.Batch.{Entry, Batch, is_batch, number_in, batch_in, replayed, IsPlace}
use Rattle.block_batch.specs.Replay.{pending, IsCommitted, AreOffered}
use Rattle.block_batch.proofs.Torn.{torn_first, torn_second}
use Rattle.block_journal.specs.declared.shape.Shape.{Shape}
use Rattle.block_journal.specs.Layout.{area_start, kept_start, area_of, kept_of, found, recovered, IsHonest, IsInside}
use Rattle.block_journal.specs.Journal.{MayWrite, StandsFor}

-- ---- runs of two images

pub length-run_of : (image : CrashFile) (first count : ℕ) → first + count ≤ length image → length (run_of image first count) ≡ count
length-run_of image first count room = omega (arith, length-take count (drop first image), length-drop first image)

pub block_of_run : (image : CrashFile) (first count i : ℕ) → i < count → block (run_of image first count) i ≡ block image (first + i)
block_of_run image first count i below = get_or-take count (drop first image) i [] below ∙ get_or-drop first image i []

-- two images with the same blocks in a run have the same run
pub run_same : (image other : CrashFile) (first count : ℕ) → first + count ≤ length image → length other ≡ length image
    → ((n : ℕ) → InRun first count n → block other n ≡ block image n) → run_of other first count ≡ run_of image first count
run_same image other first count room size same = ext_get_or [] (run_of other first count) (run_of image first count) sizes each
  where
    sizes : length (run_of other first count) ≡ length (run_of image first count)
    sizes = omega (arith, length-run_of other first count (omega (arith, room, size)), length-run_of image first count room)

    each : (i : ℕ) → i < length (run_of other first count) → block (run_of other first count) i ≡ block (run_of image first count) i
    each i below =
        let within : i < count = omega (arith, below, length-run_of other first count (omega (arith, room, size))) in
        block_of_run other first count i within
        ∙ same (first + i) (omega arith, omega (arith, within))
        ∙ sym (block_of_run image first count i within)

-- where the two areas begin
starts : (g : Shape) (a : ℕ) → a < 2 → ((a ≡ 0) × (area_start g a ≡ g.first)) ⊎ ((a ≡ 1) × (area_start g a ≡ g.first + g.area))
starts g a below = ⊎_elim
    (λ is. inl (is, ap (λ k. g.first + k * g.area) is ∙ none))
    (λ other. inr (one other, ap (λ k. g.first + k * g.area) (one other) ∙ once))
    (cases_eq a 0)
  where
    one : a ≢ 0 → a ≡ 1
    one other = omega (arith, other, below)

    none : g.first + 0 * g.area ≡ g.first
    none = omega arith

    once : g.first + 1 * g.area ≡ g.first + g.area
    once = omega arith

pub area_before_kept : (g : Shape) (a : ℕ) → a < 2 → area_start g a + g.area ≤ kept_start g
area_before_kept g a below = ⊎_elim (λ w. omega (arith, w.1)) (λ w. omega (arith, w.1)) (starts g a below)

pub areas_apart : (g : Shape) (a b n : ℕ) → a < 2 → b < 2 → a ≢ b → InRun (area_start g a) g.area n → ¬ InRun (area_start g b) g.area n
areas_apart g a b n a_low b_low apart in_a in_b = ⊎_elim
    (λ w. ⊎_elim (λ v. omega (arith, w.0, v.0, apart)) (λ v. omega (arith, w.1, v.1, in_a.0, in_a.1, in_b.0, in_b.1)) (starts g b b_low))
    (λ w. ⊎_elim (λ v. omega (arith, w.1, v.1, in_a.0, in_a.1, in_b.0, in_b.1)) (λ v. omega (arith, w.0, v.0, apart)) (starts g b b_low))
    (starts g a a_low)

module _ (g : Shape) (image c : CrashFile) (torn : ℕ) (last : List Entry) (inside : IsInside g image) (low : torn < 2)
    (agrees : SameOutside (MayWrite g torn last) image c) where
  -- the area that isn't written
  pub same_area : (a : ℕ) → a < 2 → a ≢ torn → area_of g c a ≡ area_of g image a
  same_area a below apart = run_same image c (area_start g a) g.area (omega (arith, inside.room, area_before_kept g a below)) agrees.size
      (λ n within. agrees.same n (out n within))
    where
      out : (n : ℕ) → InRun (area_start g a) g.area n → ¬ MayWrite g torn last n
      out n within (inl torn_too) = areas_apart g a torn n below low apart within torn_too
      out n within (inr w) = omega (arith, within.1, w.2, area_before_kept g a below)

  -- the kept blocks, outside the places
  pub kept_agrees : SameOutside (IsPlace last) (kept_of g image) (kept_of g c)
  kept_agrees = record { size = sizes; same = each }
    where
      room : kept_start g + g.kept ≤ length c
      room = omega (arith, inside.room, agrees.size)

      sizes : length (kept_of g c) ≡ length (kept_of g image)
      sizes = length-run_of c (kept_start g) g.kept room ∙ sym (length-run_of image (kept_start g) g.kept inside.room)

      free : (n : ℕ) → ¬ IsPlace last n → ¬ MayWrite g torn last (kept_start g + n)
      free n out (inl in_area) = omega (arith, in_area.1, area_before_kept g torn low)
      free n out (inr w) = let same : w.0 ≡ n = omega (arith, w.2) in out (subst (IsPlace last) same w.1)

      each : (n : ℕ) → ¬ IsPlace last n → block (kept_of g c) n ≡ block (kept_of g image) n
      each n out = elim (cases_lt n g.kept) [
        | inl below ↦ block_of_run c (kept_start g) g.kept n below
            ∙ agrees.same (kept_start g + n) (free n out)
            ∙ sym (block_of_run image (kept_start g) g.kept n below)
        | inr past ↦ get_or_past (kept_of g c) n [] (omega (arith, past, length-run_of c (kept_start g) g.kept room))
            ∙ sym (get_or_past (kept_of g image) n [] (omega (arith, past, length-run_of image (kept_start g) g.kept inside.room)))
      ]

-- An image that agrees with one that stands for the settled blocks, but for what a commit may write, and of whose torn
-- area the premise holds, is recovered as before the commit, or as after it.
module _ (g : Shape) (image c settled : CrashFile) (last next : Batch) (offered : List Batch) (stands : StandsFor g image last settled)
    (known : AreOffered offered last next settled) (agrees : SameOutside (MayWrite g (next.number % 2) last.entries) image c)
    (honest : IsHonest offered g c) where
  abbrev Either : CrashFile → Type 0
  Either found_so = (found_so ≡ settled) ⊎ (found_so ≡ replayed next.entries settled)

  still_there : found g c (last.number % 2) ≡ Some last
  still_there = ap (λ (area : CrashFile). if is_batch area && (number_in area % 2 == last.number % 2) then Some (batch_in area) else None)
      (same_area g image c (next.number % 2) last.entries stands.inside (omega arith) agrees (last.number % 2) (omega arith) (omega (arith, known.follows)))
      ∙ stands.here

  still_committed : IsCommitted last settled (kept_of g c)
  still_committed = record {
    elsewhere = record {
      size = (kept_agrees g image c (next.number % 2) last.entries stands.inside (omega arith) agrees).size ∙ stands.committed.elsewhere.size;
      same = λ n out. (kept_agrees g image c (next.number % 2) last.entries stands.inside (omega arith) agrees).same n out
          ∙ stands.committed.elsewhere.same n out;
    };
    there = stands.committed.there;
  }

  pub crash_of_commit : (recovered g c ≡ settled) ⊎ (recovered g c ≡ replayed next.entries settled)
  crash_of_commit = elim (cases_eq (last.number % 2) 0) [
    | inl even ↦
        let whole : found g c 0 ≡ Some last = subst (λ a. found g c a ≡ Some last) even still_there in
        subst (λ o. Either (replayed (pending o (found g c 1)) (kept_of g c)))
        (sym whole) (torn_second offered last next settled (kept_of g c) known still_committed (found g c 1) (honest 1 (omega arith)))
    | inr odd ↦
        let one : last.number % 2 ≡ 1 = omega (arith, odd) in
        let whole : found g c 1 ≡ Some last = subst (λ a. found g c a ≡ Some last) one still_there in
        subst (λ o. Either (replayed (pending (found g c 0) o) (kept_of g c)))
        (sym whole) (torn_first offered last next settled (kept_of g c) known still_committed (found g c 0) (honest 0 (omega arith)))
  ]

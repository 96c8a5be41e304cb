-- The batches of a journal stay in their areas.
use Rattle.std.proofs.Common.{◌≡◌, ◌≢◌, inl, inr, ⊎_elim, ℕ, ◌+◌, ◌%◌, ◌<◌, true, List, [], ◌∷◌, ◌++◌, Option, Some, None, IfSome, Contains, length, sym}
use Rattle.std.proofs.Common.{◌∙◌, ap, subst, arith}
use Rattle.std.proofs.lemmas.Bool.{cases_Bool, cases_eq}
use Rattle.std.proofs.lemmas.List.Elements.{Contains-push_cases}
use Rattle.block_device.specs.Blocks.{BlockFile, CrashFile, InRun, IsCrashFile, IsSynced, SameOutside}
use Rattle.block_device.specs.BlocksPast.{BlocksPast, RunsWithin}
use Rattle.block_device.proofs.CrashFiles.{crash_synced}
use Rattle.block_device.proofs.Moments.{at_end, goes_on, started}
use Rattle.block_batch.specs.Batch.{Batch, Entry, is_batch, number_in}
use Rattle.block_journal.specs.declared.shape.Shape.{Shape}
use Rattle.block_journal.specs.Layout.{IsHonest, IsInside, area_of, area_start, found, found_in}
use Rattle.block_journal.specs.Journal.{InRunOrKept, KeepsAreas, KeepsBatch, MayWrite, OnlyReads, StandsFor}
use Rattle.block_journal.proofs.Crash.{area_before_kept, run_same, same_area}
use Rattle.block_journal.proofs.Loading.{none_in, other_in}
use Rattle.block_journal.proofs.Placing.{found_is}

-- a crash file as long has the same room
still_inside : (g : Shape) (image c : CrashFile) → IsInside g image → length c ≡ length image → IsInside g c
still_inside g image c inside size = record { some = inside.some; few = inside.few; room = omega (arith, inside.room, size) }

-- what a replay sets is in no area
same_by_replay : (g : Shape) (entries : List Entry) (image c : CrashFile) → IsInside g image → SameOutside (InRunOrKept g 0 0 entries) image c
    → (a : ℕ) → a < 2 → area_of g c a ≡ area_of g image a
same_by_replay g entries image c inside agrees a low = run_same image c (area_start g a) g.area (omega (arith, inside.room, area_before_kept g a low))
    agrees.size (λ n within. agrees.same n (out n within))
  where
    out : (n : ℕ) → InRun (area_start g a) g.area n → ¬ InRunOrKept g 0 0 entries n
    out n within there = ⊎_elim (λ run. omega (arith, run.0, run.1)) (λ kept. omega (arith, within.1, kept.2, area_before_kept g a low)) there

pub keeps_areas : (g : Shape) (entries : List Entry) (old new : BlocksPast) → IsInside g old.file.content
    → RunsWithin (InRunOrKept g 0 0 entries) old.file.content old new → KeepsAreas g old new
keeps_areas g entries old new inside within = record {
  later = within.run.later;
  kept = within.run.kept;
  each = λ t c from to crash.
      let agrees = within.run.each t c from to crash in (
        still_inside g old.file.content c inside agrees.size,
        λ a low. ap (λ (area : CrashFile). found_in area a) (same_by_replay g entries old.file.content c inside agrees a low),
      );
}

-- calls that only read, behind it
pub areas_read : (g : Shape) (old mid new : BlocksPast) → KeepsAreas g old mid → OnlyReads mid new → KeepsAreas g old new
areas_read g old mid new keeps reads = goes_on old mid new
    (λ c. IsInside g c × ((a : ℕ) → a < 2 → found g c a ≡ found g old.file.content a)) keeps reads.time
    (λ c crash. at_end old mid (λ c. IsInside g c × ((a : ℕ) → a < 2 → found g c a ≡ found g old.file.content a)) keeps c
    (subst (λ (f : BlockFile). IsCrashFile f c) reads.file crash))

-- a commit writes the other area
pub keeps_batch : (g : Shape) (last : Batch) (settled : CrashFile) (old new : BlocksPast) → StandsFor g old.file.content last settled
    → RunsWithin (MayWrite g ((last.number + 1) % 2) last.entries) old.file.content old new → KeepsBatch g last old new
keeps_batch g last settled old new stands within = record {
  later = within.run.later;
  kept = within.run.kept;
  each = λ t c from to crash.
      let agrees = within.run.each t c from to crash in
      let same : area_of g c (last.number % 2) ≡ area_of g old.file.content (last.number % 2) =
      same_area g old.file.content c ((last.number + 1) % 2) last.entries stands.inside (omega arith) agrees (last.number % 2) (omega arith) (omega arith) in (
        still_inside g old.file.content c stands.inside agrees.size,
        ap (λ (area : CrashFile). found_in area (last.number % 2)) same ∙ stands.here,
      );
}

-- no call was made, and no block is loose
pub none_batch : (g : Shape) (last : Batch) (old : BlocksPast) → IsInside g old.file.content → found g old.file.content (last.number % 2) ≡ Some last
    → IsSynced old.file → KeepsBatch g last old old
none_batch g last old inside here synced = started old (λ c. IsInside g c × (found g c (last.number % 2) ≡ Some last))
    (λ c crash. subst (λ (l : CrashFile). IsInside g l × (found g l (last.number % 2) ≡ Some last)) (sym (crash_synced old.file c synced crash)) (inside, here))

-- calls that only read, behind it
pub batch_read : (g : Shape) (last : Batch) (old mid new : BlocksPast) → KeepsBatch g last old mid → OnlyReads mid new → KeepsBatch g last old new
batch_read g last old mid new keeps reads = goes_on old mid new (λ c. IsInside g c × (found g c (last.number % 2) ≡ Some last)) keeps reads.time
    (λ c crash. at_end old mid (λ c. IsInside g c × (found g c (last.number % 2) ≡ Some last)) keeps c
    (subst (λ (f : BlockFile). IsCrashFile f c) reads.file crash))

-- ---- what the areas have, by the numbers of their batches

-- a batch is in the area that its number belongs to
pub found_parity : (g : Shape) (c : CrashFile) (a : ℕ) → IfSome (found g c a) (λ x. x.number % 2 ≡ a)
found_parity g c a = ⊎_elim is_one (λ is. subst (λ (o : Option Batch). IfSome o (λ x. x.number % 2 ≡ a)) (sym (none_in (area_of g c a) a is)) tt)
    (cases_Bool (is_batch (area_of g c a)))
  where
    is_one : is_batch (area_of g c a) ≡ true → IfSome (found g c a) (λ x. x.number % 2 ≡ a)
    is_one is = ⊎_elim
        (λ here. subst (λ (o : Option Batch). IfSome o (λ x. x.number % 2 ≡ a)) (sym (found_is (area_of g c a) a is here)) here)
        (λ apart. subst (λ (o : Option Batch). IfSome o (λ x. x.number % 2 ≡ a)) (sym (other_in (area_of g c a) a is apart)) tt)
        (cases_eq (number_in (area_of g c a) % 2) a)

-- Where the last batch is in its area, a batch behind the next one can't be in an area: the premise holds without it too.
pub honest_before : (g : Shape) (c : CrashFile) (offered : List Batch) (last next : Batch) → found g c (last.number % 2) ≡ Some last → Contains offered last
    → next.number % 2 ≡ last.number % 2 → IsHonest (offered ++ next ∷ []) g c → IsHonest offered g c
honest_before g c offered last next here has parity honest a low = elim (cases_eq a (last.number % 2)) [
  | inl is ↦ subst (λ (o : Option Batch). IfSome o (λ x. Contains offered x)) (sym (ap (found g c) is ∙ here)) has
  | inr apart ↦ fewer apart (found g c a) (found_parity g c a) (honest a low)
]
  where
    fewer : a ≢ last.number % 2 → (o : Option Batch) → IfSome o (λ x. x.number % 2 ≡ a) → IfSome o (λ x. Contains (offered ++ next ∷ []) x)
        → IfSome o (λ x. Contains offered x)
    fewer apart None belongs h = tt
    fewer apart (Some x) belongs h = ⊎_elim (λ old. old)
        (λ is. absurd (apart (sym belongs ∙ ap (λ (b : Batch). b.number % 2) (sym is) ∙ parity)))
        (Contains-push_cases offered next x h)

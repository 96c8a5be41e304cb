-- The file of a new device, as it is laid out.
use Rattle.std.proofs.Common.{◌≡◌, inl, inr, ⊎_elim, ℕ, zero, suc, ◌+◌, ◌*◌, ◌/◌, ◌%◌, ◌^◌, ◌<◌, ◌≤◌, Bool, true, false, if◌then◌else◌, List, []}
use Rattle.std.proofs.Common.{Option, Some, None, length, map, slice_index, slice_set, refl, sym, ◌∙◌, ap, subst, arith, nat_lt, ◌&&◌}
use Rattle.std.specs.Prelude.{IfSome}
use Rattle.std.specs.List.{range_with_len}
use Rattle.std.proofs.lemmas.Bool.{and_parts, cases_eq, ltb-true}
use Rattle.std.proofs.lemmas.List.{get_or-set_other}
use Rattle.std.proofs.lemmas.Grind.{get_or-set_at}
use Rattle.block_device.specs.Blocks.{BlockFile, CrashFile, InRun, SameOutside, block, zero_block}
use Rattle.block_device.specs.BlocksPast.{BlocksPast, LeavesOnly, WrittenBack, and_back}
use Rattle.block_batch.specs.Batch.{Batch, batch_in, block_digest, count_in, number_in, place_in, replayed}
use Rattle.block_batch.specs.Replay.{pending}
use Rattle.block_journal.specs.declared.shape.Shape.{Shape}
use Rattle.block_journal.specs.Journal.{BeginsBack, WritesBackFirst, areas_back}
use Rattle.block_journal.specs.Layout.{IsInside, area_of, area_start, found, found_in, kept_of, kept_start, recovered}
use Rattle.block_journal.proofs.Crash.{area_before_kept, block_of_run, run_same}
use Rattle.block_table.specs.Table.{EachFits, data_of, digest_of, kept_count, place_of, table_count}
use Rattle.block_file.specs.declared.plan.Plan.{Plan}
use Rattle.block_file.specs.Header.{CanBeTold, can_be, first_of, plan_for, plan_told, told_by}
use Rattle.block_file.specs.Making.{AreBegun, BeginsNewBack, HoldsZeros, IsBehind, IsNewBlock, WritesNewBack}
use Rattle.block_file.specs.Plans.{IsPlan}
use Rattle.block_file.specs.Sectors.{sectors_of}
use Rattle.block_file.proofs.Zeros.{data_block, zero_sectors}

-- ---- a plan that can be told

-- its numbers
pub record AreSmall (p : Plan) : Type 0 where
  pub first : p.shape.first ≡ 2
  pub kept : p.shape.kept ≡ kept_count p.blocks
  pub blocks : p.blocks ≡ (p.lead + p.sectors + 7) / 8
  pub sectors : p.sectors < 2 ^ 60
  pub lead : p.lead < 8
  pub some : 2 < p.shape.area
  pub few : p.shape.area < 256

pub told_small : (p : Plan) → CanBeTold p → AreSmall p
told_small p told =
    let one = and_parts (nat_lt p.sectors (2 ^ 60)) (nat_lt p.lead 8 && (nat_lt 2 p.shape.area && nat_lt p.shape.area 256)) told.can in
    let two = and_parts (nat_lt p.lead 8) (nat_lt 2 p.shape.area && nat_lt p.shape.area 256) one.1 in
    let three = and_parts (nat_lt 2 p.shape.area) (nat_lt p.shape.area 256) two.1 in
    record {
      first = ap (λ (q : Plan). q.shape.first) told.same;
      kept = ap (λ (q : Plan). q.shape.kept) told.same ∙ ap kept_count (sym (ap (λ (q : Plan). q.blocks) told.same));
      blocks = ap (λ (q : Plan). q.blocks) told.same;
      sectors = ltb-true p.sectors (2 ^ 60) one.0;
      lead = ltb-true p.lead 8 two.0;
      some = ltb-true 2 p.shape.area three.0;
      few = ltb-true p.shape.area 256 three.1;
    }

pub told_is_plan : (p : Plan) → CanBeTold p → IsPlan p
told_is_plan p told =
    let small = told_small p told in
    record {
      kept = small.kept;
      room = omega (arith, small.blocks);
      small = omega (arith, small.sectors, small.lead);
      batch = small.some;
    }

-- what can be told of what can be
pub some_told : (s l a : ℕ) (o : Option Plan) → o ≡ (if can_be s l a then Some (plan_for s l a) else None) → IfSome o CanBeTold
some_told s l a o is = subst (λ (x : Option Plan). IfSome x CanBeTold) (sym is) (by_case (can_be s l a) refl)
  where
    by_case : (b : Bool) → can_be s l a ≡ b → IfSome (if b then Some (plan_for s l a) else None) CanBeTold
    by_case true can = record { can = can; same = refl }
    by_case false can = tt

-- ---- the kept blocks are written, one after the other

pub new_more : (table first k : ℕ) (old new : CrashFile) (bytes : List ℕ) → new ≡ slice_set old (first + k) bytes → first + k < length old
    → IsNewBlock table k bytes
    → ((j : ℕ) → j < k → IsNewBlock table j (block old (first + j))) → (j : ℕ) → j < k + 1 → IsNewBlock table j (block new (first + j))
new_more table first k old new bytes is room fresh before j below = elim (cases_eq j k) [
  | inl same ↦ subst (λ (b : List ℕ). IsNewBlock table j b)
      (sym (ap (λ (l : CrashFile). block l (first + j)) is ∙ get_or-set_at old (first + k) (first + j) bytes [] (omega (arith, same)) room))
      (subst (λ (m : ℕ). IsNewBlock table m bytes) (sym same) fresh)
  | inr other ↦ subst (λ (b : List ℕ). IsNewBlock table j b)
      (sym (ap (λ (l : CrashFile). block l (first + j)) is ∙ get_or-set_other old (first + k) (first + j) bytes [] (λ equal. other (omega (arith, equal)))))
      (before j (omega (arith, below, other)))
]

-- numbers are set, one after the other
pub set_more : (words : List ℕ) (i x : ℕ) (f : ℕ → ℕ) → i < length words → x ≡ f i → ((k : ℕ) → k < i → slice_index words k ≡ f k)
    → (k : ℕ) → k < i + 1 → slice_index (slice_set words i x) k ≡ f k
set_more words i x f room is before k below = elim (cases_eq k i) [
  | inl same ↦ get_or-set_at words i k x 0 same room ∙ is ∙ ap f (sym same)
  | inr other ↦ get_or-set_other words i k x 0 other ∙ before k (omega (arith, below, other))
]

-- ---- an area with an empty batch

pub no_blocks : (area : CrashFile) (number : ℕ) → number_in area ≡ number → count_in area ≡ 0 → batch_in area ≡ record { number = number; entries = [] }
no_blocks area number numbered counted = λ i. record {
  number = numbered i;
  entries = map (λ k. record { place = place_in area k; bytes = block area (1 + k) }) (range_with_len 0 (counted i));
}

-- ---- all of it

module _ (p : Plan) (content : CrashFile) (told : CanBeTold p) (inside : IsInside p.shape content)
    (first : found p.shape content 0 ≡ Some (record { number = 0; entries = [] }))
    (second : found p.shape content 1 ≡ Some (record { number = 1; entries = [] }))
    (new : (k : ℕ) → k < p.shape.kept → IsNewBlock (table_count p.blocks) k (block content (kept_start p.shape + k))) where
  stands : recovered p.shape content ≡ kept_of p.shape content
  stands = λ i. replayed (pending (first i) (second i)) (kept_of p.shape content)

  here : (k : ℕ) → k < p.shape.kept → IsNewBlock (table_count p.blocks) k (block (kept_of p.shape content) k)
  here k below = subst (λ (b : List ℕ). IsNewBlock (table_count p.blocks) k b)
      (sym (block_of_run content (kept_start p.shape) p.shape.kept k below)) (new k below)

  zero_at : (n : ℕ) → n < p.blocks → block (kept_of p.shape content) (place_of p.blocks n) ≡ zero_block
  zero_at n below = (here (place_of p.blocks n) (omega (arith, below, (told_small p told).kept))).zeros (omega arith)

  digest_at : (n : ℕ) → n < p.blocks → digest_of (kept_of p.shape content) n ≡ block_digest (place_of p.blocks n) zero_block
  digest_at n below =
      let row : n / 512 < table_count p.blocks = omega (arith, below) in
      let whole : 512 * (n / 512) + n % 512 ≡ n = omega arith in
      (here (n / 512) (omega (arith, row, (told_small p told).kept))).row row (n % 512) (omega arith)
      ∙ ap (λ (k : ℕ). block_digest (table_count p.blocks + k) zero_block) whole

  fits_here : EachFits p.blocks (kept_of p.shape content)
  fits_here n below = digest_at n below ∙ sym (ap (block_digest (place_of p.blocks n)) (zero_at n below))

  pub zeros_held : HoldsZeros p content
  zeros_held = record {
    zeros = ap (λ (l : CrashFile). sectors_of p.lead p.sectors (data_of p.blocks l)) stands
        ∙ zero_sectors p.lead p.sectors (data_of p.blocks (kept_of p.shape content)) (λ n below.
        data_block p.blocks (kept_of p.shape content) ((n + p.lead) / 8)
        ∙ zero_at ((n + p.lead) / 8) (omega (arith, below, (told_small p told).blocks)));
    blocks = λ n below. ap (λ (l : CrashFile). block (data_of p.blocks l) n) stands ∙ data_block p.blocks (kept_of p.shape content) n ∙ zero_at n below;
    fits = subst (λ (l : CrashFile). EachFits p.blocks l) (sym stands) fits_here;
  }

-- what stands for the same blocks holds zeros too
pub same_zeros : (p : Plan) (image c : CrashFile) → recovered p.shape c ≡ recovered p.shape image → HoldsZeros p image → HoldsZeros p c
same_zeros p image c same held = record {
  zeros = ap (λ (l : CrashFile). sectors_of p.lead p.sectors (data_of p.blocks l)) same ∙ held.zeros;
  blocks = λ n below. ap (λ (l : CrashFile). block (data_of p.blocks l) n) same ∙ held.blocks n below;
  fits = subst (λ (l : CrashFile). EachFits p.blocks l) (sym same) held.fits;
}

-- ---- what a crash leaves meanwhile

-- a weaker property
pub leaves_weaker : (old new : BlocksPast) (P Q : CrashFile → Type 0) → ((c : CrashFile) → P c → Q c) → LeavesOnly old new P → LeavesOnly old new Q
leaves_weaker old new P Q so run = record { later = run.later; kept = run.kept; each = λ t c from to crash. so c (run.each t c from to crash) }

-- where only blocks behind the headers are written, these tell what they told
pub tells_same : (image c : CrashFile) → SameOutside IsBehind image c → plan_told c ≡ plan_told image
tells_same image c agrees =
    let one : block c 0 ≡ block image 0 = agrees.same 0 (λ behind. omega (arith, behind)) in
    let two : block c 1 ≡ block image 1 = agrees.same 1 (λ behind. omega (arith, behind)) in
    λ i. first_of (told_by (one i)) (told_by (two i))

-- where only headers are written, the areas stay
pub area_same : (g : Shape) (image c : CrashFile) → g.first ≡ 2 → IsInside g image → SameOutside (InRun 0 2) image c → (a : ℕ) → a < 2
    → area_of g c a ≡ area_of g image a
area_same g image c two inside agrees a low = run_same image c (area_start g a) g.area (omega (arith, inside.room, area_before_kept g a low)) agrees.size
    (λ n within. agrees.same n (λ head. omega (arith, head.1, within.0, two)))

-- and the journal stands for what it stood for
pub recovers_same : (g : Shape) (image c : CrashFile) → g.first ≡ 2 → IsInside g image → SameOutside (InRun 0 2) image c → recovered g c ≡ recovered g image
recovers_same g image c two inside agrees = λ i. replayed (pending (found_in (zero i) 0) (found_in (one i) 1)) (kept_same i)
  where
    zero : area_of g c 0 ≡ area_of g image 0
    zero = area_same g image c two inside agrees 0 (omega arith)

    one : area_of g c 1 ≡ area_of g image 1
    one = area_same g image c two inside agrees 1 (omega arith)

    kept_same : kept_of g c ≡ kept_of g image
    kept_same = run_same image c (kept_start g) g.kept inside.room agrees.size (λ n within. agrees.same n (λ head. omega (arith, head.1, within.0, two)))

-- the area that a head is written to, and the other one
pub found_same : (g : Shape) (image c : CrashFile) (a : ℕ) → area_of g c a ≡ area_of g image a → found g c a ≡ found g image a
found_same g image c a same = ap (λ (l : CrashFile). found_in l a) same

-- a header in the first block tells its plan
pub first_tells : (image : CrashFile) (bytes : List ℕ) (p : Plan) → block image 0 ≡ bytes → told_by bytes ≡ Some p → plan_told image ≡ Some p
first_tells image bytes p here told =
    ap (λ (o : Option Plan). first_of o (told_by (block image 1))) (ap told_by here ∙ told)

-- both areas are begun
pub both_begun : (g : Shape) (image : CrashFile) → found g image 0 ≡ Some (record { number = 0; entries = [] })
    → found g image 1 ≡ Some (record { number = 1; entries = [] }) → AreBegun g image
both_begun g image first second zero low = first
both_begun g image first second (suc zero) low = second
both_begun g image first second (suc (suc a)) low = absurd (omega (arith, low))

-- and stay so where only headers are written
pub begun_same : (g : Shape) (image c : CrashFile) → g.first ≡ 2 → IsInside g image → SameOutside (InRun 0 2) image c → AreBegun g image → AreBegun g c
begun_same g image c two inside agrees begun a low = found_same g image c a (area_same g image c two inside agrees a low) ∙ begun a low

-- ---- its areas are written back

-- the number of a batch, if there is one
abbrev number_of : Option Batch → ℕ
number_of None = 0
number_of (Some x) = x.number

-- the last one is that of number 1
pub last_is_one : (g : Shape) (image : CrashFile) (last : Batch) → AreBegun g image → found g image (last.number % 2) ≡ Some last
    → IfSome (found g image ((last.number + 1) % 2)) (λ x. x.number < last.number) → last.number ≡ 1
last_is_one g image last begun here other =
    let low : last.number % 2 ≡ last.number = ap number_of (sym (begun (last.number % 2) (omega arith)) ∙ here) in
    let one : (last.number + 1) % 2 < last.number =
    subst (λ (o : Option Batch). IfSome o (λ x. x.number < last.number)) (begun ((last.number + 1) % 2) (omega arith)) other in
    omega (arith, low, one)

module _ (p : Plan) (from : ℕ) (mid new : BlocksPast) (before now : List WrittenBack) (told : plan_told mid.file.content ≡ Some p)
    (begun : AreBegun p.shape mid.file.content) (later : from ≤ mid.moment) where
  pub new_back : WritesBackFirst p.shape mid new before now → WritesNewBack p from new before now
  new_back wrote =
      let same : new.file_at wrote.moment ≡ mid.file = wrote.still wrote.moment wrote.later (omega arith) in
      record {
        moment = wrote.moment;
        later = omega (arith, later, wrote.later);
        until = wrote.until;
        told = ap (λ (f : BlockFile). plan_told f.content) same ∙ told;
        begun = subst (λ (f : BlockFile). AreBegun p.shape f.content) (sym same) begun;
        back = wrote.back ∙ ap (λ (n : ℕ). areas_back p.shape n wrote.moment before)
            (last_is_one p.shape mid.file.content wrote.last begun wrote.here wrote.other);
      }

  pub begins_new_back : BeginsBack p.shape mid new before now → BeginsNewBack p from new before now
  begins_new_back begins = ⊎_elim (λ none. inl none) (λ one.
      let same : new.file_at one.moment ≡ mid.file =
      ⊎_elim (λ is. is) (λ is. is ∙ begins.reads.file) (begins.reads.time.during one.moment one.later one.until) in
      inr (inl (record {
        moment = one.moment;
        later = omega (arith, later, one.later);
        until = one.until;
        told = ap (λ (f : BlockFile). plan_told f.content) same ∙ told;
        begun = subst (λ (f : BlockFile). AreBegun p.shape f.content) (sym same) begun;
        back = one.back ∙ ap (λ (n : ℕ). and_back before (area_start p.shape ((n + 1) % 2)) p.shape.area one.moment)
            (last_is_one p.shape mid.file.content one.last begun one.here one.other);
      }))) begins.back

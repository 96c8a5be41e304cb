-- What becomes of the half that isn't current where its gates are closed and an image is written into it.
use Rattle.std.specs.Result.{is_err}
use Rattle.std.proofs.Common.{Result, Ok, Err, OnOk, OnErr, ◌≡◌, ◌⊎◌, inl, inr, ⊎_elim, ℕ, ◌≤◌, true, false, List, sym, subst, ◌∙◌, arith}
use Rattle.std.proofs.lemmas.Bool.{false≢true, cases_lt}
use Rattle.sector_device.specs.Disk.{CrashState, IsSynced, sector, SameOutside}
use Rattle.sector_device.specs.DevicePast.{DevicePast, LeavesOnly, RunsWithin}
use Rattle.sector_device.proofs.Moments.{weaker, joined}
use Rattle.sector_device.proofs.Sectors.{same_outside_wider, same_outside_then}
use Rattle.record_values.specs.GeometryValue.{GeometryValue}
use Rattle.records.specs.RecordValue.{RecordValue}
use Rattle.gate_log.specs.Area.{Area, Log, InArea, IsGate, Stands}
use Rattle.gate_log.proofs.Readings.{told_by_its_sectors}
use Rattle.store_image_half.specs.Layout.{InEntries}
use Rattle.flip_image.specs.declared.half.Half.{Half}
use Rattle.flip_image.specs.declared.half.Half.TheVariants.{A, B}
use Rattle.flip_image.specs.Layout.{header_sector, log_first, InHalf, InHalfImage}
use Rattle.flip_image.specs.Store.{Names}
use Rattle.flip_image.proofs.Sides.{behind_front, image_inside, log_inside}
use Rattle.store_reader.specs.Contents.{log_area}

-- what no error leaves
pub from_ok : {T E : Type 0} (P : Type 0) (r : Result T E) → is_err r ≡ false → OnOk r P → P
from_ok P (Ok x) ok p = p
from_ok P (Err e) ok p = absurd (false≢true (sym ok))

-- what an error leaves
pub from_err : {T E : Type 0} (P : Type 0) (r : Result T E) → is_err r ≡ true → OnErr r P → P
from_err P (Ok x) err p = absurd (false≢true err)
from_err P (Err e) err p = p

image_or_not : (g : GeometryValue) (half : Half) (n : ℕ) → InHalfImage g half n ⊎ (¬ InHalfImage g half n)
image_or_not g half n = ⊎_elim
    (λ low. inr (λ is. omega (arith, low, is.0)))
    (λ high. ⊎_elim (λ below. inl (high, below)) (λ past. inr (λ is. omega (arith, past, is.1))) (cases_lt n (log_first g half)))
    (cases_lt n (header_sector g half))

module _ (g : GeometryValue) (half : Half) (old mid : DevicePast) (area : Area) (area_is : area ≡ log_area g half) (loose : (n : ℕ) → old.disk.unsynced n ≡ true
    → InHalfImage g half n) where
  gate_in_half : (n : ℕ) → IsGate area n → InHalf g half n
  gate_in_half n (slot, below, is) = log_inside g half n (subst (λ (a : Area). InArea a n) area_is (omega (arith, is), omega (arith, is, below)))

  -- closing the gates
  pub closing : LeavesOnly old mid (SameOutside (λ n. IsGate area n ⊎ (old.disk.unsynced n ≡ true)) old.disk.content)
      → LeavesOnly old mid (SameOutside (InHalf g half) old.disk.content)
  closing run = weaker old mid _ _ (λ c same. same_outside_wider _ (InHalf g half) old.disk.content c (λ n either.
      ⊎_elim (λ gate. gate_in_half n gate) (λ unsynced. image_inside g half n (loose n unsynced)) either) same) run

  -- the flip sector is no gate
  pub still_named : (current : Half) → SameOutside (IsGate area) old.disk.content mid.disk.content → Names (sector old.disk.content 1) current
      → Names (sector mid.disk.content 1) current
  still_named current same named = subst (λ (b : List ℕ). Names b current)
      (sym (same.same 1 (λ gate. omega (arith, behind_front g half 1 (gate_in_half 1 gate))))) named

  pub closed_outside : SameOutside (IsGate area) old.disk.content mid.disk.content → SameOutside (InHalf g half) old.disk.content mid.disk.content
  closed_outside same = same_outside_wider (IsGate area) (InHalf g half) old.disk.content mid.disk.content gate_in_half same

  -- and then an image is written
  module _ (new : DevicePast) (closed : LeavesOnly old mid (SameOutside (λ n. IsGate area n ⊎ (old.disk.unsynced n ≡ true)) old.disk.content))
      (gates : SameOutside (IsGate area) old.disk.content mid.disk.content)
      (all : IsSynced mid.disk) (written : RunsWithin (λ n. InHalfImage g half n ⊎ (mid.disk.unsynced n ≡ true)) mid.disk.content mid new) where
    in_the_image : (n : ℕ) → InHalfImage g half n ⊎ (mid.disk.unsynced n ≡ true) → InHalfImage g half n
    in_the_image n either = ⊎_elim (λ inside. inside) (λ unsynced. absurd (false≢true (sym (all n) ∙ unsynced))) either

    then_image : (c : CrashState) → SameOutside (λ n. InHalfImage g half n ⊎ (mid.disk.unsynced n ≡ true)) mid.disk.content c
        → SameOutside (InHalf g half) old.disk.content c
    then_image c same = same_outside_then (InHalf g half) old.disk.content mid.disk.content c (closed_outside gates)
        (same_outside_wider _ (InHalf g half) mid.disk.content c (λ n either. image_inside g half n (in_the_image n either)) same)

    pub imaging : LeavesOnly old new (SameOutside (InHalf g half) old.disk.content)
    imaging = joined old mid new (SameOutside (InHalf g half) old.disk.content) (closing closed) (weaker mid new _ _ then_image written.run)

    pub imaged_outside : SameOutside (InHalf g half) old.disk.content new.disk.content
    imaged_outside = then_image new.disk.content written.now.content

    pub imaged_loose : (n : ℕ) → new.disk.unsynced n ≡ true → InHalfImage g half n
    imaged_loose n unsynced = ⊎_elim
        (λ inside. inside)
        (λ out. absurd (false≢true (sym (written.now.synced n (λ either. out (in_the_image n either))) ∙ unsynced)))
        (image_or_not g half n)

    pub imaged_log : (log : Log) (groups : List (List RecordValue)) → log.area ≡ area → Stands log mid.disk.content groups → Stands log new.disk.content groups
    imaged_log log groups same stands = record {
      held = told_by_its_sectors log.area mid.disk.content new.disk.content groups written.now.content.sectors
          (λ n inside. written.now.content.same n (λ either. let there = subst (λ (a : Area). InArea a n) (same ∙ area_is) inside in
          omega (arith, there.0, (in_the_image n either).1))) stands.held;
      counted = stands.counted;
    }

-- ---- the flip sector stays

header_behind : (g : GeometryValue) (half : Half) → 2 ≤ header_sector g half
header_behind g A = omega arith
header_behind g B = omega arith

pub named_behind : (g : GeometryValue) (half current : Half) (start count : ℕ) (old new : CrashState)
    → SameOutside (InEntries g (header_sector g half) start count) old new → Names (sector old 1) current → Names (sector new 1) current
named_behind g half current start count old new same named = subst (λ (b : List ℕ). Names b current)
    (sym (same.same 1 (λ inside. omega (arith, inside.0, header_behind g half)))) named

-- ---- an image under way is written

-- one part is written after another
pub runs_then : (P : ℕ → Type 0) (old mid new : DevicePast) → RunsWithin (λ n. P n ⊎ (old.disk.unsynced n ≡ true)) old.disk.content old mid
    → RunsWithin (λ n. P n ⊎ (mid.disk.unsynced n ≡ true)) mid.disk.content mid new
    → RunsWithin (λ n. P n ⊎ (old.disk.unsynced n ≡ true)) old.disk.content old new
runs_then P old mid new first second = record {
  now = record { content = outside_then new.disk.content second.now.content; synced = λ k out. second.now.synced k (apart k out) };
  run = joined old mid new (SameOutside S old.disk.content) first.run
      (weaker mid new (SameOutside (λ n. P n ⊎ (mid.disk.unsynced n ≡ true)) mid.disk.content) (SameOutside S old.disk.content) outside_then second.run);
}
  where
    S : ℕ → Type 0
    S n = P n ⊎ (old.disk.unsynced n ≡ true)

    apart : (k : ℕ) → ¬ (P k ⊎ (old.disk.unsynced k ≡ true)) → ¬ (P k ⊎ (mid.disk.unsynced k ≡ true))
    apart k out either = ⊎_elim (λ is. out (inl is)) (λ is. false≢true (sym (first.now.synced k out) ∙ is)) either

    outside_then : (c : CrashState) → SameOutside (λ n. P n ⊎ (mid.disk.unsynced n ≡ true)) mid.disk.content c
        → SameOutside (λ n. P n ⊎ (old.disk.unsynced n ≡ true)) old.disk.content c
    outside_then c same = record {
      sectors = same.sectors ∙ first.now.content.sectors;
      same = λ k out. same.same k (apart k out)
          ∙ first.now.content.same k out;
    }

module _ (g : GeometryValue) (half : Half) (old new : DevicePast) (loose : (n : ℕ) → old.disk.unsynced n ≡ true
    → InHalfImage g half n) (written : RunsWithin (λ n. InHalfImage g half n ⊎ (old.disk.unsynced n ≡ true)) old.disk.content old new) where
  in_image : (n : ℕ) → InHalfImage g half n ⊎ (old.disk.unsynced n ≡ true) → InHalfImage g half n
  in_image n either = ⊎_elim (λ inside. inside) (λ unsynced. loose n unsynced) either

  in_half : (c : CrashState) → SameOutside (λ n. InHalfImage g half n ⊎ (old.disk.unsynced n ≡ true)) old.disk.content c
      → SameOutside (InHalf g half) old.disk.content c
  in_half c same = same_outside_wider _ (InHalf g half) old.disk.content c (λ n either. image_inside g half n (in_image n either)) same

  pub writing : LeavesOnly old new (SameOutside (InHalf g half) old.disk.content)
  writing = weaker old new _ _ in_half written.run

  pub written_outside : SameOutside (InHalf g half) old.disk.content new.disk.content
  written_outside = in_half new.disk.content written.now.content

  pub written_loose : (n : ℕ) → new.disk.unsynced n ≡ true → InHalfImage g half n
  written_loose n unsynced = ⊎_elim
      (λ inside. inside)
      (λ out. absurd (false≢true (sym (written.now.synced n (λ either. out (in_image n either))) ∙ unsynced)))
      (image_or_not g half n)

  pub written_log : (log : Log) (groups : List (List RecordValue)) → log.area ≡ log_area g half → Stands log old.disk.content groups
      → Stands log new.disk.content groups
  written_log log groups area_is stands = record {
    held = told_by_its_sectors log.area old.disk.content new.disk.content groups written.now.content.sectors
        (λ n inside. written.now.content.same n (λ either. let there = subst (λ (a : Area). InArea a n) area_is inside in
        omega (arith, there.0, (in_image n either).1))) stands.held;
    counted = stands.counted;
  }

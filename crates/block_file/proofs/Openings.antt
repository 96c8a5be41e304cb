-- A file is opened.
use Rattle.std.proofs.Common.{Result, Ok, Err, IfOk, IfErr, ◌≡◌, ◌⊎◌, inl, inr, ⊎_elim, ℕ, ◌<◌, false, Option, Some, None, length, refl, sym, ◌∙◌}
use Rattle.std.proofs.Common.{ap, subst, arith}
use Rattle.block_device.specs.Blocks.{CrashFile, BlockFile, IsCrashFile, block}
use Rattle.block_device.specs.BlocksPast.{BlocksPast, LeavesOnly}
use Rattle.block_device.proofs.CrashFiles.{crash_synced}
use Rattle.block_device.proofs.Moments.{joined, one_call}
use Rattle.block_journal.specs.declared.shape.Shape.{Shape}
use Rattle.block_journal.specs.Layout.{IsInside, recovered}
use Rattle.block_journal.specs.Journal.{LeavesBefore, OnlyReads, StaysRecovered}
use Rattle.block_journal.proofs.Before.{before_read, none_before}
use Rattle.block_table.specs.Table.{IsFit}
use Rattle.block_file.specs.Damage.{CanBeOpened, IsDamagedAt}
use Rattle.block_file.specs.Header.{HasNoBatch, IsCut, plan_told}
use Rattle.block_file.specs.declared.opening.FileError.{FileError}
use Rattle.block_file.specs.declared.opening.FileError.TheVariants.{Damaged, FileFailed, NoBatch, NoHeader, NoMemory, TooShort}
use Rattle.block_file.specs.declared.plan.Plan.{Plan}
use Rattle.block_file.proofs.Heading.{told_behind}

-- two plans that one file tells
pub same_plan : (o : Option Plan) (p q : Plan) → o ≡ Some p → o ≡ Some q → p ≡ q
same_plan o p q first second = some_is p q (sym first ∙ second)
  where
    some_is : (p q : Plan) → Path (Option Plan) (Some p) (Some q) → p ≡ q
    some_is p q both = cc

pub if_ok : {T E : Type 0} (r : Result T E) (P Q S : T → Type 0) → ((x : T) → P x → Q x → S x) → IfOk r P → IfOk r Q → IfOk r S
if_ok (Ok x) P Q S so p q = so x p q
if_ok (Err e) P Q S so p q = tt

pub if_ok3 : {T E : Type 0} (r : Result T E) (P Q R S : T → Type 0) → ((x : T) → P x → Q x → R x → S x) → IfOk r P → IfOk r Q → IfOk r R → IfOk r S
if_ok3 (Ok x) P Q R S so p q r = so x p q r
if_ok3 (Err e) P Q R S so p q r = tt

pub if_err2 : {T E : Type 0} (r : Result T E) (P Q S : E → Type 0) → ((e : E) → P e → Q e → S e) → IfErr r P → IfErr r Q → IfErr r S
if_err2 (Ok x) P Q S so p q = tt
if_err2 (Err e) P Q S so p q = so e p q

-- calls that only read a file with no loose block
pub reads_recovered : (g : Shape) (old new : BlocksPast) → ((n : ℕ) → old.file.loose n ≡ false) → OnlyReads old new → StaysRecovered g old new
reads_recovered g old new synced reads = one_call old new (λ c. recovered g c ≡ recovered g old.file.content) reads.time here
    (λ c crash. here c (subst (λ (f : BlockFile). IsCrashFile f c) reads.file crash))
  where
    here : (c : CrashFile) → IsCrashFile old.file c → recovered g c ≡ recovered g old.file.content
    here c crash = ap (recovered g) (crash_synced old.file c synced crash)

-- one behind the other
pub stays_then : (g : Shape) (old mid new : BlocksPast) → mid.file ≡ old.file → StaysRecovered g old mid → StaysRecovered g mid new → StaysRecovered g old new
stays_then g old mid new same first second = joined old mid new (λ c. recovered g c ≡ recovered g old.file.content) first
    (subst (λ (f : BlockFile). LeavesOnly mid new (λ c. recovered g c ≡ recovered g f.content)) same second)

-- the same of the blocks before the journal
pub reads_before : (g : Shape) (old new : BlocksPast) → ((n : ℕ) → old.file.loose n ≡ false) → OnlyReads old new → LeavesBefore g old new
reads_before g old new synced reads = before_read g old old new (none_before g old synced) reads

pub before_then : (g : Shape) (old mid new : BlocksPast) → mid.file ≡ old.file → LeavesBefore g old mid → LeavesBefore g mid new → LeavesBefore g old new
before_then g old mid new same first second = joined old mid new (λ c. (n : ℕ) → n < g.first → block c n ≡ block old.file.content n) first
    (subst (λ (f : BlockFile). LeavesOnly mid new (λ c. (n : ℕ) → n < g.first → block c n ≡ block f.content n)) same second)

-- ---- a file that can be opened

pub if_ok5 : {T E : Type 0} (r : Result T E) (P Q R S V W : T → Type 0) → ((x : T) → P x → Q x → R x → S x → V x → W x)
    → IfOk r P → IfOk r Q → IfOk r R → IfOk r S → IfOk r V → IfOk r W
if_ok5 (Ok x) P Q R S V W so p q r s v = so x p q r s v
if_ok5 (Err e) P Q R S V W so p q r s v = tt

pub if_err4 : {T E : Type 0} (r : Result T E) (P Q R S V : E → Type 0) → ((e : E) → P e → Q e → R e → S e → V e)
    → IfErr r P → IfErr r Q → IfErr r R → IfErr r S → IfErr r V
if_err4 (Ok x) P Q R S V so p q r s = tt
if_err4 (Err e) P Q R S V so p q r s = so e p q r s

-- has room for both headers
has_two : (p : Plan) (image : CrashFile) → CanBeOpened p image → ¬ (length image < 2)
has_two p image can short = omega (arith, told_behind image p can.told, can.inside.room, short)

-- why it is refused
pub why_refused : (e : FileError) (image : CrashFile) (p : Plan) → CanBeOpened p image → (e ≡ NoHeader → plan_told image ≡ None)
    → (e ≡ TooShort → (length image < 2) ⊎ IsCut image) → (e ≡ NoBatch → HasNoBatch image) → ((n : ℕ) → e ≡ Damaged n → IsDamagedAt n image)
    → (e ≡ NoMemory) ⊎ (e ≡ FileFailed)
why_refused NoMemory image p can none short batch damaged = inl refl
why_refused FileFailed image p can none short batch damaged = inr refl
why_refused NoHeader image p can none short batch damaged = absurd (never (sym (none refl) ∙ can.told))
  where
    never : Path (Option Plan) None (Some p) → ⊥
    never is = absurd cc
why_refused TooShort image p can none short batch damaged = absurd (⊎_elim (has_two p image can) cut (short refl))
  where
    cut : IsCut image → ⊥
    cut is = is.2 (subst (λ (q : Plan). IsInside q.shape image) (same_plan (plan_told image) p is.0 can.told is.1) can.inside)
why_refused NoBatch image p can none short batch damaged = absurd (can.batch (batch refl))
why_refused (Damaged n) image p can none short batch damaged = absurd (unfit (damaged n refl))
  where
    unfit : IsDamagedAt n image → ⊥
    unfit is = is.3.unfit (subst (λ (q : Plan). IsFit q.blocks (recovered q.shape image) n) (same_plan (plan_told image) p is.0 can.told is.1)
        (can.fits n (subst (λ (q : Plan). n < q.blocks) (same_plan (plan_told image) is.0 p is.1 can.told) is.3.low)))

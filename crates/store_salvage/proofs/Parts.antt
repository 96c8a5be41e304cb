-- Where the parts of a half lie, what blanking them leaves, and why they are given up.
use Rattle.std.specs.Prelude.{is_err, IfNone, IfSome}
use Rattle.std.proofs.Common.{◌≡◌, ◌≢◌, ◌⊎◌, inl, inr, ℕ, ◌<◌, ◌≤◌, List, [], ◌∷◌, ◌++◌, Option, Some, None, Result, Ok, Err, OnOk, OnErr, true}
use Rattle.std.proofs.Common.{false, refl, subst, arith}
use Rattle.sector_device.specs.Disk.{CrashState, SameOutside}
use Rattle.record_values.specs.GeometryValue.{GeometryValue}
use Rattle.record_values.specs.declared.error.Error.{Error}
use Rattle.record_values.specs.declared.error.Error.TheVariants.{Damaged, DeviceFailed}
use Rattle.record_values.specs.declared.version.Version.TheVariants.{Two}
use Rattle.model.specs.Given.{Given}
use Rattle.gate_log.specs.Area.{Log as AreaLog, Refuses}
use Rattle.flip_image.specs.declared.half.Half.{Half}
use Rattle.flip_image.specs.declared.half.Half.TheVariants.{A, B}
use Rattle.flip_image.specs.Layout.{gate_sector, header_sector}
use Rattle.flip_image.specs.Store.{IsDeviceFailure, IsRefused, IsStore}
use Rattle.flip_image.proofs.Sides.{store_in_front}
use Rattle.flip_image.proofs.Stores.{accepted, one_geometry}
use Rattle.store_reader.specs.Contents.{Gives, IsFound, IsUnreadable}
use Rattle.store_salvage.specs.declared.part.Part.{Part}
use Rattle.store_salvage.specs.declared.part.Part.TheVariants.{Page, Log}
use Rattle.store_salvage.specs.Salvage.{AreBlanked, HasNoHeader, InPart, IsGivenUp, IsNamedBy, IsNotSalvaged, IsStep, IsUnindexed, NamesNone}

-- ---- where they lie

-- each half begins behind the superblock and the flip sector
header_behind : (g : GeometryValue) (half : Half) → 2 ≤ header_sector g half
header_behind g A = omega arith
header_behind g B = omega arith

-- and so does each part of it
part_behind : (g : GeometryValue) (half : Half) (part : Part) (n : ℕ) → InPart g half part n → 2 ≤ n
part_behind g half (Page page) n within = omega (arith, within.2, header_behind g half)
part_behind g half (Log slot) n within = omega (arith, within.2, header_behind g half)

-- a sector names none where it names no page and no slot
pub names_none : (g : GeometryValue) (half : Half) (n : ℕ) → ((page : ℕ) → page < g.pages → ¬ IsNamedBy g half (Page page) n)
    → ((slot : ℕ) → slot < g.slots → n ≢ gate_sector g half slot) → NamesNone g half n
names_none g half n pages slots (Page page) of = pages page of
names_none g half n pages slots (Log slot) of = slots slot of

-- ---- a store stays a store, with the same half current

pub store_behind_part : (g : GeometryValue) (half : Half) (part : Part) (before after : CrashState) → SameOutside (InPart g half part) before after
    → IsStore g half before → IsStore g half after
store_behind_part g half part before after others store = store_in_front g half before after others.sectors
    (λ n low. others.same n (λ within. omega (arith, low, part_behind g half part n within))) store

pub store_behind_header : (g : GeometryValue) (half : Half) (before after : CrashState) → SameOutside (λ n. n ≡ header_sector g half) before after
    → IsStore g half before → IsStore g half after
store_behind_header g half before after others store = store_in_front g half before after others.sectors
    (λ n low. others.same n (λ is. omega (arith, low, is, header_behind g half))) store

-- ---- parts that are blanked one after the other

-- one part more
pub blanked_more : (g : GeometryValue) (half : Half) (parts : List Part) (part : Part) (before now after : CrashState)
    → AreBlanked g half parts before now → IsStep g half part now after → AreBlanked g half (parts ++ part ∷ []) before after
blanked_more g half [] part before now after so_far step = (after, subst (λ (i : CrashState). IsStep g half part i after) so_far step, refl)
blanked_more g half (first ∷ parts) part before now after so_far step =
    (so_far.0, so_far.1, blanked_more g half parts part so_far.0 now after so_far.2 step)

-- ---- what a reader answers

-- it found what the content gives
pub found_gives : (image : CrashState) (g size : GeometryValue) (half : Half) (log : AreaLog) (given : Given) → IsFound image size log given
    → IsStore g half image → Gives image g given
found_gives image g size half log given is store =
    subst (λ (x : GeometryValue). Gives image x given) (one_geometry Two size g is.gives.half half image is.gives.holds.store store) is.gives

-- a refusal with a sector is one of the content
pub unreadable : (image : CrashState) (before now n : ℕ) → Refuses before now (Damaged n) ⊎ IsUnreadable image (Damaged n) → IsUnreadable image (Damaged n)
unreadable image before now n (inl (inl is)) = absurd cc
unreadable image before now n (inl (inr is)) =
    let bad : Damaged n ≡ DeviceFailed = is.0 in
    absurd cc
unreadable image before now n (inr is) = is

-- any other refusal of a store has no sector
pub hindered : (g : GeometryValue) (half : Half) (image : CrashState) (before now : ℕ) (e : Error) → IsStore g half image → ((n : ℕ) → e ≢ Damaged n)
    → Refuses before now e ⊎ IsUnreadable image e → Refuses before now e
hindered g half image before now e store other (inl refuses) = refuses
hindered g half image before now e store other (inr (inl refused)) = absurd (accepted Two g half image e store refused)
hindered g half image before now e store other (inr (inr damaged)) = absurd (other damaged.0 damaged.1)

-- ---- why a half is given up

-- behind calls that didn't fail
refuses_later : (a b c : ℕ) (e : Error) → b ≡ a → Refuses b c e → Refuses a c e
refuses_later a b c e same is = subst (λ (n : ℕ). Refuses n c e) same is

-- a reader refuses what is left
pub given_up : (g : GeometryValue) (half : Half) (parts : List Part) (bare left : CrashState) (a b c : ℕ) (e : Error) → b ≡ a
    → AreBlanked g half parts bare left
    → Refuses b c e ⊎ ((n : ℕ) × (e ≡ Damaged n) × IsUnreadable left (Damaged n) × NamesNone g half n)
    → Refuses a c e ⊎ ((n : ℕ) × (e ≡ Damaged n) × IsGivenUp g half bare n)
given_up g half parts bare left a b c e same blanked (inl refuses) = inl (refuses_later a b c e same refuses)
given_up g half parts bare left a b c e same blanked (inr (n, is, unreadable, none)) =
    inr (n, is, (parts, left, blanked, inl (unreadable, none)))

module _ (image : CrashState) (e : Error) where
  -- it is no store
  pub not_opened : (a b : ℕ) → IsRefused image e ⊎ IsDeviceFailure a b e → IsNotSalvaged image a b e
  not_opened a b (inl refused) = inl refused
  not_opened a b (inr failed) = inr (inl (inr failed))

  -- its header says nothing
  pub not_bared : (g : GeometryValue) (half : Half) (later : CrashState) (a b c : ℕ) → IsStore g half image → b ≡ a → later ≡ image
      → Refuses b c e ⊎ ((e ≡ Damaged (header_sector g half)) × HasNoHeader g half later) → IsNotSalvaged image a c e
  not_bared g half later a b c store same still (inl refuses) = inr (inl (refuses_later a b c e same refuses))
  not_bared g half later a b c store same still (inr (is, none)) = inr (inr (
    header_sector g half,
    is,
    record {
      geometry = g;
      half = half;
      store = store;
      why = inl (refl, subst (HasNoHeader g half) still none);
    },
  ))

  -- the half is given up
  pub not_blanked : (g : GeometryValue) (half : Half) (bare : CrashState) (a b c : ℕ) → IsStore g half image → b ≡ a → IsUnindexed g half image bare
      → Refuses b c e ⊎ ((n : ℕ) × (e ≡ Damaged n) × IsGivenUp g half bare n) → IsNotSalvaged image a c e
  not_blanked g half bare a b c store same unindexed (inl refuses) = inr (inl (refuses_later a b c e same refuses))
  not_blanked g half bare a b c store same unindexed (inr (n, is, given)) =
      inr (inr (n, is, record { geometry = g; half = half; store = store; why = inr (bare, unindexed, given) }))

-- ---- results

pub none_here : {T : Type 0} (o : Option T) (P : Type 0) → o ≡ None → IfNone o P → P
none_here o P is h = subst (λ x. IfNone x P) is h

pub none_so : {T : Type 0} (o : Option T) (P Q : Type 0) → (P → Q) → IfNone o P → IfNone o Q
none_so (Some x) P Q so h = h
none_so None P Q so h = so h

pub some_here : {T : Type 0} (o : Option T) (x : T) (P : T → Type 0) → o ≡ Some x → IfSome o P → P x
some_here o x P is h = subst (λ y. IfSome y P) is h

pub from_ok : {T E : Type 0} (P : Type 0) (r : Result T E) → is_err r ≡ false → OnOk r P → P
from_ok P (Ok x) is h = h
from_ok P (Err e) is h = absurd cc

pub from_err : {T E : Type 0} (P : Type 0) (r : Result T E) → is_err r ≡ true → OnErr r P → P
from_err P (Ok x) is h = absurd cc
from_err P (Err e) is h = h

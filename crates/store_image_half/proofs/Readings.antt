-- What a caller may conclude of images, for proofs in the crates above: one image of a version lies in some sectors at most, its sectors
-- tell it, and where it lies no sector is damaged.
use Rattle.std.proofs.Common.{◌≡◌, ℕ}
use Rattle.sector_device.specs.Disk.{CrashState, sector}
use Rattle.record_values.specs.declared.version.Version.{Version}
use Rattle.record_values.specs.GeometryValue.{GeometryValue}
use Rattle.model.specs.Cells.{Cells}
use Rattle.store_image_half.specs.Layout.{InImageIn}
use Rattle.store_image_half.specs.Image.{IsImageIn}
use Rattle.store_image_half.specs.Damage.{IsFirstDamagedIn}
use Rattle.store_image_half.proofs.OneImage as one
use Rattle.store_image_half.proofs.Sound as sound
use Rattle.store_image_half.proofs.Told as told

pub one_base : (v : Version) (g : GeometryValue) (first : ℕ) (image : CrashState) (m n : ℕ) (x y : Cells) → IsImageIn v g first image m x
    → IsImageIn v g first image n y → m ≡ n
one_base = one.same_base

pub one_image : (v : Version) (g : GeometryValue) (first : ℕ) (image : CrashState) (m n : ℕ) (x y : Cells) → IsImageIn v g first image m x
    → IsImageIn v g first image n y → x ≡ y
one_image = one.same_cells

pub told_by_its_sectors : (v : Version) (g : GeometryValue) (first : ℕ) (image other : CrashState)
    → ((n : ℕ) → InImageIn v g first n → sector other n ≡ sector image n) → (base : ℕ) (cells : Cells) → IsImageIn v g first image base cells
    → IsImageIn v g first other base cells
told_by_its_sectors = told.stays

-- an image that lies there is damaged nowhere
pub not_damaged : (v : Version) (g : GeometryValue) (first : ℕ) (image : CrashState) (base : ℕ) (cells : Cells) (n : ℕ) → IsFirstDamagedIn v g first image n
    → ¬ IsImageIn v g first image base cells
not_damaged v g first image base cells n damaged is = sound.not_damaged v g first image base cells n is damaged.damaged

pub one_damage : (v : Version) (g : GeometryValue) (first : ℕ) (image : CrashState) (m n : ℕ) → IsFirstDamagedIn v g first image m
    → IsFirstDamagedIn v g first image n → m ≡ n
one_damage = sound.one_first

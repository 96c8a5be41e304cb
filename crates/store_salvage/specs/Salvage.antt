-- What is left of a damaged store, once the parts that say nothing are blank.
use Rattle.std.specs.Prelude.{◌≡◌, ◌⊎◌, ℕ, ◌+◌, ◌-◌, ◌<◌, List, [], ◌∷◌, length}
use Rattle.sector_device.specs.Disk.{CrashState, sector, SameOutside}
use Rattle.sector_device.specs.Values.{AreZeroSectors, InRow}
use Rattle.record_values.specs.GeometryValue.{GeometryValue}
use Rattle.record_values.specs.declared.geometry.TheConstants.{PAGE_SECTORS, SLOT_SECTORS}
use Rattle.record_values.specs.declared.error.Error.{Error}
use Rattle.record_values.specs.declared.error.Error.TheVariants.{Damaged}
use Rattle.model.specs.Given.{Given}
use Rattle.gate_log.specs.Area.{Refuses}
use Rattle.store_image_parts.specs.declared.header.Header.{Header}
use Rattle.store_image_half.specs.Image.{IsHeader}
use Rattle.flip_image.specs.declared.half.Half.{Half}
use Rattle.flip_image.specs.Layout.{gate_sector, header_sector, page_sector}
use Rattle.flip_image.specs.Store.{IsRefused, IsStore}
use Rattle.store_reader.specs.Contents.{Gives, IsUnreadable}
use Rattle.store_salvage.specs.declared.part.Part.{Part}
use Rattle.store_salvage.specs.declared.part.Part.TheVariants.{Page, Log}

-- a store of this geometry has the part
abbrev pub IsPartOf : GeometryValue → Part → Type 0
IsPartOf g (Page page) = page < g.pages
IsPartOf g (Log slot) = slot < g.slots

-- a sector of the part in a half: one of the page, or a gate of the log from the slot on
abbrev pub InPart : GeometryValue → Half → Part → ℕ → Type 0
InPart g half (Page page) n = InRow (page_sector g half page) 1 PAGE_SECTORS n
InPart g half (Log slot) n = InRow (gate_sector g half slot) SLOT_SECTORS (g.slots - slot) n

-- the sector by which a reader names the part: one of the page, or the gate of the slot
abbrev pub IsNamedBy : GeometryValue → Half → Part → ℕ → Type 0
IsNamedBy g half (Page page) n = InRow (page_sector g half page) 1 PAGE_SECTORS n
IsNamedBy g half (Log slot) n = n ≡ gate_sector g half slot

-- the sector names no part that a store of this geometry has
abbrev pub NamesNone : GeometryValue → Half → ℕ → Type 0
NamesNone g half n = (part : Part) → IsPartOf g part → ¬ IsNamedBy g half part n

-- the part is blank: each of these sectors is of zeros, so that the page has no row, or the gates are closed
abbrev pub IsBlank : GeometryValue → Half → CrashState → Part → Type 0
IsBlank g half image (Page page) = AreZeroSectors image (page_sector g half page) 1 PAGE_SECTORS
IsBlank g half image (Log slot) = AreZeroSectors image (gate_sector g half slot) SLOT_SECTORS (g.slots - slot)

-- A reader refuses the content before, and names the part, which is blank behind. The other sectors stay.
pub record IsStep (g : GeometryValue) (half : Half) (part : Part) (before after : CrashState) : Type 0 where
  pub part-of : IsPartOf g part
  pub named : ℕ
  pub names : IsNamedBy g half part named
  pub damaged : IsUnreadable before (Damaged named)
  pub blank : IsBlank g half after part
  pub others : SameOutside (InPart g half part) before after

-- these parts are blanked so, one after the other
abbrev pub AreBlanked : GeometryValue → Half → List Part → CrashState → CrashState → Type 0
AreBlanked g half [] before after = after ≡ before
AreBlanked g half (part ∷ parts) before after = (next : CrashState) × IsStep g half part before next
    × AreBlanked g half parts next after

-- the half's image is left without entries: its header says what it said, but counts none
pub record IsUnindexed (g : GeometryValue) (half : Half) (before after : CrashState) : Type 0 where
  pub header : Header
  pub said : IsHeader g (sector before (header_sector g half)) header
  pub says : IsHeader g (sector after (header_sector g half)) (record header { entries = 0 })
  pub others : SameOutside (λ n. n ≡ header_sector g half) before after

-- The content before was of a store, with this half current. Its image is left without entries, then these parts of the
-- half are blanked, and what is left gives something.
pub record IsSalvaged (g : GeometryValue) (half : Half) (parts : List Part) (before after : CrashState) : Type 0 where
  pub store : IsStore g half before
  pub bare : CrashState
  pub unindexed : IsUnindexed g half before bare
  pub blanked : AreBlanked g half parts bare after
  pub given : Given
  pub gives : Gives after g given

-- the half's header says nothing
abbrev pub HasNoHeader : GeometryValue → Half → CrashState → Type 0
HasNoHeader g half image = (h : Header) → ¬ IsHeader g (sector image (header_sector g half)) h

-- Why no more parts of the half are blanked, once these are: a reader refuses what is left with this sector, which
-- names none. Or it is the header's, and more are blank than there are.
abbrev pub IsLeftWith : GeometryValue → Half → List Part → CrashState → ℕ → Type 0
IsLeftWith g half parts left n = (IsUnreadable left (Damaged n) × NamesNone g half n)
    ⊎ ((n ≡ header_sector g half) × (g.pages + g.slots < length parts))

-- the half is given up with this sector, once some parts are blanked
abbrev pub IsGivenUp : GeometryValue → Half → CrashState → ℕ → Type 0
IsGivenUp g half bare n = (parts : List Part) × (left : CrashState) × AreBlanked g half parts bare left
    × IsLeftWith g half parts left n

-- The content is of a store, with this half current: its header says nothing, and is this sector; or the half is given
-- up with it, once its image is left without entries.
pub record IsLost (content : CrashState) (n : ℕ) : Type 0 where
  pub geometry : GeometryValue
  pub half : Half
  pub store : IsStore geometry half content
  pub why : ((n ≡ header_sector geometry half) × HasNoHeader geometry half content)
      ⊎ ((bare : CrashState) × IsUnindexed geometry half content bare × IsGivenUp geometry half bare n)

-- why nothing is salvaged: it is no store, there was no memory, the device failed, or the half is lost
abbrev pub IsNotSalvaged : CrashState → ℕ → ℕ → Error → Type 0
IsNotSalvaged content before now e = IsRefused content e ⊎ (Refuses before now e
    ⊎ ((n : ℕ) × (e ≡ Damaged n) × IsLost content n))

-- The parts of a writer.
use Rattle.std.specs.Prelude.{ℕ, ◌+◌, Bool, List, length, Option, None}
use Rattle.records.specs.RecordValue.{RecordValue}
use Rattle.gate_log.specs.Area.{Log}
use Rattle.flip_image.specs.Layout.{HalvesValue}
use Rattle.store_writer.specs.declared.copying.Copying.{Copying}
use Rattle.store_writer.specs.declared.image.NewImage.{NewImage}
use Rattle.store_writer.specs.declared.writer.Writer.{Writer}

module _ {D M : Type 0} where
  abbrev pub device_of : Writer D M → D
  device_of w = w.device

  abbrev pub halves_of : Writer D M → HalvesValue
  halves_of w = w.halves

  -- the log of the current half
  abbrev pub log_of : Writer D M → Log
  log_of w = w.log

  -- the records that were handed in and are not synced yet, in order
  abbrev pub waiting_of : Writer D M → List RecordValue
  waiting_of w = w.waiting

  -- the number of the last record that was handed in
  abbrev pub handed_of : Writer D M → ℕ
  handed_of w = w.synced + length w.waiting

  -- the number of the last synced record
  abbrev pub synced_of : Writer D M → ℕ
  synced_of w = w.synced

  -- whether the device has failed
  abbrev pub has_failed : Writer D M → Bool
  has_failed w = w.failed

  -- the image under way
  abbrev pub image_of : Writer D M → Option NewImage
  image_of w = w.image

  -- how far its copying has come
  abbrev pub copying_of : Writer D M → Copying
  copying_of w = w.copying

  -- For each page a number above which no record sets a row of it; for none, until there is memory for all.
  abbrev pub changed_of : Writer D M → List ℕ
  changed_of w = w.known.changed.items

  -- the current half has each page as it is whose number is at most this one
  abbrev pub known_here : Writer D M → Option ℕ
  known_here w = w.known.current

  -- and so has the half of an image
  abbrev pub known_there : Writer D M → Option ℕ
  known_there w = w.known.other

  -- with no image under way, and its copying here
  abbrev pub without_image : Copying → Writer D M → Writer D M
  without_image copying w = record w { image = None; copying = copying }

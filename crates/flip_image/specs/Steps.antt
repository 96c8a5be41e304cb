-- Words for the private steps of reading a superblock. No public clause cites them.
use Rattle.std.specs.Prelude.{◌≡◌, ℕ}
use Rattle.record_values.specs.declared.version.Version.{Version}
use Rattle.record_values.specs.declared.version.Version.TheVariants.{One, Two}
use Rattle.flip_image.specs.declared.superblock.TheConstants.{OLD_VERSION}

-- the number of a version older than this one
abbrev pub IsOlderNumber : Version → ℕ → Type 0
IsOlderNumber One n = ⊥
IsOlderNumber Two n = n ≡ OLD_VERSION

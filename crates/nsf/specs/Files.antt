-- Why there is no device of a file.
use Rattle.std.specs.Prelude.{◌≡◌}
use Rattle.record_values.specs.declared.error.Error.TheVariants.{DeviceFailed}
use Rattle.nsf.specs.declared.files.FileError.{FileError}
use Rattle.nsf.specs.declared.files.FileError.TheVariants.{File, Store}

-- the file can't be opened, or made
abbrev pub IsOfFile : FileError → Type 0
IsOfFile (File e) = Unit {0}
IsOfFile (Store e) = ⊥

-- that, or a write or a sync of the new file failed, which was to be made a store
abbrev pub IsNoDevice : FileError → Type 0
IsNoDevice (File e) = Unit {0}
IsNoDevice (Store e) = e ≡ DeviceFailed

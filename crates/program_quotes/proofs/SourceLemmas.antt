-- What reads of a source come to.
use Rattle.std.proofs.Common.{◌≡◌, [], List, None, Option, Some, sym, ℕ}
use Rattle.std.specs.Io.KnownBytes.{Consumes, Keeps}

-- what loses no byte is as before
pub keeps_none : (old new : Option (List ℕ)) (bytes : List ℕ) → bytes ≡ [] → Consumes old new bytes → Keeps old new
keeps_none None new bytes none h = tt
keeps_none (Some xs) None bytes none h = h
keeps_none (Some xs) (Some ys) bytes none h = sym (rw none at h)

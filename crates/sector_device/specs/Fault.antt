-- When the one failure of a `FaultDisk` comes.
use Rattle.std.specs.Prelude.{ℕ, nat_lt, nat_le, ◌&&◌, if◌then◌else◌}

-- how often it has failed by itself, after so many counted calls: once, from the call on at which it fails; never at 0
abbrev pub fault_count : (fails_at made : ℕ) → ℕ
fault_count fails_at made = if nat_lt 0 fails_at && nat_le fails_at made then 1 else 0

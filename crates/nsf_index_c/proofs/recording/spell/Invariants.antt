use Rattle.std.proofs.Common.{◌≤◌, ◌+◌, ◌-◌, ◌*◌, length, take}
use Rattle.nsf_index_c.specs.Recording.{IsSpelled}
use Rattle.nsf_index_c.proofs.recording.spell.Given as goal

abbrev pub invariant-loop-note : goal.invariant-loop-note
invariant-loop-note l = IsSpelled (take l.note-index l.notes) l.used l.fn.bytes l.bytes
    × (l.used + (length l.notes - l.note-index) * 64 ≤ length l.bytes)

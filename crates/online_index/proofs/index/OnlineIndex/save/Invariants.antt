use Rattle.std.proofs.Common.{List, length, ◌+◌, ◌++◌, ◌-◌, ◌≡◌, ◌≤◌}
use Rattle.std.specs.Vec.{vec_capacity, vec_len}
use Rattle.online_index.specs.Pieces.{IsPieceOf}
use Rattle.online_model.specs.declared.note.Note.{Note}
use Rattle.online_index.proofs.index.OnlineIndex.save.Given as goal

abbrev pub invariant-loop-count : goal.invariant-loop-count
invariant-loop-count g l = (vec_len l.notes + (l.most - l.count) ≤ vec_capacity l.notes)
    × ((piece : List Note) × (l.notes.items ≡ l.fn.notes.items ++ piece) × IsPieceOf l.self.entries l.fn.above piece l.passed
    × (length piece ≡ l.count))

-- Where the end of a builder was told.
use Rattle.std.specs.Prelude.{◌≡◌}
use Rattle.locked_core.specs.declared.group.Group.{Ghosts}
use Rattle.threads_loops.specs.declared.builder_end.BuilderEnd.{BuilderEnd}
use Rattle.threads_loops.specs.declared.reason.Told.{Told}

-- It was told here. One reason is told here, so all that are told are the same (`one_reason`).
abbrev pub IsToldBy : {B : Type 0} {g : Ghosts B} → BuilderEnd B g → Told B g → Type 0
IsToldBy told t = t.token.of ≡ told.reason.id

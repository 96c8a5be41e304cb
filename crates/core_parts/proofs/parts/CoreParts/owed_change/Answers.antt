use Rattle.std.proofs.Common.{sym, ◌∙◌}
use Rattle.std.proofs.Math.Logic.{∥∥₁_elim}
use mathlib.Core.HLevel.{⊥_prop}
use Rattle.core_parts.specs.Parts.{parts_of}
use Rattle.core_parts.proofs.Next.{newest_missing}
use Rattle.core_parts.proofs.parts.CoreParts.owed_change.Goals as goal

pub unreachable-requires : goal.unreachable-requires
unreachable-requires g c = ∥∥₁_elim c.requires.safe ⊥_prop
    (newest_missing (parts_of c.args.self.now) c.args.txn c.requires.asked c.requires.active (sym c.newest.ensures ∙ c.in_default.is))

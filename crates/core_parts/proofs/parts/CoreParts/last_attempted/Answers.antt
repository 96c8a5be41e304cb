use Rattle.std.proofs.Common.{sym}
use Rattle.std.proofs.Math.Logic.{∥∥₁_elim}
use Rattle.core_parts.specs.Parts.{parts_of}
use Rattle.core_parts.proofs.Building.{attempted_before}
use Rattle.core_parts.proofs.parts.CoreParts.last_attempted.Goals as goal

pub unreachable-requires : goal.unreachable-requires
unreachable-requires g c =
    ∥∥₁_elim c.requires.safe (λ x y. absurd x) (attempted_before (parts_of c.args.self.now) c.requires.building c.requires.tried (sym c.in-None.ensures))

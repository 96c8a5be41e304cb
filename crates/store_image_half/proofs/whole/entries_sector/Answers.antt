use Rattle.std.proofs.Common.{inl, inr, ◌+◌, List, Option, Some, sym, ap, ◌∙◌, subst, arith}
use Rattle.std.specs.Prelude.{slice_get}
use Rattle.std.specs.FinMap.{entries}
use Rattle.record_values.specs.declared.pair.Pair.{Pair}
use Rattle.record_values.specs.declared.pair.Mark.{Mark}
use Rattle.store_image_half.specs.Source.{IsPassed}
use Rattle.store_image_half.proofs.Lists.{option_cases, not_past}
use Rattle.store_image_half.proofs.whole.entries_sector.Goals as goal

pub returns-clause-spelled : goal.returns-clause-spelled
returns-clause-spelled g c = λ n passed j below. c.pieces_of.ensures j _ (c.entries_behind-entries.ensures n j passed below)

pub returns-clause-passed : goal.returns-clause-passed
returns-clause-passed g c = λ n passed room.
    let all : List (Pair × Mark) = entries (g.S.CellSource.cells c.args.source.now).entries in
    elim (option_cases (slice_get all (n + 7))) [
      | inl none ↦ absurd (not_past all (n + 7) (omega (arith, room)) none)
      | inr some ↦ subst (λ (p : Option Pair). IsPassed all (n + 8) p)
          (sym (c.last_pair.ensures some.0 (c.entries_behind-entries.ensures n 7 passed (omega arith) ∙ ap Some some.1)))
          (n + 7, some.0.1, omega arith, some.1)
    ]

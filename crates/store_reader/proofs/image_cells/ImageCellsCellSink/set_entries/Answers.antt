use Rattle.std.proofs.Common.{ap, ◌∙◌}
use Rattle.std.specs.Prelude.{nat_eq}
use Rattle.std.proofs.lemmas.Bool.{both_ways}
use Rattle.record_values.specs.Maps.{pair_exact}
use Rattle.store_reader.proofs.Filled.{filled_by, marked}
use Rattle.store_reader.proofs.image_cells.ImageCellsCellSink.set_entries.Goals as goal

pub invariant_of-self-then-not-is_empty : goal.invariant_of-self-then-not-is_empty
invariant_of-self-then-not-is_empty g c =
    marked (λ bare. filled_by pair_exact _ _ c.args.entries.now c.in-Ok.ensures (λ none.
    both_ways c.is_empty.result c.if-not-is_empty.true (c.is_empty.ensures ∙ ap (λ n. nat_eq n 0) none)) bare.1)

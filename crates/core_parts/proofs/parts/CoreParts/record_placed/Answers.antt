use Rattle.std.proofs.Common.{ap, ◌∙◌}
use Rattle.marked_index.specs.Index.{IndexValue}
use Rattle.core_parts.specs.Parts.{parts_of}
use Rattle.core_parts.specs.Private.{without_entry}
use Rattle.core_parts.specs.View.{CoreValue}
use Rattle.core_parts.proofs.parts.CoreParts.record_placed.Goals as goal

pub record_index-requires : goal.record_index-requires
record_index-requires g c = record { number = c.requires.number; left = c.requires.left }

pub returns-in-Err : goal.returns-in-Err
returns-in-Err g c = record {
  ok = tt;
  taken_out = ap (λ (i : IndexValue). record (parts_of c.record_index.new.self) { index = i }) c.take_out.ensures
      ∙ ap (λ (w : CoreValue). without_entry w c.args.pair) c.in-Err.ensures.unchanged;
  no_memory = c.in-Err.ensures.no_memory;
}

pub returns : goal.returns
returns g c = record { ok = c.in_default.ensures.ok; taken_out = tt; no_memory = tt }

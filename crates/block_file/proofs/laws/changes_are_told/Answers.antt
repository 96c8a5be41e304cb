use Rattle.std.proofs.Common.{sym, ◌∙◌, ap}
use Rattle.block_digest.specs.Digest.{digest}
use Rattle.block_batch.specs.Batch.{block_digest}
use Rattle.block_table.specs.Table.{place_of}
use Rattle.block_file.proofs.Telling.{header_fits}
use Rattle.block_file.proofs.laws.changes_are_told.Goals as goal

pub returns : goal.returns
returns c = record {
  content = λ blocks n kept other was same fits. sym fits ∙ same ∙ was;
  table = λ blocks n kept other was same fits. fits ∙ ap (block_digest (place_of blocks n)) same ∙ sym was;
  header = λ bytes other p q was told same. sym (header_fits other q told) ∙ same ∙ header_fits bytes p was;
  told = λ bytes other p q was told same. header_fits other q told ∙ ap digest same ∙ sym (header_fits bytes p was);
}

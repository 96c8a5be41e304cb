use Rattle.std.proofs.Common.{◌≡◌, length, ◌∙◌}
use Rattle.block_device.specs.BackRuns.{runs_in}
use Rattle.block_device.specs.BlocksPast.{and_back, past_with}
use Rattle.block_host.specs.FileBlocks.{file_of}
use Rattle.block_host.proofs.mirror.FileBlocksBlocks.keep.Goals as goal

pub returns-then-not-keep_below-clause-past : goal.returns-then-not-keep_below-clause-past
returns-then-not-keep_below-clause-past g c =
    let held : c.refuse.new.self.held ≡ c.args.self.now.held = c.refuse.ensures.held ∙ c.keep_below.ensures.held in
    let past : c.refuse.new.self.past ≡ c.args.self.now.past = c.refuse.ensures.past ∙ c.keep_below.ensures.past in
    λ i. past_with file_of (past i).items (held i) (held i).whole

pub returns-clause-past : goal.returns-clause-past
returns-clause-past g c =
    let held = c.keep_below.ensures.held in
    let past = c.keep_below.ensures.past in
    λ i. past_with file_of (past i).items (held i) (held i).whole

pub returns-clause-back : goal.returns-clause-back
returns-clause-back g c =
    let below = c.keep_below.ensures in
    c.and-self.ensures ∙ (λ i. and_back (runs_in (below.back i)) c.args.first c.args.count (length (below.past i).items))

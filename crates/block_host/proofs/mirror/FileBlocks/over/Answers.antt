use Rattle.std.proofs.Common.{length, ◌∙◌, ap}
use Rattle.std.proofs.Math.ListN.{length-replicate}
use Rattle.block_device.specs.Blocks.{BlockFile, zero_block}
use Rattle.block_host.proofs.mirror.FileBlocks.over.Goals as goal

pub returns : goal.returns
returns g c =
    let done = c.holding.ensures in
    let file = done.file ∙ c.settle.ensures in
    record {
      blocks = ap (λ (f : BlockFile). length f.content) file ∙ c.load.ensures ∙ ap length c.in_ok-held.ensures.zeros
          ∙ length-replicate c.args.blocks zero_block;
      synced = λ n. ap (λ (f : BlockFile). f.loose n) file;
      moment = done.moment;
      failures = done.failures;
      back = done.back;
      sound = done.sound;
    }

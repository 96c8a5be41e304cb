use Rattle.std.proofs.Common.{◌≡◌, ℕ, ◌≤◌, ◌∷◌, ◌++◌, [], ◌∙◌, subst, arith}
use Rattle.sector_device.specs.DevicePast.{Rises}
use Rattle.block_device.specs.BackRuns.{runs_in}
use Rattle.block_device.specs.Blocks.{after_sync}
use Rattle.block_host.specs.FileBlocks.{file_of}
use Rattle.block_host.proofs.Past.{elapses_pushed, elapses_same}
use Rattle.block_host.proofs.mirror.FileBlocksBlocks.sync.Goals as goal

pub returns-then-not-sync_below : goal.returns-then-not-sync_below
returns-then-not-sync_below g c =
    let old = c.args.self.now in
    let new = c.refuse.new.self in
    let below = c.sync_below.ensures in
    let refused = c.refuse.ensures in
    let held : new.held ≡ old.held = refused.held ∙ below.held in
    let past : new.past ≡ old.past = refused.past ∙ below.past in
    let back : new.back ≡ old.back = refused.back ∙ below.back in
    record {
      ok = tt;
      err = λ i. file_of (held i);
      time = elapses_same file_of old.past.items new.past.items old.held new.held (λ i. (past i).items) held old.held.whole new.held.whole;
      back = λ i. runs_in (back i);
      counts = record {
        later = subst (λ (n : ℕ). n ≤ new.failures) below.failures refused.later;
        none = tt;
        failed = subst (λ (n : ℕ). Rises n new.failures) below.failures refused.rises;
      };
      sound = tt;
      failed = refused.failed;
      alone = λ is. refused.below ∙ below.alone is;
    }

pub returns : goal.returns
returns g c =
    let old = c.args.self.now in
    let below = c.sync_below.ensures in
    let pushed : c.and-self.result.items ≡ old.past.items ++ old.held ∷ [] =
    c.and-self.ensures ∙ (λ i. (below.past i).items ++ below.held i ∷ []) in
    record {
      ok = c.settle.ensures ∙ (λ i. after_sync (file_of (below.held i)));
      err = tt;
      time = elapses_pushed file_of old.past.items c.and-self.result.items old.held c.settle.new.self pushed old.held.whole c.settle.new.self.whole;
      back = λ i. runs_in (below.back i);
      counts = record { later = omega (arith, below.failures); none = below.failures; failed = tt };
      sound = (below.sound c.if-not-sync_below.false, below.failed ∙ below.sound c.if-not-sync_below.false);
      failed = tt;
      alone = below.alone;
    }

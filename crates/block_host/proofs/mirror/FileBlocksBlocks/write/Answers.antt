use Rattle.std.proofs.Common.{◌≡◌, ℕ, ◌≤◌, ◌∷◌, ◌++◌, [], refl, ◌∙◌, subst, arith}
use Rattle.sector_device.specs.DevicePast.{Rises}
use Rattle.block_device.specs.BackRuns.{runs_in}
use Rattle.block_device.specs.Blocks.{after_write}
use Rattle.block_host.specs.FileBlocks.{file_of}
use Rattle.block_host.proofs.Past.{elapses_pushed}
use Rattle.block_host.proofs.mirror.FileBlocksBlocks.write.Goals as goal

pub returns-then-not-put_below : goal.returns-then-not-put_below
returns-then-not-put_below g c =
    let old = c.args.self.now in
    let new = c.refuse.new.self in
    let below = c.put_below.ensures in
    let refused = c.refuse.ensures in
    let held : new.held ≡ c.put.new.self = refused.held ∙ below.held in
    let past : new.past ≡ c.and-self.result = refused.past ∙ below.past in
    let back : new.back ≡ old.back = refused.back ∙ below.back in
    let file : file_of new.held ≡ after_write (file_of old.held) c.args.first c.args.run.now =
    (λ i. file_of (held i)) ∙ c.put.ensures.written in
    let pushed : new.past.items ≡ old.past.items ++ old.held ∷ [] = (λ i. (past i).items) ∙ c.and-self.ensures in
    record {
      ok = tt;
      err = (c.args.run.now, refl, c.put.ensures.run, file);
      time = elapses_pushed file_of old.past.items new.past.items old.held new.held pushed old.held.whole new.held.whole;
      back = λ i. runs_in (back i);
      counts = record {
        later = subst (λ (n : ℕ). n ≤ new.failures) below.failures refused.later;
        none = tt;
        failed = subst (λ (n : ℕ). Rises n new.failures) below.failures refused.rises;
      };
      written = file;
      sound = tt;
      failed = refused.failed;
      alone = λ is. refused.below ∙ below.alone is;
    }

pub returns : goal.returns
returns g c =
    let old = c.args.self.now in
    let new = c.put_below.new.self in
    let below = c.put_below.ensures in
    let file : file_of new.held ≡ after_write (file_of old.held) c.args.first c.args.run.now =
    (λ i. file_of (below.held i)) ∙ c.put.ensures.written in
    let pushed : new.past.items ≡ old.past.items ++ old.held ∷ [] = (λ i. (below.past i).items) ∙ c.and-self.ensures in
    record {
      ok = file;
      err = tt;
      time = elapses_pushed file_of old.past.items new.past.items old.held new.held pushed old.held.whole new.held.whole;
      back = λ i. runs_in (below.back i);
      counts = record { later = omega (arith, below.failures); none = below.failures; failed = tt };
      written = file;
      sound = (below.sound c.if-not-put_below.false, below.failed ∙ below.sound c.if-not-put_below.false);
      failed = tt;
      alone = below.alone;
    }

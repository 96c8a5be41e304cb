use Rattle.std.proofs.Common.{◌≡◌, ◌++◌, take, drop, length, sym, ◌∙◌, ap, subst}
use Rattle.block_device.specs.Blocks.{BlockFile, IsWhole, IsCrashFile}
use Rattle.block_device.specs.Crash.{IsCrashed}
use Rattle.block_device.specs.MemBlocks.{file_of, torn_of}
use Rattle.block_device.proofs.CrashFiles.{written_back}
use Rattle.block_device.proofs.Tear.{crash_image, crashed_whole}
use Rattle.block_device.proofs.held.Held.crash.Goals as goal

pub invariant_of-self : goal.invariant_of-self
invariant_of-self g c =
    let d = c.args.self.now in
    let image = c.tear.new.content in
    let crashed : IsCrashed c.args.fates.now (torn_of d) image =
    rw (c.deref_mut.ensures.value, c.deref.ensures.value, c.deref-2.ensures.value) at c.tear.ensures in
    let size : length image ≡ length d.content.items = crashed.size in
    let back : take d.content.len (image ++ drop (length image) d.content.items) ≡ image =
    written_back image d.content.items d.content.len size d.content.ok.0 in
    let whole = crashed_whole c.args.fates.now (torn_of d) image d.whole d.synced_whole d.synced_size crashed in
    record {
      whole = subst IsWhole (sym back) whole;
      synced_whole = d.synced_whole;
      synced_size = d.synced_size ∙ sym (ap length back ∙ size);
      loose_size = d.loose_size ∙ sym (ap length back ∙ size);
    }

pub returns : goal.returns
returns g c =
    let d = c.args.self.now in
    let image = c.tear.new.content in
    let crashed : IsCrashed c.args.fates.now (torn_of d) image =
    rw (c.deref_mut.ensures.value, c.deref.ensures.value, c.deref-2.ensures.value) at c.tear.ensures in
    let back : take d.content.len (image ++ drop (length image) d.content.items) ≡ image =
    written_back image d.content.items d.content.len crashed.size d.content.ok.0 in
    let settled = ap (λ (f : BlockFile). f.content) c.settle.ensures.settled in
    let content = settled ∙ back in
    record {
      crash = subst (IsCrashFile (file_of d)) (sym content) (crash_image c.args.fates.now (torn_of d) image d.whole d.synced_whole d.synced_size crashed);
      fates = subst (IsCrashed c.args.fates.now (torn_of d)) (sym content) crashed;
      synced = λ n. ap (λ (f : BlockFile). f.loose n) c.settle.ensures.settled;
      last_synced = c.settle.ensures.last_synced ∙ sym settled;
    }

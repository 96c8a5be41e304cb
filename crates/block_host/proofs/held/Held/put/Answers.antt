use Rattle.std.proofs.Common.{◌≡◌, ◌++◌, length, take, drop, ◌∙◌, ap}
use Rattle.block_device.specs.Blocks.{CrashFile, with_run}
use Rattle.block_device.proofs.CrashFiles.{written_back}
use Rattle.block_host.proofs.Written.{written}
use Rattle.block_host.proofs.held.Held.put.Goals as goal

pub returns-clause-written : goal.returns-clause-written
returns-clause-written g c =
    let old = c.args.self.now in
    let run : CrashFile = c.args.run.now in
    let new : CrashFile = c.put_run.new.content in
    let value : c.deref_mut.result.now ≡ old.content.items = c.deref_mut.ensures.value in
    let back : take old.content.len (new ++ drop (length new) old.content.items) ≡ new =
    written_back new old.content.items old.content.len (c.put_run.ensures.size ∙ ap length value) old.content.ok.0 in
    written old.content.items (take old.content.len (new ++ drop (length new) old.content.items)) old.written.items c.and-self.result.items c.args.first run
    (back ∙ c.put_run.ensures.content ∙ ap (λ (l : CrashFile). with_run l c.args.first run) value) c.and-self.ensures

pub returns-clause-size : goal.returns-clause-size
returns-clause-size g c =
    let old = c.args.self.now in
    let new : CrashFile = c.put_run.new.content in
    let value : c.deref_mut.result.now ≡ old.content.items = c.deref_mut.ensures.value in
    let size : length new ≡ length old.content.items = c.put_run.ensures.size ∙ ap length value in
    ap length (written_back new old.content.items old.content.len size old.content.ok.0) ∙ size

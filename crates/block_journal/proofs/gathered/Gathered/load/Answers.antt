use Rattle.std.proofs.Common.{◌≡◌, false, refl, subst}
use Rattle.block_device.specs.Blocks.{CrashFile}
use Rattle.block_batch.specs.Batch.{is_batch}
use Rattle.block_journal.proofs.Loading.{none_in}
use Rattle.block_journal.proofs.gathered.Gathered.load.Goals as goal

pub returns-in-None : goal.returns-in-None
returns-in-None g c =
    let none : is_batch c.args.self.now.area.items ≡ false = subst (λ (l : CrashFile). is_batch l ≡ false) c.deref.ensures.value c.in-None.ensures.none in
    record {
      taken = (none_in c.args.self.now.area.items c.args.a none, c.requires.none);
      buffer = c.requires.buffer;
      size = refl;
    }

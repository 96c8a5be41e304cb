use Rattle.std.proofs.Common.{◌≡◌, ◌<◌, length, refl, sym, ◌∙◌, arith}
use Rattle.block_device.specs.Blocks.{CrashFile, block}
use Rattle.block_batch.specs.Batch.{replayed}
use Rattle.block_journal.specs.Layout.{kept_of}
use Rattle.block_journal.specs.Gathered.{entries_of}
use Rattle.block_journal.proofs.Entries.{block_found, block_none}
use Rattle.block_journal.proofs.OnlyReading.{reads_none}
use Rattle.block_journal.proofs.Results.{on_ok}
use Rattle.block_journal.proofs.Placing.{length-kept}
use Rattle.block_journal.proofs.lookup.read_settled.Goals as goal

pub find-requires : goal.find-requires
find-requires g c = omega (arith, c.requires.last.count, c.requires.last.few)

pub block-requires : goal.block-requires
block-requires g c = omega (arith, c.in-Some.ensures.found.low, c.requires.last.count)

pub returns-in-Some : goal.returns-in-Some
returns-in-Some g c =
    let h = g.B.Blocks.past_of in
    let last = c.args.last.now in
    let kept : CrashFile = kept_of c.args.shape (h c.args.below.now).file.content in
    let room : c.args.place < length kept =
    omega (arith, c.requires.kept, length-kept c.args.shape (h c.args.below.now).file.content c.requires.inside) in
    record {
      ok = c.block.ensures ∙ sym (block_found last.area.items last.places kept c.args.place last.count _ c.in-Some.ensures.found room);
      err = tt;
      reads = reads_none (h c.args.below.now);
      back = refl;
      counts = record { later = omega arith; none = refl; failed = tt };
    }

pub returns-in-None : goal.returns-in-None
returns-in-None g c =
    let h = g.B.Blocks.past_of in
    let last = c.args.last.now in
    let kept : CrashFile = kept_of c.args.shape (h c.args.below.now).file.content in
    let done = c.read_kept.ensures in
    record {
      ok = on_ok (c.read_kept.new.bytes ≡ block kept c.args.place) (c.read_kept.new.bytes ≡ block (replayed (entries_of last) kept) c.args.place)
          c.read_kept.result (λ ok. ok ∙ sym (block_none last.area.items last.places kept c.args.place last.count c.in-None.ensures.none)) done.ok;
      err = done.err;
      reads = done.reads;
      back = done.back;
      counts = done.counts;
    }

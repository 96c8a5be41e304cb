use Rattle.std.proofs.Common.{◌≡◌, ◌<◌, length, refl, sym, ◌∙◌, arith}
use Rattle.block_device.specs.Blocks.{CrashFile, block}
use Rattle.block_batch.specs.Batch.{replayed}
use Rattle.block_batch.proofs.Replay.{length-replayed}
use Rattle.block_journal.specs.Layout.{kept_of}
use Rattle.block_journal.specs.Gathered.{entries_of}
use Rattle.block_journal.proofs.Entries.{block_found, block_none}
use Rattle.block_journal.proofs.OnlyReading.{reads_none}
use Rattle.block_journal.proofs.Results.{on_ok}
use Rattle.block_journal.proofs.Placing.{length-kept}
use Rattle.block_journal.proofs.lookup.read_block.Goals as goal

pub find-requires : goal.find-requires
find-requires g c = omega (arith, c.requires.next.count, c.requires.next.few)

pub block-requires : goal.block-requires
block-requires g c = omega (arith, c.in-Some.ensures.found.low, c.requires.next.count)

pub returns-in-Some : goal.returns-in-Some
returns-in-Some g c =
    let h = g.B.Blocks.past_of in
    let next = c.args.next.now in
    let last = c.args.last.now in
    let kept : CrashFile = replayed (entries_of last) (kept_of c.args.shape (h c.args.below.now).file.content) in
    let room : c.args.place < length kept =
    omega (
      arith,
      c.requires.kept,
      length-kept c.args.shape (h c.args.below.now).file.content c.requires.inside,
      length-replayed (entries_of last) (kept_of c.args.shape (h c.args.below.now).file.content),
    ) in
    record {
      ok = c.block.ensures ∙ sym (block_found next.area.items next.places kept c.args.place next.count _ c.in-Some.ensures.found room);
      err = tt;
      reads = reads_none (h c.args.below.now);
      back = refl;
      counts = record { later = omega arith; none = refl; failed = tt };
    }

pub returns-in-None : goal.returns-in-None
returns-in-None g c =
    let h = g.B.Blocks.past_of in
    let next = c.args.next.now in
    let last = c.args.last.now in
    let kept : CrashFile = replayed (entries_of last) (kept_of c.args.shape (h c.args.below.now).file.content) in
    let done = c.read_settled.ensures in
    record {
      ok = on_ok (c.read_settled.new.bytes ≡ block kept c.args.place) (c.read_settled.new.bytes ≡ block (replayed (entries_of next) kept) c.args.place)
          c.read_settled.result (λ ok. ok ∙ sym (block_none next.area.items next.places kept c.args.place next.count c.in-None.ensures.none)) done.ok;
      err = done.err;
      reads = done.reads;
      back = done.back;
      counts = done.counts;
    }

use Rattle.std.proofs.Common.{◌≡◌, ℕ, ◌+◌, length, refl, ◌∙◌, ap, subst, arith}
use Rattle.std.proofs.lemmas.List.{length_push}
use Rattle.sector_device.specs.DevicePast.{Rises}
use Rattle.block_device.specs.Blocks.{CrashFile}
use Rattle.block_device.specs.Words.{word}
use Rattle.block_device.specs.Blocks.{block}
use Rattle.block_journal.specs.Value.{JournalValue, content_of}
use Rattle.block_journal.proofs.OnlyReading.{reads_none, reads_then}
use Rattle.block_journal.proofs.Parting.{as_read}
use Rattle.block_table.proofs.Contents.{content_read, journal_then}
use Rattle.block_table.proofs.Errors.{failed_not_batch, memory_not_batch, memory_not_failed}
use Rattle.block_table.proofs.Table.{numbers_push}
use Rattle.block_table.proofs.rows.read_rows.Goals as goal

pub loop-t-init : goal.loop-t-init
loop-t-init g c = record {
  numbers = λ t i none low. absurd (omega (arith, none));
  count = ap length c.new-rows.ensures.items;
  rest = refl;
  reads = reads_none (g.B.Blocks.past_of c.args.journal.now.below);
  back = refl;
  quiet = refl;
}

pub read_row-requires : goal.read_row-requires
read_row-requires g c =
    let rest = c.loop-t.invariant.rest in
    record {
      kept = omega (arith, ap (λ (v : JournalValue g.row.B.Denot). v.shape.kept) rest, c.loop-t-test.true, c.requires.kept);
      good = ap (λ (v : JournalValue g.row.B.Denot). v.has_failed) rest ∙ c.requires.good;
    }

pub returns-in_default : goal.returns-in_default
returns-in_default g c =
    let so_far = c.loop-t.invariant in
    record {
      numbers = tt;
      count = tt;
      rest = journal_then c.args.journal.now c.loop-t.journal c.read_row.new.journal so_far.rest c.read_row.ensures.rest;
      reads = reads_then _ _ _ so_far.reads c.read_row.ensures.reads;
      back = c.read_row.ensures.back ∙ so_far.back;
      quiet = tt;
      failed = λ _. subst (λ (a : ℕ). Rises a (g.B.Blocks.failures c.read_row.new.journal.below)) so_far.quiet c.in_default.ensures.counts.failed;
      no_batch = failed_not_batch;
    }

pub returns-in_default-push : goal.returns-in_default-push
returns-in_default-push g c =
    let so_far = c.loop-t.invariant in
    record {
      numbers = tt;
      count = tt;
      rest = journal_then c.args.journal.now c.loop-t.journal c.read_row.new.journal so_far.rest c.read_row.ensures.rest;
      reads = reads_then _ _ _ so_far.reads c.read_row.ensures.reads;
      back = c.read_row.ensures.back ∙ so_far.back;
      quiet = tt;
      failed = λ never. absurd (memory_not_failed never);
      no_batch = memory_not_batch;
    }

pub loop-t-preserved : goal.loop-t-preserved
loop-t-preserved g c =
    let h = g.B.Blocks.past_of in
    let so_far = c.loop-t.invariant in
    let start = c.args.journal.now in
    let table : content_of h c.loop-t.journal ≡ content_of h start =
    content_read h start c.loop-t.journal (as_read start c.loop-t.journal so_far.rest) so_far.reads in
    record {
      numbers = rw c.in-Ok-push.ensures.items (numbers_push (content_of h start) c.loop-t.rows.items c.loop-t.t c.in-Ok.row so_far.count so_far.numbers
          (λ i low. c.in-Ok.ensures.row i low ∙ ap (λ (l : CrashFile). word (block l c.loop-t.t) i) table));
      count = ap length c.in-Ok-push.ensures.items ∙ length_push c.loop-t.rows.items c.in-Ok.row ∙ ap (λ (n : ℕ). n + 1) so_far.count;
      rest = journal_then start c.loop-t.journal c.read_row.new.journal so_far.rest c.read_row.ensures.rest;
      reads = reads_then _ _ _ so_far.reads c.read_row.ensures.reads;
      back = c.read_row.ensures.back ∙ so_far.back;
      quiet = c.in-Ok.ensures.counts.none ∙ so_far.quiet;
    }

pub returns : goal.returns
returns g c =
    let so_far = c.loop-t.invariant in
    let all : c.loop-t.t ≡ c.args.count = omega arith in
    record {
      numbers = λ t i below low. so_far.numbers t i (omega (arith, all, below)) low;
      count = so_far.count ∙ all;
      rest = so_far.rest;
      reads = so_far.reads;
      back = so_far.back;
      quiet = so_far.quiet;
      failed = tt;
      no_batch = tt;
    }

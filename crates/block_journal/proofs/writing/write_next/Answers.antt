use Rattle.std.proofs.Common.{◌≡◌, ◌⊎◌, ℕ, ◌+◌, ◌<◌, ◌≤◌, slice_index, refl, sym, subst, arith}
use Rattle.std.proofs.lemmas.Result.{err_from_is_err_and}
use Rattle.block_device.specs.Blocks.{CrashFile, SameOutside}
use Rattle.block_batch.specs.Batch.{IsPlace, replayed}
use Rattle.block_journal.specs.Layout.{kept_of}
use Rattle.block_journal.specs.Entries.{entries_in}
use Rattle.block_journal.specs.Gathered.{entries_of}
use Rattle.block_journal.proofs.Entries.{place_there}
use Rattle.block_journal.proofs.Placing.{length-kept, one_passed, run_placed}
use Rattle.block_journal.proofs.writing.write_next.Goals as goal

pub returns-then-i-last : goal.returns-then-i-last
returns-then-i-last g c =
    let last = c.args.last.now in
    let others = entries_of c.args.next.now in
    let kept : CrashFile = kept_of c.args.shape (g.B.Blocks.past_of c.args.below.now).file.content in
    let same : c.args.i ≡ c.args.i + 0 = omega arith in
    record {
      within = λ first count all image start places so_far. so_far;
      areas = λ a below. refl;
      low = omega (arith, c.requires.low);
      some = λ below. omega (arith, below, c.if-i-last.true);
      placed = λ start so_far. subst (λ (n : ℕ). SameOutside (IsPlace others) (replayed (entries_in last.area.items last.places n) start) kept) same so_far;
      size = refl;
      back = refl;
      counts = record { later = omega arith; none = refl; failed = tt };
    }

pub run_from-count-requires : goal.run_from-count-requires
run_from-count-requires g c = record {
  last = c.requires.last;
  next = c.requires.next;
  low = omega (arith, c.requires.low, c.if-i-last.false);
}

pub returns-then-count-eq0 : goal.returns-then-count-eq0
returns-then-count-eq0 g c =
    let last = c.args.last.now in
    let i = c.args.i in
    let old : CrashFile = (g.B.Blocks.past_of c.args.below.now).file.content in
    let others = entries_of c.args.next.now in
    record {
      within = λ first count all image start places so_far. so_far;
      areas = λ a below. refl;
      low = omega (arith, c.requires.low, c.if-i-last.false);
      some = λ below. omega arith;
      placed = λ start so_far. one_passed last.area.items last.places i others start (kept_of c.args.shape old)
          (subst (λ (n : ℕ). (n ≤ slice_index last.places i) ⊎ IsPlace others (slice_index last.places i))
          (sym (length-kept c.args.shape old c.requires.inside)) (c.run_from-count.ensures.passed c.if-count-eq0.true)) so_far;
      size = refl;
      back = refl;
      counts = record { later = omega arith; none = refl; failed = tt };
    }

pub write_run-requires : goal.write_run-requires
write_run-requires g c =
    let run = c.run_from-count.ensures in
    let some : 0 < c.run_from-count.result = omega (arith, c.if-count-eq0.false) in
    record { inside = c.requires.inside; small = c.requires.small; last = c.requires.last; some = some; low = run.low; kept = run.kept some }

pub returns-in_err-write_run : goal.returns-in_err-write_run
returns-in_err-write_run g c =
    let last = c.args.last.now in
    let run = c.run_from-count.ensures in
    let wrote = c.write_run.ensures in
    rw (err_from_is_err_and c.from_residual.result c.from_residual.ensures.1).1 (record {
      within = λ first count all image start places so_far. wrote.within first count all image start
          (λ k below. places _ (place_there last.area.items last.places last.count (c.args.i + k) _ (omega (arith, below, run.low)) (run.run k below)))
          so_far;
      areas = wrote.areas;
      low = tt;
      some = tt;
      placed = tt;
      size = wrote.size;
      back = wrote.back;
      counts = record { later = wrote.counts.later; none = tt; failed = c.in_err-write_run.ensures.counts.failed };
    })

pub returns : goal.returns
returns g c =
    let last = c.args.last.now in
    let i = c.args.i in
    let count = c.run_from-count.result in
    let run = c.run_from-count.ensures in
    let wrote = c.write_run.ensures in
    let others = entries_of c.args.next.now in
    let kept : CrashFile = kept_of c.args.shape (g.B.Blocks.past_of c.args.below.now).file.content in
    record {
      within = λ first long all image start places so_far. wrote.within first long all image start
          (λ k below. places _ (place_there last.area.items last.places last.count (i + k) _ (omega (arith, below, run.low)) (run.run k below))) so_far;
      areas = wrote.areas;
      low = run.low;
      some = λ below. omega (arith, c.if-count-eq0.false);
      placed = λ start so_far. subst (SameOutside (IsPlace others) (replayed (entries_in last.area.items last.places (i + count)) start))
          (sym c.in_ok-write_run.ensures.placed) (run_placed last.area.items last.places count i (slice_index last.places i) others start kept
          (omega (arith, run.low, c.requires.last.count)) run.run so_far);
      size = wrote.size;
      back = wrote.back;
      counts = record { later = wrote.counts.later; none = c.in_ok-write_run.ensures.counts.none; failed = tt };
    }

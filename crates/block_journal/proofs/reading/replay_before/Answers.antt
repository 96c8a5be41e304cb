use Rattle.std.proofs.Common.{List, refl, sym, subst, arith}
use Rattle.block_device.specs.Blocks.{CrashFile, SameOutside}
use Rattle.block_batch.specs.Batch.{Entry, IsPlace, replayed}
use Rattle.block_journal.specs.Layout.{kept_of}
use Rattle.block_journal.specs.Gathered.{entries_of}
use Rattle.block_journal.proofs.Results.{on_ok}
use Rattle.block_journal.proofs.reading.replay_before.Goals as goal

pub returns-then-follows : goal.returns-then-follows
returns-then-follows g c =
    let h = g.B.Blocks.past_of in
    let kept : CrashFile = kept_of c.args.shape (h c.args.below.now).file.content in
    let is = c.if-follows.ensures.first refl (entries_of c.args.other.now) in
    let done = c.write_places.ensures in
    record {
      within = λ all image start places so_far. done.within 0 0 all image start
          (λ place there. places place (subst (λ (l : List Entry). IsPlace l place) (sym is) there)) so_far;
      areas = done.areas;
      size = done.size;
      placed = on_ok _ _ c.write_places.result (λ placed. subst (λ (l : List Entry). SameOutside (IsPlace (entries_of c.args.last.now)) (replayed l kept)
          (kept_of c.args.shape (h c.write_places.new.below).file.content)) (sym is) placed) done.placed;
      back = done.back;
      counts = done.counts;
    }

pub returns-else-follows : goal.returns-else-follows
returns-else-follows g c =
    let h = g.B.Blocks.past_of in
    let kept : CrashFile = kept_of c.args.shape (h c.args.below.now).file.content in
    let none = c.if-follows.ensures.none refl (entries_of c.args.other.now) in
    record {
      within = λ all image start places so_far. so_far;
      areas = λ a low. refl;
      size = refl;
      placed = subst (λ (l : List Entry). SameOutside (IsPlace (entries_of c.args.last.now)) (replayed l kept) kept) (sym none)
          (record { size = refl; same = λ n out. refl });
      back = refl;
      counts = record { later = omega arith; none = refl; failed = tt };
    }

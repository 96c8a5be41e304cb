use Rattle.std.proofs.Common.{◌≡◌, ◌⊎◌, inr, ℕ, ◌-◌, Err, refl, sym, ◌∙◌, ap, subst, arith}
use Rattle.std.proofs.lemmas.Result.{err_from_is_err_and}
use Rattle.sector_device.specs.DevicePast.{Rises}
use Rattle.block_journal.specs.Journal.{BeginsBack, KeepsAreas, LeavesBefore, StaysRecovered, WritesBackFirst}
use Rattle.block_journal.proofs.Before.{before_read}
use Rattle.block_journal.proofs.Keeping.{areas_read}
use Rattle.block_journal.specs.Value.{JournalValue, content_of}
use Rattle.block_journal.specs.declared.shape.Shape.{Shape}
use Rattle.block_journal.proofs.Parting.{as_read}
use Rattle.block_journal.proofs.WritingBack.{writes_back_later}
use Rattle.block_table.specs.Table.{table_count}
use Rattle.block_table.specs.Rows.{AreNumbers}
use Rattle.block_table.proofs.Contents.{content_read, settled_read, stays_read}
use Rattle.block_table.proofs.checked.CheckedBlocks.open.Goals as goal

pub returns-in_err-journal : goal.returns-in_err-journal
returns-in_err-journal g c =
    let p = err_from_is_err_and c.from_residual.result c.from_residual.ensures.1 in
    let done = c.in_err-journal.ensures in
    rw (p.1 ∙ ap Err p.2) (record {
      settled = tt;
      none = tt;
      shape = tt;
      blocks = tt;
      sound = tt;
      honest = tt;
      found = tt;
      any_moment = tt;
      before = tt;
      batches = tt;
      written_back = tt;
      quiet = tt;
      unrefused = tt;
      refused = done.refused;
      before_refused = done.before_refused;
      batches_refused = done.batches_refused;
      written_back_refused = done.written_back_refused;
      back_none = done.back_none;
      no_batch = done.no_batch;
      failed = done.failed;
    })

pub read_rows-requires : goal.read_rows-requires
read_rows-requires g c =
    let opened = c.in_ok-journal.ensures in
    record { kept = omega (arith, ap (λ (s : Shape). s.kept) opened.shape); good = opened.sound }

pub invariant_of-result : goal.invariant_of-result
invariant_of-result g c =
    let h = g.B.Blocks.past_of in
    let opened = c.in_ok-journal.ensures in
    let rows = c.in-Ok.ensures in
    let v : JournalValue g.row.B.Denot = c.in_ok-journal.journal in
    let m : JournalValue g.row.B.Denot = c.read_rows.new.journal in
    let count : c.args.shape.kept - c.args.blocks ≡ table_count c.args.blocks = omega (arith, c.requires.kept) in (
      record {
        kept = ap (λ (w : JournalValue g.row.B.Denot). w.shape.kept) c.read_rows.ensures.rest ∙ ap (λ (s : Shape). s.kept) opened.shape ∙ c.requires.kept;
        small = omega (arith, c.requires.kept, c.requires.inside.room);
        count = rows.count ∙ count;
        numbers = rw (content_read h v m (as_read v m c.read_rows.ensures.rest) c.read_rows.ensures.reads)
            (subst (AreNumbers (content_of h v) c.in-Ok.rows.items) count rows.numbers);
        low = omega arith;
        fitting = λ k below. absurd (omega (arith, below));
      },
      tt,
    )

pub returns-in-Ok : goal.returns-in-Ok
returns-in-Ok g c =
    let h = g.B.Blocks.past_of in
    let opened = c.in_ok-journal.ensures in
    let v : JournalValue g.row.B.Denot = c.in_ok-journal.journal in
    let m : JournalValue g.row.B.Denot = c.read_rows.new.journal in
    let rest = c.read_rows.ensures.rest in
    let read = as_read v m rest in
    let reads = c.read_rows.ensures.reads in
    let back = g.B.Blocks.written_back in
    let wrote : WritesBackFirst c.args.shape (h c.args.below) (h m.below) (back c.args.below) (back m.below) =
    writes_back_later c.args.shape (h c.args.below) (h v.below) (h m.below) (back c.args.below) (back v.below) (back m.below)
    opened.written_back reads.time.later reads.time.kept c.read_rows.ensures.back in
    record {
      settled = settled_read h v m read c.read_rows.ensures.reads ∙ opened.settled;
      none = ap (λ (w : JournalValue g.row.B.Denot). w.next) rest ∙ opened.none;
      shape = ap (λ (w : JournalValue g.row.B.Denot). w.shape) rest ∙ opened.shape;
      blocks = refl;
      sound = ap (λ (w : JournalValue g.row.B.Denot). w.has_failed) rest ∙ opened.sound;
      honest = rw (ap (λ (w : JournalValue g.row.B.Denot). w.offered) rest) opened.honest;
      found = rw (ap (λ (w : JournalValue g.row.B.Denot). w.offered) rest) opened.found;
      any_moment = stays_read c.args.shape (h c.args.below) (h v.below) (h m.below) opened.any_moment c.read_rows.ensures.reads;
      before = before_read c.args.shape (h c.args.below) (h v.below) (h m.below) opened.before c.read_rows.ensures.reads;
      batches = areas_read c.args.shape (h c.args.below) (h v.below) (h m.below) opened.batches c.read_rows.ensures.reads;
      written_back = wrote;
      quiet = c.in-Ok.ensures.quiet ∙ opened.quiet;
      unrefused = ap (λ (w : JournalValue g.row.B.Denot). w.refused) rest ∙ opened.unrefused;
      refused = tt;
      before_refused = tt;
      batches_refused = tt;
      written_back_refused = tt;
      back_none = tt;
      no_batch = tt;
      failed = tt;
    }

pub returns-in-Err : goal.returns-in-Err
returns-in-Err g c =
    let h = g.B.Blocks.past_of in
    let opened = c.in_ok-journal.ensures in
    let v : JournalValue g.row.B.Denot = c.in_ok-journal.journal in
    let m : JournalValue g.row.B.Denot = c.read_rows.new.journal in
    let reads = c.read_rows.ensures.reads in
    let back = g.B.Blocks.written_back in
    let wrote : WritesBackFirst c.args.shape (h c.args.below) (h m.below) (back c.args.below) (back m.below) =
    writes_back_later c.args.shape (h c.args.below) (h v.below) (h m.below) (back c.args.below) (back v.below) (back m.below)
    opened.written_back reads.time.later reads.time.kept c.read_rows.ensures.back in
    record {
      settled = tt;
      none = tt;
      shape = tt;
      blocks = tt;
      sound = tt;
      honest = tt;
      found = tt;
      any_moment = tt;
      before = tt;
      batches = tt;
      written_back = tt;
      quiet = tt;
      unrefused = tt;
      refused = subst (λ (b : g.row.B.Denot). StaysRecovered c.args.shape (h c.args.below) (h b)) (sym c.into_file.ensures)
          (stays_read c.args.shape (h c.args.below) (h v.below) (h m.below) opened.any_moment c.read_rows.ensures.reads);
      before_refused = subst (λ (b : g.row.B.Denot). LeavesBefore c.args.shape (h c.args.below) (h b)) (sym c.into_file.ensures)
          (before_read c.args.shape (h c.args.below) (h v.below) (h m.below) opened.before c.read_rows.ensures.reads);
      batches_refused = subst (λ (b : g.row.B.Denot). KeepsAreas c.args.shape (h c.args.below) (h b)) (sym c.into_file.ensures)
          (areas_read c.args.shape (h c.args.below) (h v.below) (h m.below) opened.batches c.read_rows.ensures.reads);
      written_back_refused = subst (λ (b : g.row.B.Denot). BeginsBack c.args.shape (h c.args.below) (h b) (back c.args.below) (back b)
          ⊎ WritesBackFirst c.args.shape (h c.args.below) (h b) (back c.args.below) (back b)) (sym c.into_file.ensures) (inr wrote);
      back_none = λ is. absurd (c.in-Err.ensures.no_batch is);
      no_batch = λ is. absurd (c.in-Err.ensures.no_batch is);
      failed = λ is. subst (λ (b : g.row.B.Denot). Rises (g.B.Blocks.failures c.args.below) (g.B.Blocks.failures b)) (sym c.into_file.ensures)
          (subst (λ (a : ℕ). Rises a (g.B.Blocks.failures m.below)) opened.quiet (c.in-Err.ensures.failed is));
    }

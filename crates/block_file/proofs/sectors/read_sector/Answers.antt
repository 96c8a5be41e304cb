use Rattle.std.proofs.Common.{ℕ, ◌+◌, ◌/◌, ◌%◌, Err, List, refl, sym, ◌∙◌, ap, subst, arith}
use Rattle.std.proofs.lemmas.Result.{err_from_is_err_and}
use Rattle.block_journal.specs.Value.{JournalValue}
use Rattle.block_table.specs.Checked.{CheckedValue, data_now, kept_table}
use Rattle.block_table.specs.Table.{IsFit}
use Rattle.block_file.specs.Sectors.{part}
use Rattle.block_file.proofs.Counting.{ok_not_err, why_unread}
use Rattle.block_file.proofs.Patching.{sector_at}
use Rattle.block_file.proofs.sectors.read_sector.Goals as goal

pub read-requires : goal.read-requires
read-requires g c = omega (arith, c.requires.plan.room, c.requires.inside, c.requires.blocks)

pub returns-in_err-read : goal.returns-in_err-read
returns-in_err-read g c =
    let h = g.B.Blocks.past_of in
    let p = err_from_is_err_and c.from_residual.result c.from_residual.ensures.1 in
    let done = c.in_err-read.ensures in
    rw (p.1 ∙ ap Err p.2) (record {
      ok = tt;
      err = refl;
      fits = tt;
      failed = why_unread _ _ _ _ done.failed
          (λ is fits. done.damaged is (subst (λ (b : ℕ). IsFit b (kept_table h c.args.checked.now) ((c.args.n + c.args.plan.lead) / 8))
          (sym c.requires.blocks) fits));
      sound = tt;
      quiet = tt;
      alone = λ was. ap (λ (v : JournalValue g.row.B.Denot). v.below) (done.refused was);
      rest = done.rest;
      reads = done.reads;
      back = done.back;
      counts = done.counts;
    })

pub returns : goal.returns
returns g c =
    let h = g.B.Blocks.past_of in
    let plan = c.args.plan in
    let n = c.args.n in
    let done = c.in_ok-read.ensures in
    let good = done.sound ok_not_err in
    let same = done.counts.quiet ok_not_err in
    let refused = ap (λ (x : CheckedValue g.row.B.Denot). x.journal.refused) (done.good good) in
    record {
      ok = c.sector_of.ensures
          ∙ ap (λ (b : List ℕ). part b ((n + plan.lead) % 8)) done.ok
          ∙ sym (sector_at plan.lead plan.sectors (data_now h c.args.checked.now) n c.requires.inside);
      err = tt;
      fits = subst (λ (b : ℕ). IsFit b (kept_table h c.args.checked.now) ((n + plan.lead) / 8)) c.requires.blocks done.fits;
      failed = tt;
      sound = good;
      quiet = omega (arith, same, refused);
      alone = λ was. ap (λ (v : JournalValue g.row.B.Denot). v.below) (done.refused was);
      rest = done.rest;
      reads = done.reads;
      back = done.back;
      counts = done.counts;
    }

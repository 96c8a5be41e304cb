use Rattle.std.proofs.Common.{Err, List, ℕ, ⊎_elim, sym, ◌∙◌, ap}
use Rattle.std.proofs.lemmas.Bool.{false≢true}
use Rattle.std.proofs.lemmas.Result.{err_from_is_err_and}
use Rattle.block_device.specs.Words.{word}
use Rattle.block_journal.specs.Value.{JournalValue}
use Rattle.block_table.proofs.Contents.{good_counts}
use Rattle.block_table.proofs.rows.read_row.Goals as goal

pub returns-in_err-read : goal.returns-in_err-read
returns-in_err-read g c =
    let p = err_from_is_err_and c.from_residual.result c.from_residual.ensures.1 in
    let old = c.args.journal.now in
    let new = c.read.new.self in
    let done = c.in_err-read.ensures in
    let rest = done.good c.requires.good in
    let rises = ⊎_elim (λ was. absurd (false≢true (sym c.requires.good ∙ was))) (λ up. up) done.fails in
    let counts = good_counts _ old.refused _ new.refused _ (ap (λ (v : JournalValue g.row.B.Denot). v.refused) rest) done.counts rises in
    rw (p.1 ∙ ap Err p.2) (record {
      row = tt;
      rest = rest;
      reads = done.reads;
      back = done.back;
      counts = record { later = counts.later; none = tt; failed = counts.failed };
    })

pub returns : goal.returns
returns g c =
    let done = c.in_ok-read.ensures in
    let rest = done.good c.requires.good in
    let counts = good_counts _ c.args.journal.now.refused _ c.read.new.self.refused _
    (ap (λ (v : JournalValue g.row.B.Denot). v.refused) rest) done.counts tt in
    record {
      row = λ i low. c.words_of.ensures i low ∙ ap (λ (b : List ℕ). word b i) done.ok;
      rest = rest;
      reads = done.reads;
      back = done.back;
      counts = record { later = counts.later; none = counts.none; failed = tt };
    }

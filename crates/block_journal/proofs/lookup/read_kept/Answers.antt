use Rattle.std.proofs.Common.{◌≡◌, ℕ, ◌+◌, Err, refl, sym, ◌∙◌, ap, arith}
use Rattle.std.proofs.lemmas.Result.{err_from_is_err_and}
use Rattle.block_device.specs.Blocks.{CrashFile, block}
use Rattle.block_journal.specs.Layout.{kept_start}
use Rattle.block_journal.proofs.Crash.{block_of_run}
use Rattle.block_journal.proofs.lookup.read_kept.Goals as goal

pub returns-in_err-read : goal.returns-in_err-read
returns-in_err-read g c =
    let p = err_from_is_err_and c.from_residual.result c.from_residual.ensures.1 in
    rw (p.1 ∙ ap Err p.2) (record {
      ok = tt;
      err = refl;
      reads = record { file = c.read.ensures.file; time = c.read.ensures.time };
      back = c.read.ensures.back;
      counts = c.in_err-read.ensures.counts;
    })

pub returns : goal.returns
returns g c =
    let h = g.B.Blocks.past_of in
    let shape = c.args.shape in
    let content : CrashFile = (h c.args.below.now).file.content in
    let at : ℕ = kept_start shape + c.args.place in
    let same : at + 0 ≡ at = omega arith in
    record {
      ok = ap (λ (l : CrashFile). block l 0) c.in_ok-read.ensures.ok ∙ block_of_run content at 1 0 (omega arith) ∙ ap (block content) same
          ∙ sym (block_of_run content (kept_start shape) shape.kept c.args.place c.requires.kept);
      err = tt;
      reads = record { file = c.read.ensures.file; time = c.read.ensures.time };
      back = c.read.ensures.back;
      counts = c.in_ok-read.ensures.counts;
    }

use Rattle.std.proofs.Common.{◌≡◌, sym, ◌∙◌, ap, arith}
use Rattle.block_device.specs.Blocks.{CrashFile, block, run_of}
use Rattle.block_journal.proofs.Crash.{block_of_run}
use Rattle.block_journal.proofs.Results.{from_err, from_ok}
use Rattle.block_file.specs.Header.{first_of, told_by}
use Rattle.block_file.proofs.opening.read_plan.Goals as goal

pub returns-in-Some-clause-told : goal.returns-in-Some-clause-told
returns-in-Some-clause-told g c =
    let content : CrashFile = (g.B.Blocks.past_of c.args.below.now).file.content in
    let run : CrashFile = c.read.new.run in
    let read : run ≡ run_of content 0 2 = from_ok _ _ (sym c.is_err.ensures.value ∙ c.if-is_err.false) c.read.ensures.ok in
    let first : told_by (block content 0) ≡ c.read_header-first.result =
    sym (c.read_header-first.ensures.told ∙ ap told_by (ap (λ (l : CrashFile). block l 0) read ∙ block_of_run content 0 2 0 (omega arith))) in
    let second : told_by (block content 1) ≡ c.read_header-second.result =
    sym (c.read_header-second.ensures.told ∙ ap told_by (ap (λ (l : CrashFile). block l 1) read ∙ block_of_run content 0 2 1 (omega arith))) in
    (λ i. first_of (first i) (second i)) ∙ sym c.first_told.ensures.told ∙ c.in-Some.is

pub returns-in-None-clause-none : goal.returns-in-None-clause-none
returns-in-None-clause-none g c = λ _.
    let content : CrashFile = (g.B.Blocks.past_of c.args.below.now).file.content in
    let run : CrashFile = c.read.new.run in
    let read : run ≡ run_of content 0 2 = from_ok _ _ (sym c.is_err.ensures.value ∙ c.if-is_err.false) c.read.ensures.ok in
    let first : told_by (block content 0) ≡ c.read_header-first.result =
    sym (c.read_header-first.ensures.told ∙ ap told_by (ap (λ (l : CrashFile). block l 0) read ∙ block_of_run content 0 2 0 (omega arith))) in
    let second : told_by (block content 1) ≡ c.read_header-second.result =
    sym (c.read_header-second.ensures.told ∙ ap told_by (ap (λ (l : CrashFile). block l 1) read ∙ block_of_run content 0 2 1 (omega arith))) in
    (λ i. first_of (first i) (second i)) ∙ sym c.first_told.ensures.told ∙ c.in-None.is

pub returns-then-is_err-clause-failed : goal.returns-then-is_err-clause-failed
returns-then-is_err-clause-failed g c = λ _. from_err _ _ (sym c.is_err.ensures.value ∙ c.if-is_err.true) c.read.ensures.counts.failed

pub returns-in-Some-clause-quiet : goal.returns-in-Some-clause-quiet
returns-in-Some-clause-quiet g c = from_ok _ _ (sym c.is_err.ensures.value ∙ c.if-is_err.false) c.read.ensures.counts.none

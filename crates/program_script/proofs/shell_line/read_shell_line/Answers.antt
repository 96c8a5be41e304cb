use Rattle.std.specs.Io.BufRead.{strip_last}
use Rattle.program_script.proofs.ShellLines.{none_spelled, spelled_by}
use Rattle.program_script.proofs.shell_line.read_shell_line.Goals as goal

pub returns-clause-spelled : goal.returns-clause-spelled
returns-clause-spelled c =
    let is = rw c.without_last_line_feed.ensures at c.in_ok-found.ensures in
    spelled_by (strip_last 10 c.args.text.now) c.in_ok-found.found is

pub returns-clause-none : goal.returns-clause-none
returns-clause-none c =
    let is = rw c.without_last_line_feed.ensures at c.in_ok-found.ensures in
    none_spelled (strip_last 10 c.args.text.now) c.in_ok-found.found is

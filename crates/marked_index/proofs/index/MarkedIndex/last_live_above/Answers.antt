use Rattle.std.proofs.Common.{sym, ◌∙◌, ◌-◌, arith}
use Rattle.std.specs.Option.{option_copied}
use Rattle.marked_index.proofs.LiveRuns.{front_path, none_live}
use Rattle.marked_index.proofs.index.MarkedIndex.last_live_above.Goals as goal

pub returns-then-live-eq0-clause-none : goal.returns-then-live-eq0-clause-none
returns-then-live-eq0-clause-none g c =
    none_live c.args.self.now.entries c.run_above-run.result.now (option_copied c.args.pair) c.run_above-run.ensures.run c.run_above-run.ensures.none
    (sym c.live_front-live.ensures.number ∙ c.if-live-eq0.true)

pub returns-clause-passed : goal.returns-clause-passed
returns-clause-passed g c =
    front_path c.args.self.now.entries c.run_above-run.result.now (option_copied c.args.pair) (c.live_front-live.result - 1) c.index-run-live.result
    c.run_above-run.ensures.run (omega (arith, c.live_front-live.ensures.number, c.if-live-eq0.false))

use Rattle.std.proofs.Common.{◌≡◌, ◌-◌, length, map, ◌∙◌, ap, arith}
use Rattle.std.proofs.lemmas.List.{length_push, map-append}
use Rattle.block_device.specs.BlocksPast.{and_back}
use Rattle.block_device.specs.BackRuns.{run_in}
use Rattle.block_device.proofs.back.BackRuns.and.Goals as goal

pub returns : goal.returns
returns g c =
    let runs = c.args.self.now.runs.items in
    let moment : length c.and-until.result.items - 1 ≡ length c.args.past.now.items =
    omega (arith, ap length c.and-until.ensures, length_push c.args.past.now.items c.args.now.now) in
    ap (map run_in) c.and-runs.ensures ∙ map-append run_in runs _ ∙ ap (and_back (map run_in runs) c.args.first c.args.count) moment

use Rattle.std.proofs.Common.{subst}
use Rattle.core_parts.specs.View.{CoreValue}
use Rattle.core_scan.specs.Answered.{IsCountOf}
use Rattle.program_commands.proofs.store.Store.count_of.Goals as goal

pub returns : goal.returns
returns g c =
    subst (λ (core : CoreValue). IsCountOf core.index.entries core.life c.args.range.now c.count.result) c.core.ensures
    (record {
      count = c.count.ensures.count;
      no_index = c.count.ensures.no_index;
      not_built = c.count.ensures.not_built;
      complete = c.count.ensures.complete;
    })

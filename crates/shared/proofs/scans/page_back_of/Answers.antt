use Rattle.std.proofs.Common.{subst}
use Rattle.std.specs.Option.{option_copied}
use Rattle.core_parts.specs.View.{CoreValue}
use Rattle.core_scan.specs.Backward.{IsPageBackOf}
use Rattle.shared.proofs.scans.page_back_of.Goals as goal

pub returns : goal.returns
returns g c =
    subst (λ (core : CoreValue). IsPageBackOf core.index.entries core.life c.args.range.now (option_copied c.args.before) c.args.limit c.scan_back.result)
    c.core.ensures
    (record {
      pairs = c.scan_back.ensures.pairs;
      next = c.scan_back.ensures.next;
      no_index = c.scan_back.ensures.no_index;
      not_built = c.scan_back.ensures.not_built;
      no_memory = c.scan_back.ensures.no_memory;
    })

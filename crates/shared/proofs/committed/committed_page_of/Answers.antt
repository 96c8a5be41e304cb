use Rattle.std.proofs.Common.{subst}
use Rattle.std.specs.Option.{option_copied}
use Rattle.core_parts.specs.View.{CoreValue}
use Rattle.core_scan.specs.Answered.{IsPageOf}
use Rattle.core_committed.specs.Committed.{committed_index}
use Rattle.shared.proofs.committed.committed_page_of.Goals as goal

pub returns : goal.returns
returns g c =
    subst (λ (core : CoreValue). IsPageOf (committed_index core) core.life c.args.range.now (option_copied c.args.after) c.args.limit c.scan_committed.result)
    c.core.ensures c.scan_committed.ensures.page

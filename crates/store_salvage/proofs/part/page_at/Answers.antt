use Rattle.std.proofs.Common.{◌-◌, ◌%◌, arith}
use Rattle.store_salvage.proofs.part.page_at.Goals as goal

pub returns-clause-named : goal.returns-clause-named
returns-clause-named c =
    let first = c.pages_of-first.result in
    ((c.args.sector - first) % 16, omega arith, omega (arith, c.pages_of-first.ensures.value, c.if-sector-first.false))

use Rattle.std.proofs.Common.{Bool, None, subst, sym}
use Rattle.core_parts.specs.View.{CoreValue}
use Rattle.core_scan.specs.Answered.{IsPageOf}
use Rattle.core_scan.specs.Backward.{IsPageBackOf}
use Rattle.program_commands.specs.Pages.{IsPageIn}
use Rattle.program_commands.specs.Store.{entries_of, life_of}
use Rattle.program_commands.proofs.store.Store.page_of.Goals as goal

pub returns-then-asked : goal.returns-then-asked
returns-then-asked g c =
    let asked = c.args.asked.now in
    subst (λ (b : Bool). IsPageIn b (entries_of c.args.self.now) (life_of c.args.self.now) asked.range asked.limit c.scan_back.result) (sym c.if-asked.true)
    (subst (λ (core : CoreValue). IsPageBackOf core.index.entries core.life asked.range None asked.limit c.scan_back.result) c.core.ensures
    (record {
      pairs = c.scan_back.ensures.pairs;
      next = c.scan_back.ensures.next;
      no_index = c.scan_back.ensures.no_index;
      not_built = c.scan_back.ensures.not_built;
      no_memory = c.scan_back.ensures.no_memory;
    }))

pub returns : goal.returns
returns g c =
    let asked = c.args.asked.now in
    subst (λ (b : Bool). IsPageIn b (entries_of c.args.self.now) (life_of c.args.self.now) asked.range asked.limit c.scan.result) (sym c.if-asked.false)
    (subst (λ (core : CoreValue). IsPageOf core.index.entries core.life asked.range None asked.limit c.scan.result) c.core-2.ensures
    (record {
      pairs = c.scan.ensures.pairs;
      next = c.scan.ensures.next;
      no_index = c.scan.ensures.no_index;
      not_built = c.scan.ensures.not_built;
      no_memory = c.scan.ensures.no_memory;
    }))

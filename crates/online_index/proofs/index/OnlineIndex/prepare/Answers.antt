use Rattle.std.proofs.Common.{Some, ap, inr, rules, ◌∙◌, ◌≡◌}
use Rattle.std.specs.FinMap.{get}
use Rattle.std.specs.Option.{option_copied}
use Rattle.online_index.proofs.SetEntries.{marked_here, missing_before, refused_after, set_back}
use Rattle.online_index.proofs.index.OnlineIndex.prepare.Goals as goal
use Rattle.online_index.specs.Value.{IndexValue}

pub set_back-requires : goal.set_back-requires
set_back-requires g c =
    ap (λ (v : IndexValue). get v.entries c.in-Some.pair.now) c.in-Err.ensures.unchanged
    ∙ marked_here c.args.self.now c.mark.new.self c.in-Some.pair.now c.in_ok-mark.ensures.ok

pub returns-in-Err-clause-refused : goal.returns-in-Err-clause-refused
returns-in-Err-clause-refused g c =
    let is : option_copied c.args.old ≡ Some c.in-Some.pair.now = search rules in (
      inr (missing_before c.args.self.now c.mark.new.self c.in-Some.pair.now (option_copied c.args.new) c.in_ok-mark.ensures.ok
          c.in-Err.ensures.refused.0),
      inr (refused_after c.args.self.now c.mark.new.self c.in-Some.pair.now (option_copied c.args.old) c.in-Err.error is
          c.in_ok-mark.ensures.ok c.in-Err.ensures.refused.1),
    )

pub returns-in-Err-clause-unchanged : goal.returns-in-Err-clause-unchanged
returns-in-Err-clause-unchanged g c = set_back c.args.self.now c.mark.new.self c.mark_if-2.new.self c.set_back.new.self
    c.in-Some.pair.now c.get-before.result c.in_ok-mark.ensures.ok c.in-Err.ensures.unchanged c.get-before.ensures c.set_back.ensures

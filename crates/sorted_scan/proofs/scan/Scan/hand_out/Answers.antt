use Rattle.std.proofs.Common.{sym, ◌∙◌}
use Rattle.sorted_scan.proofs.Handing.{run_out, sound_out}
use Rattle.sorted_scan.proofs.scan.Scan.hand_out.Goals as goal

pub invariant_of-self-2 : goal.invariant_of-self-2
invariant_of-self-2 g c =
    let s = c.self.inside in
    sound_out _ _ _ _ _ _ c.self.invariant c.if-self.false _ c.self.view_is c.in_ok-pair.pair c.take_first.new.self (sym c.in_ok-pair.was
    ∙ c.take_first.ensures.first) c.in_ok-pair.ensures.others c.take_first.ensures.runs

pub returns-clause-run : goal.returns-clause-run
returns-clause-run g c = λ r has.
    run_out _ _ _ _ _ _ c.self.invariant c.if-self.false _ c.self.view_is c.in_ok-pair.pair c.take_first.new.self (sym c.in_ok-pair.was
    ∙ c.take_first.ensures.first) c.in_ok-pair.ensures.others r has

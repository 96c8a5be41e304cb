use Rattle.std.proofs.Common.{sym, ◌∙◌}
use Rattle.online_index.proofs.StandingLemmas.{attempt_made, attempted_by}
use Rattle.online_index.proofs.index.OnlineIndex.attempt.Goals as goal

pub returns-clause-made : goal.returns-clause-made
returns-clause-made g c = λ w h.
    attempt_made c.args.self.now c.advance.new.self c.args.pair c.requires.building c.requires.may
    (attempted_by c.args.self.now c.build_put.new.self c.advance.new.self c.args.pair c.in_ok-is_placed.ensures.ok
    c.advance.ensures.entries c.advance.ensures.life c.advance.ensures.run c.advance.ensures.place c.requires.next)
    w h c.attempted.result (c.attempted.ensures ∙ sym c.in_ok-is_placed.ensures.placed)

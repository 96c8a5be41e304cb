use Rattle.program_team.proofs.Leaving.{keeps_none}
use Rattle.program_team.proofs.team.given_up.Goals as goal

pub returns : goal.returns
returns g c = λ image crash.
    keeps_none g.B.Group.site.opened image c.new.result.items c.new.ensures.items (c.give_back-device.ensures image crash)

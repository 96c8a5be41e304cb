use Rattle.program_player.proofs.session.Session.reopen.Goals as goal

pub returns : goal.returns
returns c = (c.crashed-disk.result, c.crashed-disk.ensures, c.open.ensures)

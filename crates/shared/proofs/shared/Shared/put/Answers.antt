use Rattle.shared.proofs.shared.Shared.put.Goals as goal

pub returns : goal.returns
returns g c = record {
  committed = c.make.ensures.committed;
  made = c.make.ensures.made;
  refused = c.make.ensures.refused;
  nothing_stays = c.make.ensures.nothing_stays;
  left = c.make.ensures.left;
  why_left = c.make.ensures.why_left;
  seat = c.make.ensures.seat;
}

use Rattle.block_table.proofs.checked.CheckedBlocks.stands.Goals as goal

pub returns : goal.returns
returns g c =
    rw (← c.self.view_is) (record {
      inside = c.stands.ensures.inside;
      kept = c.self.invariant.0.kept;
      synced = c.stands.ensures.synced;
      here = c.stands.ensures.here;
      survives = c.stands.ensures.survives;
      honest = c.stands.ensures.honest;
      last = c.stands.ensures.last;
      latest = c.stands.ensures.latest;
    })

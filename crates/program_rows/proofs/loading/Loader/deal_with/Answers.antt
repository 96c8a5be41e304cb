use Rattle.program_rows.proofs.loading.Loader.deal_with.Goals as goal

pub returns-in-Ok : goal.returns-in-Ok
returns-in-Ok g c = rw c.in-Ok.is (record { taken = c.add.ensures.added; refused = c.add.ensures.refused })

pub returns-in-Err : goal.returns-in-Err
returns-in-Err g c = rw c.in-Err.is (record { taken = (c.refuse.ensures.taken, c.refuse.ensures.counted); refused = tt })

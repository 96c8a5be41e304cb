use Rattle.nsf.proofs.clients.run_all.Goals as goal

pub returns-in-Ok : goal.returns-in-Ok
returns-in-Ok g c =
    let ran = c.in-Ok.ensures in
    record {
      len = ran.clients.0;
      seats = ran.clients.1.0;
      worked = ran.clients.1.1;
      going = ran.goes_on;
      told = (ran.builder.done, ran.builder.why);
      back = tt;
    }

pub returns : goal.returns
returns g c = record { len = tt; seats = tt; worked = tt; going = tt; told = tt; back = c.in-Err.ensures.not_run.0 }

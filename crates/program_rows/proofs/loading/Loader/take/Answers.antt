use Rattle.std.proofs.Common.{refl}
use Rattle.program_rows.proofs.loading.Loader.take.Goals as goal

pub returns-in-Err : goal.returns-in-Err
returns-in-Err g c = record { taken = tt; refused = λ plain. (c.in-Err.ensures.fails plain, refl) }

pub returns-in-Ok-take_found : goal.returns-in-Ok-take_found
returns-in-Ok-take_found g c = record {
  taken = λ plain. (c.in-Ok.found, c.in-Ok.ensures.gives plain, rw c.line.ensures at c.in-Ok-take_found.ensures.taken);
  refused = tt;
}

pub returns-in-Err-take_found : goal.returns-in-Err-take_found
returns-in-Err-take_found g c = record {
  taken = tt;
  refused = λ plain. (c.in-Ok.found, c.in-Ok.ensures.gives plain, c.in-Err-take_found.ensures.refused);
}

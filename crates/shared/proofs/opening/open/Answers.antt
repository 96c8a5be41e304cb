use Rattle.std.proofs.Common.{refl}
use Rattle.shared.proofs.opening.open.Goals as goal

pub returns-in_default : goal.returns-in_default
returns-in_default g c = record { made = tt; core = tt; no_memory = refl }

pub returns-in_default-open : goal.returns-in_default-open
returns-in_default-open g c = record { made = tt; core = tt; no_memory = refl }

pub returns-in_default-new : goal.returns-in_default-new
returns-in_default-new g c = record { made = tt; core = tt; no_memory = refl }

pub returns : goal.returns
returns g c =
    let queues = c.in-Ok.ensures in
    let table = c.in-Ok-open.ensures in
    let boards = c.in-Ok-new.ensures in
    record {
      made = record {
        pusher = queues.pusher;
        popper = queues.popper;
        counted = (table.book.0, table.seats.0);
        book = table.book.1;
        halves = table.seats.1;
        flush = boards.flush;
        build = boards.build;
        view = boards.view;
      };
      core = refl;
      no_memory = tt;
    }

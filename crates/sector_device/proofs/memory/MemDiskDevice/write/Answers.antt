use Rattle.std.proofs.Common.{◌≡◌, refl, sym, ◌∙◌, ap, subst, arith, inr, ◌<◌, true, false, List, [], length, Result, Ok, Err, OnOk, OnErr}
use Rattle.std.specs.Result.{is_err}
use Rattle.std.proofs.lemmas.List.{set-get_or}
use Rattle.sector_device.specs.declared.call.Call.{Call}
use Rattle.sector_device.specs.Disk.{Disk, sector, after_write}
use Rattle.sector_device.specs.Memory.{initial_state, state_after, disk_of}
use Rattle.sector_device.proofs.memory.MemDiskDevice.write.Goals as goal

at_ok : {T E P : Type 0} (r : Result T E) → is_err r ≡ false → OnOk r P → P
at_ok (Ok x) is p = p
at_ok (Err e) is p = absurd cc

at_err : {T E P : Type 0} (r : Result T E) → is_err r ≡ true → OnErr r P → P
at_err (Ok x) is p = absurd cc
at_err (Err e) is p = p

pub put-requires : goal.put-requires
put-requires g c =
    let d = c.args.self.now in
    let room = at_ok _ (sym c.is_err.ensures.value ∙ c.if-is_err.false) c.make_room.ensures.ok in
    record {
      inside = subst (λ (l : List Call). c.args.n < length (state_after (initial_state d.first.items) l).content) (sym c.make_room.ensures.items) c.requires;
      room = inr (omega (arith, room, c.len-sectors.ensures, d.content.ok.0));
    }

pub returns : goal.returns
returns g c =
    let d = c.args.self.now in
    let after = λ (l : List Call). state_after (initial_state d.first.items) l in
    let done = c.put.ensures in
    let room = c.make_room.ensures in
    let same = room.items in
    let none = at_ok _ (sym c.is_err.ensures.value ∙ c.if-is_err.false) room.counts.none in
    record {
      ok = done.disk ∙ ap (λ (l : List Call). after_write (disk_of (after l)) c.args.n c.args.bytes.now) same;
      err = tt;
      time = record { later = rw same at done.time.later; kept = rw same at done.time.kept; during = rw same at done.time.during };
      counts = record { later = omega (arith, done.failures, none); none = done.failures ∙ none; failed = tt };
      counts_one = tt;
      last_synced = done.last_synced ∙ ap (λ (l : List Call). (after l).synced) same;
      kept = tt;
      succeeds = λ some. refl;
      left = omega (arith, done.left, room.capacity, room.len);
      room = omega (arith, done.room, room.capacity);
    }

pub returns-then-is_err : goal.returns-then-is_err
returns-then-is_err g c =
    let d = c.args.self.now in
    let n = c.args.n in
    let after = λ (l : List Call). state_after (initial_state d.first.items) l in
    let done = c.spoil.ensures in
    let room = c.make_room.ensures in
    let same = room.items in
    let failed = sym c.is_err.ensures.value ∙ c.if-is_err.true in
    let full = at_err _ failed room.full in
    let rises = at_err _ failed room.counts.failed in
    let is = done.disk ∙ ap (λ (l : List Call). after_write (disk_of (after l)) n (sector (after l).content n)) same in
    record {
      ok = tt;
      err = (sector (after d.calls.items).content n, d.represents.whole n c.requires, is);
      time = record { later = rw same at done.time.later; kept = rw same at done.time.kept; during = rw same at done.time.during };
      counts = record { later = omega (arith, done.failures, room.counts.later); none = tt; failed = λ below. omega (arith, done.failures, rises below) };
      counts_one = done.failures ∙ at_err _ failed room.counts_one;
      last_synced = done.last_synced ∙ ap (λ (l : List Call). (after l).synced) same;
      kept = ap (λ (s : Disk). s.content) is ∙ set-get_or (after d.calls.items).content n [];
      succeeds = λ some. absurd (omega (arith, some, full, c.len-sectors.ensures, d.content.ok.0));
      left = omega (arith, done.left, room.capacity, room.len);
      room = omega (arith, done.room, room.capacity);
    }

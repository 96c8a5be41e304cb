use Rattle.std.proofs.Common.{◌≡◌, refl, ◌∙◌, List, ap, arith, ◌+◌, ◌≤◌, ◌++◌, [], ◌∷◌, length, vec_len, vec_capacity}
use Rattle.std.proofs.lemmas.Result.{err_from_is_err_and}
use Rattle.sector_device.specs.declared.call.Call.{Call}
use Rattle.sector_device.specs.declared.call.Call.TheVariants.{Sync}
use Rattle.sector_device.specs.Memory.{MemoryState, initial_state, state_after, disk_of}
use Rattle.sector_device.proofs.Record.{represents_sync, represents_push, disk_sync, disk_push, state_push, synced_count, synced_count_at_most}
use Rattle.sector_device.proofs.Record.{elapses_push, elapses_same}
use Rattle.sector_device.proofs.memory.MemDiskDevice.sync.Goals as goal

pub invariant_of-self-2 : goal.invariant_of-self-2
invariant_of-self-2 g c =
    let d = c.args.self.now in
    let pushed : c.push.new.self.items ≡ d.calls.items ++ Sync ∷ [] = rw (c.unwrap.ensures, c.make_room.ensures.items) at c.push.ensures.items in
    let longer : vec_len c.push.new.self ≡ vec_len d.calls + 1 = rw (c.unwrap.ensures, c.make_room.ensures.len) at c.push.ensures.len in
    let now : c.len-calls.result ≡ length d.calls.items + 1 = omega (arith, c.len-calls.ensures, longer, d.calls.ok.0) in
    let made : vec_len c.make_room.new.calls + c.len-sectors.result + 1 ≤ vec_capacity c.make_room.new.calls = c.in_ok-make_room.ensures.ok in
    let same_len : vec_len c.make_room.new.calls ≡ vec_len d.calls = c.make_room.ensures.len in
    let roomy : vec_capacity c.make_room.new.calls ≤ vec_capacity c.push.new.self = c.push.ensures.capacity in
    let grown : vec_capacity d.calls ≤ vec_capacity c.make_room.new.calls = c.make_room.ensures.capacity in
    let sectors : c.len-sectors.result ≡ length d.content.items = omega (arith, c.len-sectors.ensures, d.content.ok.0) in
    let fewer = synced_count_at_most c.len-calls.result d.written_at.items in
    let size : length d.content.items ≤ vec_capacity c.push.new.self = omega (arith, d.size, roomy, grown) in
    let room : vec_len c.push.new.self + synced_count c.len-calls.result d.written_at.items ≤ vec_capacity c.push.new.self =
    omega (arith, fewer, made, same_len, sectors, d.represents.written_size, longer, roomy) in
    let done = represents_sync _ _ _ _ _ _ d.represents c.len-calls.result now in
    record {
      represents = represents_push _ _ _ Sync _ _ _ _ pushed done;
      first_size = d.first_size;
      first_whole = d.first_whole;
      size = size;
      room = room;
    }

pub returns : goal.returns
returns g c =
    let d = c.args.self.now in
    let pushed : c.push.new.self.items ≡ d.calls.items ++ Sync ∷ [] = rw (c.unwrap.ensures, c.make_room.ensures.items) at c.push.ensures.items in
    let longer : vec_len c.push.new.self ≡ vec_len d.calls + 1 = rw (c.unwrap.ensures, c.make_room.ensures.len) at c.push.ensures.len in
    let wide = c.make_room.ensures.capacity in
    record {
      ok = disk_push _ _ _ Sync pushed ∙ disk_sync _ _ _ _ _ _ d.represents;
      err = tt;
      time = elapses_push _ _ _ d.represents.whole _ Sync pushed;
      counts = record { later = omega (arith, c.in_ok-make_room.ensures.counts.none); none = c.in_ok-make_room.ensures.counts.none; failed = tt };
      counts_one = tt;
      last_synced = ap (λ (s : MemoryState). s.synced) (state_push _ _ _ Sync pushed);
      last_synced_err = tt;
      succeeds = λ some. refl;
      left = omega (arith, longer, wide, c.push.ensures.capacity);
      room = omega (arith, wide, c.push.ensures.capacity);
    }

pub returns-in_err-make_room : goal.returns-in_err-make_room
returns-in_err-make_room g c =
    let d = c.args.self.now in
    let none = c.in_err-make_room.ensures in
    let same = c.make_room.ensures.items in
    let wide = c.make_room.ensures.capacity in
    rw (err_from_is_err_and c.from_residual.result c.from_residual.ensures.1).1 (record {
      ok = tt;
      err = ap (λ (l : List Call). disk_of (state_after (initial_state d.first.items) l)) same;
      time = elapses_same _ _ _ d.represents.whole _ same;
      counts = record { later = none.counts.later; none = tt; failed = none.counts.failed };
      counts_one = none.counts_one;
      last_synced = tt;
      last_synced_err = ap (λ (l : List Call). (state_after (initial_state d.first.items) l).synced) same;
      succeeds = λ some. absurd (omega (arith, some, none.full, c.len-sectors.ensures, d.content.ok.0));
      left = omega (arith, wide, c.make_room.ensures.len);
      room = omega (arith, wide);
    })

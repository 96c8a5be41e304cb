use Rattle.std.proofs.Common.{◌≡◌, refl, ◌∙◌, ⊎_elim, ap, sym, arith, ◌+◌, ◌<◌, ◌≤◌, ◌++◌, [], ◌∷◌, length, vec_len, vec_capacity, slice_set, length-set}
use Rattle.sector_device.specs.declared.call.Call.TheVariants.{Write}
use Rattle.sector_device.specs.Memory.{MemoryState}
use Rattle.sector_device.proofs.Record.{represents_write, represents_push, disk_write, disk_push, state_push, synced_count, synced_count_at_most}
use Rattle.sector_device.proofs.Record.{elapses_push}
use Rattle.sector_device.proofs.Record.{synced_count-set}
use Rattle.sector_device.proofs.memory.MemDisk.put.Goals as goal

pub invariant_of-self : goal.invariant_of-self
invariant_of-self g c =
    let d = c.args.self.now in
    let call = Write c.args.n c.args.bytes.now in
    let pushed : c.push.new.self.items ≡ d.calls.items ++ call ∷ [] = rw c.unwrap.ensures at c.push.ensures.items in
    let inside : c.args.n < length d.content.items = omega (arith, c.requires.inside, ap length d.represents.content_is) in
    let there : c.args.n < length d.written_at.items = omega (arith, inside, d.represents.written_size) in
    let longer : vec_len c.push.new.self ≡ vec_len d.calls + 1 = rw c.unwrap.ensures at c.push.ensures.len in
    let now : c.len.result ≡ length d.calls.items + 1 = omega (arith, c.len.ensures, longer, d.calls.ok.0) in
    let roomy : vec_capacity d.calls ≤ vec_capacity c.push.new.self = c.push.ensures.capacity in
    let after : d.synced_at < c.len.result = omega (arith, now, d.represents.last_sync) in
    let fewer = synced_count_at_most d.synced_at (slice_set d.written_at.items c.args.n c.len.result) in
    let size : length (slice_set d.content.items c.args.n c.args.bytes.now) ≤ vec_capacity c.push.new.self =
    omega (arith, length-set d.content.items c.args.n c.args.bytes.now, d.size, roomy) in
    let room : vec_len c.push.new.self + synced_count d.synced_at (slice_set d.written_at.items c.args.n c.len.result) ≤ vec_capacity c.push.new.self = ⊎_elim
    (λ own. let one = synced_count-set d.synced_at d.written_at.items c.args.n c.len.result there own after in omega (arith, one, longer, roomy, d.room))
    (λ more. omega (arith, fewer, length-set d.written_at.items c.args.n c.len.result, d.represents.written_size, more, longer, roomy))
    c.requires.room in
    let wrote = represents_write _ _ _ _ _ _ d.represents c.args.n c.args.bytes.now c.at_last_sync.result c.len.result inside
    (record { size = c.told-bytes; are_bytes = c.fits-bytes }) c.at_last_sync.ensures now in
    record {
      represents = represents_push _ _ _ call _ _ _ _ pushed wrote;
      first_size = d.first_size ∙ sym (length-set d.content.items c.args.n c.args.bytes.now);
      first_whole = d.first_whole;
      size = size;
      room = room;
    }

pub returns : goal.returns
returns g c =
    let d = c.args.self.now in
    let call = Write c.args.n c.args.bytes.now in
    let pushed : c.push.new.self.items ≡ d.calls.items ++ call ∷ [] = rw c.unwrap.ensures at c.push.ensures.items in
    let longer : vec_len c.push.new.self ≡ vec_len d.calls + 1 = rw c.unwrap.ensures at c.push.ensures.len in
    let inside : c.args.n < length d.content.items = omega (arith, c.requires.inside, ap length d.represents.content_is) in
    let size = length-set d.content.items c.args.n c.args.bytes.now in
    record {
      disk = disk_push _ _ _ call pushed ∙ disk_write _ _ _ _ _ _ d.represents c.args.n c.args.bytes.now inside;
      time = elapses_push _ _ _ d.represents.whole _ call pushed;
      last_synced = ap (λ (s : MemoryState). s.synced) (state_push _ _ _ call pushed);
      failures = refl;
      left = omega (arith, longer, c.push.ensures.capacity, size);
      room = omega (arith, c.push.ensures.capacity, size);
    }

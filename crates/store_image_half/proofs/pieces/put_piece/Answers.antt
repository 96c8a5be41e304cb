use Rattle.std.proofs.Common.{◌≡◌, ◌+◌, ◌*◌, ◌-◌, ◌≤◌, length, arith}
use Rattle.store_image_half.proofs.Cut.{put_before}
use Rattle.store_image_half.proofs.pieces.put_piece.Goals as goal

pub returns-clause-before : goal.returns-clause-before
returns-clause-before g c =
    let n = g.row.N in
    let j = c.args.j in
    let size : length c.args.bytes.now ≡ n = omega (arith, c.told-bytes) in
    let len : n * j + n - n * j ≡ n = omega arith in
    let room : n * j + n ≤ length c.args.buffer.now = omega (arith, c.requires, c.told-buffer) in
    put_before n j _ c.args.buffer.now c.copy_from_slice.new.self c.args.bytes.now c.copy_from_slice.ensures.after size len room

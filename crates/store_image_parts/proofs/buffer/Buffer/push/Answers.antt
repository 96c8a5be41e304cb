use Rattle.std.proofs.Common.{◌+◌, ◌≤◌, ap, arith, length}
use Rattle.store_image_parts.proofs.Bytes.{pushed, length_of}
use Rattle.store_image_parts.proofs.buffer.Buffer.push.Goals as goal

pub invariant_of-self : goal.invariant_of-self
invariant_of-self g c =
    let b = c.self.inside in
    let fits : b.len + length c.args.more.now ≤ g.row.N =
    omega (arith, c.requires, ap length c.self.view_is, length_of g.row.N b.len b.bytes c.self.invariant) in
    pushed g.row.N b.len b.bytes c.self.invariant c.args.more.now c.copy_from_slice.new.self _ c.copy_from_slice.ensures.after (omega arith) fits

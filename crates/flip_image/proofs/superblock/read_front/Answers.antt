use Rattle.std.proofs.Common.{arith}
use Rattle.flip_image.proofs.Spelled.{front_is}
use Rattle.flip_image.proofs.superblock.read_front.Goals as goal

pub returns : goal.returns
returns c =
    front_is c.args.bytes.now _ _ _ _ _ _ _ _ _ (λ i. omega (arith, c.type_inv.bytes i)) c.requires c.split_at.ensures.back c.split_at-2.ensures.back
    c.split_at-3.ensures.back c.split_at-4.ensures.back
    c.read_u64.ensures c.read_u32.ensures c.read_u32-2.ensures c.read_u32-3.ensures c.read_u32-4.ensures

use Rattle.std.proofs.Common.{drop, ◌∙◌, arith, length-append, length-drop, length-take}
use Rattle.block_host.proofs.mirror.load.Goals as goal

pub loop-k-preserved : goal.loop-k-preserved
loop-k-preserved g c =
    let is = c.loop-k.invariant in
    let run = c.get_blocks.new.run in
    let taken = c.min.result in (
      c.put.ensures.size ∙ is.0,
      omega (
        arith,
        is.1,
        c.min.ensures,
        c.get_blocks.ensures,
        length-take taken c.loop-k.buffer,
        length-drop taken c.loop-k.buffer,
        length-append run (drop taken c.loop-k.buffer),
      ),
      is.2,
    )

pub put-requires : goal.put-requires
put-requires g c =
    let is = c.loop-k.invariant in
    omega (arith, is.0, is.1, c.min.ensures, c.get_blocks.ensures, length-take c.min.result c.loop-k.buffer)

use Rattle.std.proofs.Common.{drop, ◌∙◌, arith, length-append, length-drop, length-take}
use Rattle.store_file.proofs.mirror.FileDisk.load.Goals as goal

pub loop-k-preserved : goal.loop-k-preserved
loop-k-preserved g c =
    let is = c.loop-k.invariant in
    let run = c.renew.new.run in
    let taken = c.min.result in (
      c.put_run.ensures.failures ∙ is.0,
      c.put_run.ensures.size ∙ is.1,
      omega (
        arith,
        is.2,
        c.min.ensures,
        c.renew.ensures,
        length-take taken c.loop-k.buffer,
        length-drop taken c.loop-k.buffer,
        length-append run (drop taken c.loop-k.buffer),
      ),
      c.put_run.ensures.failed ∙ is.3,
    )

pub put_run-requires : goal.put_run-requires
put_run-requires g c =
    let is = c.loop-k.invariant in
    omega (arith, is.1, is.2, c.min.ensures, c.renew.ensures, length-take c.min.result c.loop-k.buffer)

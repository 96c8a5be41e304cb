use Rattle.std.proofs.Common.{arith}
use Rattle.store_writer.proofs.Opening.{waits_all}
use Rattle.store_writer.proofs.writer.Writer.handed.Goals as goal

pub overflow_add-result : goal.overflow_add-result
overflow_add-result g c =
    let (run, handed, is) = c.requires in
    omega (arith, c.len.ensures, waits_all g.D.Device.past_of run handed c.args.self.now is, is.small)

use Rattle.std.proofs.Common.{length, length-drop, ap, arith}
use Rattle.store_writer.proofs.waiting.Waiting.len.Goals as goal

pub returns : goal.returns
returns g c = omega (
  arith,
  c.len.ensures,
  c.self.inside.records.ok.0,
  length-drop c.self.inside.taken c.self.inside.records.items,
  ap length c.self.view_is,
  c.self.invariant,
)

use Rattle.record_values.specs.Padded.{padded}
use Rattle.record_values.proofs.short_bytes.ShortBytes.new.Goals as goal

pub invariant_of-result : goal.invariant_of-result
invariant_of-result g c = rw c.copy_from_slice.ensures.after (padded c.args.bytes.now g.row.MAX c.if-bytes.false)

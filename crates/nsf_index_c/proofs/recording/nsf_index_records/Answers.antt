use Rattle.std.proofs.Common.{inr, subst}
use Rattle.nsf_index_c.specs.Recording.{TakesRecords}
use Rattle.nsf_index_c.specs.Seen.{Seen}
use Rattle.nsf_index_c.proofs.recording.nsf_index_records.Goals as goal

pub returns : goal.returns
returns c = inr (
  c.in-Some.held.value,
  c.take_records-spelled.new.self,
  c.in-Some.ensures.taken,
  c.put.ensures,
  subst (λ (v : Seen).
      TakesRecords c.take_records-spelled.result.status c.take_records-spelled.result.used c.args.bytes.now
      c.take_records-spelled.new.bytes v c.take_records-spelled.new.self)
      c.deref_mut.ensures.value c.take_records-spelled.ensures,
)

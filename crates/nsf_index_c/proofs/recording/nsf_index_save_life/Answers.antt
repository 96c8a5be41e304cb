use Rattle.std.proofs.Common.{inr, subst}
use Rattle.nsf_index_c.specs.Recording.{SavesLife}
use Rattle.nsf_index_c.specs.Seen.{Seen}
use Rattle.nsf_index_c.proofs.recording.nsf_index_save_life.Goals as goal

pub returns : goal.returns
returns c = inr (
  c.in-Some.held.value,
  c.save_life-spelled.new.self,
  c.in-Some.ensures.taken,
  c.put.ensures,
  subst (λ (v : Seen).
      SavesLife c.save_life-spelled.result.status c.save_life-spelled.result.used c.args.bytes.now c.save_life-spelled.new.bytes v
      c.save_life-spelled.new.self)
      c.deref_mut.ensures.value c.save_life-spelled.ensures,
)

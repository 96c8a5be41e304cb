use Rattle.std.proofs.Common.{inr, subst}
use Rattle.nsf_index_c.specs.Recording.{SavesPiece}
use Rattle.nsf_index_c.specs.Seen.{Seen}
use Rattle.nsf_index_c.proofs.recording.nsf_index_save.Goals as goal

pub returns : goal.returns
returns c = inr (
  c.in-Some.held.value,
  c.save_piece-spelled.new.self,
  c.in-Some.ensures.taken,
  c.put.ensures,
  subst (λ (v : Seen).
      SavesPiece c.save_piece-spelled.result.status c.save_piece-spelled.result.used c.save_piece-spelled.result.is_last
      c.args.cursor.now c.save_piece-spelled.new.cursor c.args.bytes.now c.save_piece-spelled.new.bytes v c.save_piece-spelled.new.self)
      c.deref_mut.ensures.value c.save_piece-spelled.ensures,
)

use Rattle.std.proofs.Common.{◌+◌, ◌∙◌, Err, ap, arith, inl, inr, length, refl, sym}
use Rattle.std.proofs.lemmas.Result.{err_from_is_err_and}
use Rattle.locked_core.specs.Locked.{locked_of}
use Rattle.locked_core.specs.Made as lock
use Rattle.store_writer.specs.Parts.{halves_of}
use Rattle.threads_flusher.specs.Part.{last_handed}
use Rattle.threads_flusher.proofs.Going.{counted_by_call, flip_geometry, quiet_by_call, step_geometry}
use Rattle.threads_flusher.proofs.Keeping.{flip_rises, still_sound}
use Rattle.threads_lifetime.proofs.Going.{writes_by_call, writes_nothing, writes_then}
use Rattle.threads_lifetime.proofs.Pieces.{all_synced, image_taken, number_is, whole_chunk}
use Rattle.threads_lifetime.proofs.writing.write_image.Goals as goal

pub take_piece-requires : goal.take_piece-requires
take_piece-requires g c = record {
  board = c.requires.board;
  chunk = whole_chunk g.D.Device.past_of g.B.Group.site.opened c.args.flush.now c.stands.ensures
      (locked_of c.args.locked.now) c.requires.all c.requires.none_waits c.each_hold.ensures.last c.in_ok-chunk.chunk.number c.in_ok-chunk.ensures.number
      c.each_hold.ensures.store c.in_ok-chunk.chunk.piece (c.in_ok-chunk.ensures.whole (halves_of c.args.flush.now.writer).geometry);
}

pub returns-in_err-chunk : goal.returns-in_err-chunk
returns-in_err-chunk g c =
    let p = err_from_is_err_and c.from_residual.result c.from_residual.ensures.1 in
    rw (p.1 ∙ ap Err p.2) (record {
      writes = writes_nothing g.D.Device.past_of g.D.Device.failures g.B.Group.site.opened c.args.flush.now c.stands.ensures;
      handed = refl;
      synced = tt;
      sound = tt;
      err = inl c.in_err-chunk.ensures.no_memory;
    })

pub returns-in_err-take_piece : goal.returns-in_err-take_piece
returns-in_err-take_piece g c =
    let old = c.args.flush.now in
    let new = c.take_piece.new.self in
    let is = c.take_piece.ensures in
    let failed = c.in_err-take_piece.ensures.err in
    let p = err_from_is_err_and c.from_residual-in_err-take_piece.result c.from_residual-in_err-take_piece.ensures.1 in
    rw (p.1 ∙ ap Err p.2) (record {
      writes = writes_by_call g.D.Device.past_of g.D.Device.failures g.B.Group.site.opened old new is.publishes
          (step_geometry old.writer new.writer c.in_ok-chunk.chunk.number c.in_ok-chunk.chunk.piece c.take_piece.result is.stepped is.left)
          (omega (arith, is.kept)) is.images is.later
          (counted_by_call g.D.Device.failures old.writer new.writer c.take_piece.result is.sound is.err)
          (still_sound g.D.Device.failures old.writer new.writer c.take_piece.result is.sound is.err)
          (quiet_by_call g.D.Device.failures old.writer new.writer c.take_piece.result is.quiet is.err);
      handed = is.publishes.handed;
      synced = tt;
      sound = tt;
      err = inr (failed.0, failed.1);
    })

pub returns-in_err-flip : goal.returns-in_err-flip
returns-in_err-flip g c =
    let past_of = g.D.Device.past_of in
    let failures = g.D.Device.failures in
    let o = g.B.Group.site.opened in
    let old = c.args.flush.now in
    let mid = c.take_piece.new.self in
    let new = c.flip.new.self in
    let first = c.take_piece.ensures in
    let is = c.flip.ensures in
    let failed = c.in_err-flip.ensures.err in
    let p = err_from_is_err_and c.from_residual-in_err-flip.result c.from_residual-in_err-flip.ensures.1 in
    rw (p.1 ∙ ap Err p.2) (record {
      writes = writes_then past_of failures o old mid new
          (writes_by_call past_of failures o old mid first.publishes
          (step_geometry old.writer mid.writer c.in_ok-chunk.chunk.number c.in_ok-chunk.chunk.piece c.take_piece.result first.stepped first.left)
          (omega (arith, first.kept)) first.images first.later
          (counted_by_call failures old.writer mid.writer c.take_piece.result first.sound first.err)
          (still_sound failures old.writer mid.writer c.take_piece.result first.sound first.err)
          (quiet_by_call failures old.writer mid.writer c.take_piece.result first.quiet first.err))
          (writes_by_call past_of failures o mid new is.publishes (flip_geometry mid.writer new.writer (last_handed o mid) c.flip.result is.flipped is.left)
          (flip_rises failures mid.writer new.writer (last_handed o mid) c.flip.result is.flipped is.kept) is.images is.later
          (counted_by_call failures mid.writer new.writer c.flip.result is.sound is.err)
          (still_sound failures mid.writer new.writer c.flip.result is.sound is.err)
          (quiet_by_call failures mid.writer new.writer c.flip.result is.quiet is.err));
      handed = is.publishes.handed ∙ first.publishes.handed;
      synced = tt;
      sound = tt;
      err = inr (failed.0, failed.1);
    })

pub returns : goal.returns
returns g c =
    let past_of = g.D.Device.past_of in
    let failures = g.D.Device.failures in
    let o = g.B.Group.site.opened in
    let old = c.args.flush.now in
    let mid = c.take_piece.new.self in
    let new = c.flip.new.self in
    let first = c.take_piece.ensures in
    let is = c.flip.ensures in
    let l = locked_of c.args.locked.now in
    let chunk = c.in_ok-chunk.chunk in
    let number = number_is past_of o old c.stands.ensures l c.requires.all c.requires.none_waits c.each_hold.ensures.last chunk.number
    c.in_ok-chunk.ensures.number in
    let kept = ap length first.publishes.handed in
    let image = image_taken chunk.number l (lock.run_of (halves_of old.writer).geometry o l) chunk.piece old.writer mid.writer _
    (c.in_ok-chunk.ensures.whole (halves_of old.writer).geometry) c.in_ok-take_piece.ensures.stepped in
    record {
      writes = writes_then past_of failures o old mid new
          (writes_by_call past_of failures o old mid first.publishes
          (step_geometry old.writer mid.writer chunk.number chunk.piece c.take_piece.result first.stepped first.left)
          (omega (arith, first.kept)) first.images first.later
          (counted_by_call failures old.writer mid.writer c.take_piece.result first.sound first.err)
          (still_sound failures old.writer mid.writer c.take_piece.result first.sound first.err)
          (quiet_by_call failures old.writer mid.writer c.take_piece.result first.quiet first.err))
          (writes_by_call past_of failures o mid new is.publishes (flip_geometry mid.writer new.writer (last_handed o mid) c.flip.result is.flipped is.left)
          (flip_rises failures mid.writer new.writer (last_handed o mid) c.flip.result is.flipped is.kept) is.images is.later
          (counted_by_call failures mid.writer new.writer c.flip.result is.sound is.err)
          (still_sound failures mid.writer new.writer c.flip.result is.sound is.err)
          (quiet_by_call failures mid.writer new.writer c.flip.result is.quiet is.err));
      handed = is.publishes.handed ∙ first.publishes.handed;
      synced = all_synced chunk.number (last_handed o mid) old.writer mid.writer new.writer image (omega (arith, number, kept))
          (omega (arith, c.stands.ensures.writer.reached, kept)) _ c.in_ok-flip.ensures.flipped
          ∙ ap (λ (rs : _). o.given.last + length rs) (sym is.publishes.handed);
      sound = c.in_ok-flip.ensures.sound.1;
      err = tt;
    }

use Rattle.std.proofs.Common.{◌+◌, ◌∙◌, Err, List, Ok, ap, arith, length, refl, subst, sym}
use Rattle.std.proofs.lemmas.Result.{err_from_is_err_and}
use Rattle.flip_image.specs.Layout.{HalvesValue}
use Rattle.records.specs.RecordValue.{RecordValue}
use Rattle.store_writer.specs.Writer.{IsFlushReply}
use Rattle.store_writer.specs.declared.writer.FlushReply.{FlushReply}
use Rattle.store_writer.specs.declared.writer.Writer.{Writer}
use Rattle.threads_flusher.proofs.Going.{counted_by_flush, quiet_by_flush}
use Rattle.threads_flusher.proofs.Keeping.{flush_rises, flush_sound}
use Rattle.threads_lifetime.specs.Written.{WritesOn}
use Rattle.threads_lifetime.proofs.Going.{why_not_flushed, writes_by_call, writes_nothing, writes_then}
use Rattle.threads_lifetime.proofs.writing.write_groups.Goals as goal

pub loop-flush-init : goal.loop-flush-init
loop-flush-init g c = record {
  writes = writes_nothing g.D.Device.past_of g.D.Device.failures g.B.Group.site.opened c.args.flush.now c.stands.ensures;
  handed = refl;
}

pub loop-flush-preserved : goal.loop-flush-preserved
loop-flush-preserved g c =
    let past_of = g.D.Device.past_of in
    let failures = g.D.Device.failures in
    let o = g.B.Group.site.opened in
    let old = c.loop-flush.flush in
    let new = c.flush.new.self in
    let is = c.flush.ensures in record {
      writes =
          writes_then past_of failures o c.args.flush.now old new c.loop-flush.invariant.writes
          (writes_by_call past_of failures o old new is.publishes (ap (λ (h : HalvesValue). h.geometry) is.around.halves-are)
          (flush_rises failures old.writer new.writer c.flush.result is.flushed is.kept) is.images is.later
          (counted_by_flush failures old.writer new.writer c.flush.result is.sound is.err)
          (flush_sound failures old.writer new.writer c.flush.result is.sound is.err)
          (quiet_by_flush failures old.writer new.writer c.flush.result is.quiet is.err));
      handed = is.publishes.handed ∙ c.loop-flush.invariant.handed;
    }

pub returns-in_err-flush : goal.returns-in_err-flush
returns-in_err-flush g c =
    let past_of = g.D.Device.past_of in
    let failures = g.D.Device.failures in
    let o = g.B.Group.site.opened in
    let old = c.loop-flush.flush in
    let new = c.flush.new.self in
    let is = c.flush.ensures in
    let p = err_from_is_err_and c.from_residual.result c.from_residual.ensures.1 in
    rw (p.1 ∙ ap Err p.2) (record {
      writes =
          writes_then past_of failures o c.args.flush.now old new c.loop-flush.invariant.writes
          (writes_by_call past_of failures o old new is.publishes (ap (λ (h : HalvesValue). h.geometry) is.around.halves-are)
          (flush_rises failures old.writer new.writer c.flush.result is.flushed is.kept) is.images is.later
          (counted_by_flush failures old.writer new.writer c.flush.result is.sound is.err)
          (flush_sound failures old.writer new.writer c.flush.result is.sound is.err)
          (quiet_by_flush failures old.writer new.writer c.flush.result is.quiet is.err));
      handed = is.publishes.handed ∙ c.loop-flush.invariant.handed;
      synced = tt;
      sound = tt;
      err = why_not_flushed failures old.writer new.writer _ c.in_err-flush.ensures.err;
    })

pub returns-in-Nothing-clause-writes : goal.returns-in-Nothing-clause-writes
returns-in-Nothing-clause-writes g c =
    let past_of = g.D.Device.past_of in
    let failures = g.D.Device.failures in
    let o = g.B.Group.site.opened in
    let old = c.loop-flush.flush in
    let new = c.flush.new.self in
    let is = c.flush.ensures in
    writes_then past_of failures o c.args.flush.now old new c.loop-flush.invariant.writes
    (writes_by_call past_of failures o old new is.publishes (ap (λ (h : HalvesValue). h.geometry) is.around.halves-are)
    (flush_rises failures old.writer new.writer c.flush.result is.flushed is.kept) is.images is.later
    (counted_by_flush failures old.writer new.writer c.flush.result is.sound is.err) (flush_sound failures old.writer new.writer c.flush.result is.sound is.err)
    (quiet_by_flush failures old.writer new.writer c.flush.result is.quiet is.err))

pub returns-in-Nothing-clause-handed : goal.returns-in-Nothing-clause-handed
returns-in-Nothing-clause-handed g c = c.flush.ensures.publishes.handed ∙ c.loop-flush.invariant.handed

pub returns-in-Nothing-clause-sound : goal.returns-in-Nothing-clause-sound
returns-in-Nothing-clause-sound g c = c.in_ok-flush.ensures.sound.1

pub returns-in-Nothing-clause-err : goal.returns-in-Nothing-clause-err
returns-in-Nothing-clause-err g c = tt

pub write_image-requires : goal.write_image-requires
write_image-requires g c = record {
  board = c.requires.board;
  all = c.flush.ensures.publishes.handed ∙ (c.loop-flush.invariant.handed ∙ c.requires.all);
  none_waits = c.requires.none_waits;
}

pub returns-in-LogFull : goal.returns-in-LogFull
returns-in-LogFull g c =
    let past_of = g.D.Device.past_of in
    let failures = g.D.Device.failures in
    let o = g.B.Group.site.opened in
    let first = c.args.flush.now in
    let old = c.loop-flush.flush in
    let new = c.flush.new.self in
    let last = c.write_image.new.flush in
    let is = c.flush.ensures in
    let written = c.write_image.ensures in
    let writes : WritesOn past_of failures o first new = writes_then past_of failures o first old new c.loop-flush.invariant.writes
    (writes_by_call past_of failures o old new is.publishes (ap (λ (h : HalvesValue). h.geometry) is.around.halves-are)
    (flush_rises failures old.writer new.writer c.flush.result is.flushed is.kept) is.images is.later
    (counted_by_flush failures old.writer new.writer c.flush.result is.sound is.err) (flush_sound failures old.writer new.writer c.flush.result is.sound is.err)
    (quiet_by_flush failures old.writer new.writer c.flush.result is.quiet is.err)) in
    record {
      writes = writes_then past_of failures o first new last writes written.writes;
      handed = written.handed ∙ (is.publishes.handed ∙ c.loop-flush.invariant.handed);
      synced = written.synced;
      sound = written.sound;
      err = written.err;
    }

pub loop-flush-smaller : goal.loop-flush-smaller
loop-flush-smaller g c =
    let is = c.in_ok-flush.ensures in
    let flushed = subst (λ (r : FlushReply). IsFlushReply r c.loop-flush.flush.writer c.flush.new.self.writer) c.in-Flushed.is is.flushed in
    omega (arith, flushed.0, flushed.1, ap length is.publishes.handed, c.stands-in-Flushed.ensures.writer.reached)

pub returns-in-Nothing-clause-synced : goal.returns-in-Nothing-clause-synced
returns-in-Nothing-clause-synced g c =
    let is = c.in_ok-flush.ensures in
    let flushed = subst (λ (r : FlushReply). IsFlushReply r c.loop-flush.flush.writer c.flush.new.self.writer) c.in-Nothing.is is.flushed in
    ap (λ (w : Writer _ _). w.synced) flushed.0
    ∙ (is.nothing (ap Ok c.in-Nothing.is)
    ∙ ap (λ (l : List RecordValue). g.B.Group.site.opened.given.last + length l) (sym is.publishes.handed))

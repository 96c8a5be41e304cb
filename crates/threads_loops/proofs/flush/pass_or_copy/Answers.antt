use Rattle.std.proofs.Common.{OnOk, sym, ap, subst, ◌∙◌}
use Rattle.std.proofs.lemmas.Bool.{false≢true}
use Rattle.store_writer.specs.Copying.{next_place}
use Rattle.store_writer.specs.Parts.{copying_of}
use Rattle.threads_flusher.specs.Part.{FlushValue}
use Rattle.threads_loops.specs.Copying.{IsCopied, IsDue}
use Rattle.threads_loops.specs.Through.{PassesThrough}
use Rattle.threads_loops.proofs.Rounds.{stands_due}
use Rattle.threads_loops.proofs.flush.pass_or_copy.Goals as goal

pub returns-then-pass_pages : goal.returns-then-pass_pages
returns-then-pass_pages g c =
    let is = c.pass_pages.ensures.passed c.if-pass_pages.true in
    record {
      through = is.through;
      copying = stands_due c.pass_pages.new.part is.late;
      image = is.copied;
      spares = λ _. is.device;
    }

-- ---- where nothing was passed over

pub copy_piece-requires-clause-due : goal.copy_piece-requires-clause-due
copy_piece-requires-clause-due g c =
    ap (λ (f : FlushValue _ _). next_place (copying_of f.writer)) (c.pass_pages.ensures.still c.if-pass_pages.false) ∙ c.requires.due

pub copy_piece-requires-clause-late : goal.copy_piece-requires-clause-late
copy_piece-requires-clause-late g c =
    subst (λ (f : FlushValue _ _). IsDue f) (sym (c.pass_pages.ensures.still c.if-pass_pages.false)) c.requires.late

pub returns : goal.returns
returns g c =
    let same = c.pass_pages.ensures.still c.if-pass_pages.false in
    let is = c.copy_piece.ensures in
    record {
      through = subst (λ (f : FlushValue _ _).
          PassesThrough g.D.Device.past_of g.D.Device.marks g.D.Device.failures g.B.Group.site.opened f c.copy_piece.new.part) same is.through;
      copying = is.copying;
      image = subst (λ (f : FlushValue _ _). OnOk c.copy_piece.result (IsCopied f c.copy_piece.new.part)) same is.image;
      spares = λ may. absurd (false≢true (sym c.if-pass_pages.false ∙ c.pass_pages.ensures.some may));
    }

use Rattle.std.proofs.Common.{ap, sym, ◌∙◌}
use Rattle.std.proofs.lemmas.Bool.{iff_false}
use Rattle.store_writer.specs.Parts.{copying_of}
use Rattle.threads_flusher.specs.Part.{FlushValue}
use Rattle.threads_loops.proofs.Rounds.{stands_due}
use Rattle.threads_loops.proofs.Running.{up_forgotten, up_half_full}
use Rattle.threads_loops.proofs.flush.take_up.Goals as goal

pub returns-then-wants_image : goal.returns-then-wants_image
returns-then-wants_image g c =
    let half = c.wants_image.ensures.begins.0 c.if-wants_image.true in
    record { up = sym (up_half_full c.args.part.now half); copying = stands_due c.args.part.now (λ sound. half) }

pub returns : goal.returns
returns g c =
    record {
      up = c.forget_image.ensures ∙ sym (up_forgotten c.args.part.now (λ half. iff_false c.wants_image.ensures.begins c.if-wants_image.false half));
      copying = λ sound copied. absurd (copied (ap (λ (f : FlushValue _ _). copying_of f.writer) c.forget_image.ensures));
    }

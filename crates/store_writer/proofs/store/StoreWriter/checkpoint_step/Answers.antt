use Rattle.std.proofs.Common.{Err, ◌≡◌, refl, sym, ap, ◌∙◌, arith}
use Rattle.std.proofs.lemmas.Bool.{false≢true}
use Rattle.std.proofs.lemmas.Result.{err_from_is_err_and}
use Rattle.sector_device.proofs.Moments.{started}
use Rattle.flip_image.specs.Layout.{other, InHalf}
use Rattle.store_writer.specs.Contents.{LeftBy}
use Rattle.store_writer.specs.declared.copying.Copying.TheVariants.{GivenUp}
use Rattle.store_writer.specs.declared.writer.StepReply.TheVariants.{Taken, StartAgain}
use Rattle.store_writer.proofs.Alone.{none_alone}
use Rattle.store_writer.proofs.Opening.{without}
use Rattle.store_writer.proofs.store.StoreWriter.checkpoint_step.Goals as goal

again_not_taken : StartAgain ≡ Taken → ⊥
again_not_taken taken = (cc)

pub take-requires-clause-chunk : goal.take-requires-clause-chunk
take-requires-clause-chunk g c = (rw (← c.self.view_is) at c.requires)

pub returns-then-self : goal.returns-then-self
returns-then-self g c =
    rw (← c.self.view_is) (
    let old = c.self.inside.writer in
    record {
      writer = λ run handed is chunk. is;
      images = λ run handed is. started (g.D.Device.past_of old.device) (LeftBy run old.synced handed) is.images;
      stepped = tt;
      sound = tt;
      again = λ sound must. absurd (false≢true (sym sound ∙ c.if-self.true));
      err = (refl, c.if-self.true, (λ sound. absurd (false≢true (sym sound ∙ c.if-self.true))), λ _. refl);
      quiet = tt;
      later = omega arith;
      kept = refl;
      around = none_alone g.D.Device.past_of (InHalf old.halves.geometry (other old.halves.current)) old.device;
      left = refl;
      knows = tt;
    })

pub returns-then-must_start_again : goal.returns-then-must_start_again
returns-then-must_start_again g c =
    rw (← c.self.view_is) (
    let old = c.self.inside.writer in
    record {
      writer = λ run handed is chunk. without g.D.Device.past_of run handed GivenUp old refl is;
      images = λ run handed is. started (g.D.Device.past_of old.device) (LeftBy run old.synced handed) is.images;
      stepped = (refl, c.if-must_start_again.ensures.0 refl);
      sound = (c.if-self.false, c.if-self.false);
      again = λ sound must. refl;
      err = tt;
      quiet = refl;
      later = omega arith;
      kept = refl;
      around = none_alone g.D.Device.past_of (InHalf old.halves.geometry (other old.halves.current)) old.device;
      left = tt;
      knows = λ taken. absurd (again_not_taken taken);
    })

pub returns-in_err-take : goal.returns-in_err-take
returns-in_err-take g c =
    let p = err_from_is_err_and c.from_residual.result c.from_residual.ensures.1 in
    rw (← c.self.view_is, p.1 ∙ ap Err p.2) (record {
      writer = c.take.ensures.writer;
      images = c.take.ensures.images;
      stepped = tt;
      sound = tt;
      again = λ sound must. absurd (false≢true (c.if-must_start_again.ensures.1 must));
      err = c.in_err-take.ensures.err;
      quiet = tt;
      later = c.take.ensures.later;
      kept = c.take.ensures.synced;
      around = c.take.ensures.around;
      left = c.in_err-take.ensures.left;
      knows = tt;
    })

pub returns : goal.returns
returns g c =
    rw (← c.self.view_is) (record {
      writer = c.take.ensures.writer;
      images = c.take.ensures.images;
      stepped = ((λ must. false≢true (c.if-must_start_again.ensures.1 must)), c.in_ok-take.ensures.taken);
      sound = (c.if-self.false, c.in_ok-take.ensures.taken.1.5 ∙ c.if-self.false);
      again = λ sound must. absurd (false≢true (c.if-must_start_again.ensures.1 must));
      err = tt;
      quiet = c.in_ok-take.ensures.quiet;
      later = c.take.ensures.later;
      kept = c.take.ensures.synced;
      around = c.take.ensures.around;
      left = tt;
      knows = λ _. c.in_ok-take.ensures.knows;
    })

pub invariant_of-self : goal.invariant_of-self
invariant_of-self g c =
    let (run, handed, is) = c.self.invariant in
    (run, handed, without g.D.Device.past_of run handed GivenUp c.self.inside.writer refl is)

pub invariant_of-self-in_err-take : goal.invariant_of-self-in_err-take
invariant_of-self-in_err-take g c =
    let (run, handed, is, chunk) = (rw (← c.self.view_is) at c.requires) in
    (run, handed, c.take.ensures.writer run handed is chunk)

pub invariant_of-self-2 : goal.invariant_of-self-2
invariant_of-self-2 g c =
    let (run, handed, is, chunk) = (rw (← c.self.view_is) at c.requires) in
    (run, handed, c.take.ensures.writer run handed is chunk)

use Rattle.std.proofs.Common.{◌≡◌, ◌<◌, ◌≤◌, ◌-◌, ◌++◌, ◌∙◌, ⊎_elim, inl, inr, List, None, Ok, false, refl, sym, ap, arith, append-nil, subst}
use Rattle.sector_device.specs.DevicePast.{LeavesOnly}
use Rattle.store_writer.specs.Contents.{LeftBy}
use Rattle.store_writer.specs.Image.{BecomesImage}
use Rattle.store_writer.specs.Parts as writer
use Rattle.store_writer.specs.Writer.{IsFlipReply, IsFlushReply, IsLogFull, IsWriter, WritesLogsAlone, WritesOnly}
use Rattle.store_writer.specs.declared.copying.Copying.TheVariants.{GivenUp, Steps}
use Rattle.store_writer.specs.declared.writer.FlipReply.{FlipReply}
use Rattle.store_writer.specs.declared.writer.FlipReply.TheVariants.{Behind, Flipped}
use Rattle.store_writer.specs.declared.writer.FlushReply.{FlushReply}
use Rattle.store_writer.specs.declared.writer.FlushReply.TheVariants.{Flushed, LogFull, Nothing}
use Rattle.records.specs.RecordValue.{RecordValue}
use Rattle.restart.specs.Copies.{copies_left}
use Rattle.restart.specs.Groups.{MayFlip}
use Rattle.restart.specs.Store.{InCopy}
use Rattle.restart.specs.declared.parts.EngineParts.{EngineParts}
use Rattle.restart.specs.Handing.{MovesOn}
use Rattle.restart.specs.Parts.{copying_of, device_of, has_failed, horizon_of, writer_of}
use Rattle.restart.proofs.Copied.{cannot_flip, few_behind, flip_current, may_not_flip, one_left, two_to_flip}
use Rattle.restart.proofs.CopiesAround.{flip_copied, logs_copied}
use Rattle.restart.proofs.Grouped.{at_once, by_failure, by_giving_up, by_none}
use Rattle.restart.proofs.CopyAnswers.{all_well, copy_failed, count_left, failed_later, put_off_as}
use Rattle.restart.proofs.Moving.{moves_by, moves_then, open_now, slots_are}
use Rattle.restart.proofs.parts.EngineParts.flip_or_flush.Goals as goal

pub returns-in-Ok-Flipped-clause-moves : goal.returns-in-Ok-Flipped-clause-moves
returns-in-Ok-Flipped-clause-moves g c =
    let past_of = g.D.Device.past_of in
    let failures = g.D.Device.failures in
    let old = c.args.self.now in
    let can = c.requires.runs in
    let new : EngineParts g.row.D.Denot g.row.A.Denot = record old { writer = c.checkpoint_flip.new.self } in
    let flipped : IsFlipReply can.1 (Flipped c.in-Ok-Flipped.number) (writer_of old) (writer_of new) =
    subst (λ (r : FlipReply). IsFlipReply can.1 r (writer_of old) c.checkpoint_flip.new.self) c.in-Ok-Flipped.field-0-is
    (c.in-Ok-Flipped.ensures.flipped can.0 can.1 can.4.writer) in
    moves_by past_of old new refl refl c.checkpoint_flip.ensures.writer c.checkpoint_flip.ensures.images (omega (arith, flipped.0, flipped.1))
    refl

pub returns-in-Ok-Flipped-clause-answer : goal.returns-in-Ok-Flipped-clause-answer
returns-in-Ok-Flipped-clause-answer g c =
    let past_of = g.D.Device.past_of in
    let failures = g.D.Device.failures in
    let old = c.args.self.now in
    let can = c.requires.runs in
    let new : EngineParts g.row.D.Denot g.row.A.Denot = record old { writer = c.checkpoint_flip.new.self } in
    let flipped : IsFlipReply can.1 (Flipped c.in-Ok-Flipped.number) (writer_of old) (writer_of new) =
    subst (λ (r : FlipReply). IsFlipReply can.1 r (writer_of old) c.checkpoint_flip.new.self) c.in-Ok-Flipped.field-0-is
    (c.in-Ok-Flipped.ensures.flipped can.0 can.1 can.4.writer) in (
      all_well past_of failures old new c.requires.all can refl refl (c.checkpoint_flip.ensures.writer can.0 can.1 can.4.writer)
          (omega (arith, flipped.0, flipped.1)) c.checkpoint_flip.ensures.later c.requires.sound c.in-Ok-Flipped.ensures.sound.1 c.in-Ok-Flipped.ensures.quiet,
      flipped.0,
      flip_current old new can.1 c.in-Ok-Flipped.number flipped (slots_are past_of old can)
          (open_now past_of old can c.requires.sound) c.requires.whole flipped.5.copying-is,
    )

pub returns-in-Err-clause-moves : goal.returns-in-Err-clause-moves
returns-in-Err-clause-moves g c =
    let past_of = g.D.Device.past_of in
    let failures = g.D.Device.failures in
    let old = c.args.self.now in
    let can = c.requires.runs in
    let new : EngineParts g.row.D.Denot g.row.A.Denot = record old { writer = c.checkpoint_flip.new.self } in
    moves_by past_of old new refl refl c.checkpoint_flip.ensures.writer c.checkpoint_flip.ensures.images (omega (arith, c.in-Err.ensures.kept))
    refl

pub returns-in-Err-clause-answer : goal.returns-in-Err-clause-answer
returns-in-Err-clause-answer g c =
    let past_of = g.D.Device.past_of in
    let failures = g.D.Device.failures in
    let old = c.args.self.now in
    let can = c.requires.runs in
    let new : EngineParts g.row.D.Denot g.row.A.Denot = record old { writer = c.checkpoint_flip.new.self } in
    copy_failed past_of failures old new c.requires.all can refl refl (c.checkpoint_flip.ensures.writer can.0 can.1 can.4.writer)
    (omega (arith, c.in-Err.ensures.kept)) c.checkpoint_flip.ensures.later c.in-Err.error c.requires.sound c.in-Err.ensures.err

pub returns-in-Ok-Flushed-clause-moves : goal.returns-in-Ok-Flushed-clause-moves
returns-in-Ok-Flushed-clause-moves g c =
    let past_of = g.D.Device.past_of in
    let failures = g.D.Device.failures in
    let old = c.args.self.now in
    let can = c.requires.runs in
    let mid : EngineParts g.row.D.Denot g.row.A.Denot = record old { writer = c.checkpoint_flip.new.self } in
    let behind : IsFlipReply can.1 Behind (writer_of old) (writer_of mid) =
    subst (λ (r : FlipReply). IsFlipReply can.1 r (writer_of old) c.checkpoint_flip.new.self) c.in-Ok-Behind.field-0-is
    (c.in-Ok-Behind.ensures.flipped can.0 can.1 can.4.writer) in
    let same : writer_of mid ≡ writer_of old = behind.0 in
    let level : horizon_of mid ≡ horizon_of old = ap (λ w. writer.synced_of w) same in
    let first : MovesOn past_of old mid = moves_by past_of old mid refl refl c.checkpoint_flip.ensures.writer c.checkpoint_flip.ensures.images
    (omega (arith, level)) refl in
    let sound : has_failed mid ≡ false = ap (λ w. writer.has_failed w) same ∙ c.requires.sound in
    let after : IsWriter past_of can.0 can.1 c.flush_group.new.self =
    c.flush_group.ensures.writer can.0 can.1 (c.checkpoint_flip.ensures.writer can.0 can.1 can.4.writer) in
    let counts = ap (λ w. failures (writer.device_of w)) same in
    let new : EngineParts g.row.D.Denot g.row.A.Denot = record mid { writer = c.flush_group.new.self } in
    let is : IsFlushReply (Flushed c.in-Ok-Flushed.field-0-0) (writer_of mid) (writer_of new) =
    subst (λ (f : FlushReply). IsFlushReply f (writer_of mid) c.flush_group.new.self) c.in-Ok-Flushed.field-0-is c.in-Ok-Flushed.ensures.flushed in
    let grows : horizon_of mid ≤ horizon_of new = omega (arith, is.0, is.1) in
    moves_then past_of old mid new first (moves_by past_of mid new refl refl c.flush_group.ensures.writer c.flush_group.ensures.images grows
    refl)

pub returns-in-Ok-Flushed-clause-flushed : goal.returns-in-Ok-Flushed-clause-flushed
returns-in-Ok-Flushed-clause-flushed g c =
    let past_of = g.D.Device.past_of in
    let failures = g.D.Device.failures in
    let old = c.args.self.now in
    let can = c.requires.runs in
    let mid : EngineParts g.row.D.Denot g.row.A.Denot = record old { writer = c.checkpoint_flip.new.self } in
    let behind : IsFlipReply can.1 Behind (writer_of old) (writer_of mid) =
    subst (λ (r : FlipReply). IsFlipReply can.1 r (writer_of old) c.checkpoint_flip.new.self) c.in-Ok-Behind.field-0-is
    (c.in-Ok-Behind.ensures.flipped can.0 can.1 can.4.writer) in
    let same : writer_of mid ≡ writer_of old = behind.0 in
    let level : horizon_of mid ≡ horizon_of old = ap (λ w. writer.synced_of w) same in
    let first : MovesOn past_of old mid = moves_by past_of old mid refl refl c.checkpoint_flip.ensures.writer c.checkpoint_flip.ensures.images
    (omega (arith, level)) refl in
    let sound : has_failed mid ≡ false = ap (λ w. writer.has_failed w) same ∙ c.requires.sound in
    let after : IsWriter past_of can.0 can.1 c.flush_group.new.self =
    c.flush_group.ensures.writer can.0 can.1 (c.checkpoint_flip.ensures.writer can.0 can.1 can.4.writer) in
    let counts = ap (λ w. failures (writer.device_of w)) same in
    let new : EngineParts g.row.D.Denot g.row.A.Denot = record mid { writer = c.flush_group.new.self } in
    let is : IsFlushReply (Flushed c.in-Ok-Flushed.field-0-0) (writer_of mid) (writer_of new) =
    subst (λ (f : FlushReply). IsFlushReply f (writer_of mid) c.flush_group.new.self) c.in-Ok-Flushed.field-0-is c.in-Ok-Flushed.ensures.flushed in
    let still : new.writer.copying ≡ Steps None = c.flush_group.ensures.copying ∙ ap (λ w. writer.copying_of w) same ∙ c.requires.whole in
    let grows : horizon_of mid ≤ horizon_of new = omega (arith, is.0, is.1) in
    record {
      well = all_well past_of failures old new c.requires.all can refl refl after (omega (arith, grows, level))
          (omega (arith, c.flush_group.ensures.later, counts)) c.requires.sound c.in-Ok-Flushed.ensures.sound.1 (c.in-Ok-Flushed.ensures.quiet ∙ counts);
      further = omega (arith, is.0, is.1, level);
      fewer = omega (
        arith,
        count_left past_of can.0 can.1 new after c.requires.all,
        count_left past_of can.0 can.1 old can.4.writer c.requires.all,
        is.0,
        is.1,
        level,
        after.reached,
      );
      all = c.requires.all;
      copying = still;
      could-not = may_not_flip past_of can.0 can.1 can.2 can.3 old can.4 c.requires.sound c.requires.all behind.1;
      flushed = (
        c.in-Ok-Flushed.field-0-0,
        (
          subst (λ w. IsFlushReply (Flushed c.in-Ok-Flushed.field-0-0) w (writer_of new)) same is,
          subst (λ w. BecomesImage (writer.halves_of w).geometry.slots (writer.synced_of w) (c.in-Ok-Flushed.field-0-0 - writer.synced_of w) (writer.image_of w)
              (writer.image_of (writer_of new))) same
              (c.flush_group.ensures.image c.in-Ok-Flushed.field-0-0 (c.in-Ok-Flushed.is ∙ ap Ok c.in-Ok-Flushed.field-0-is)),
        ),
      );
      halves = is.3.halves-are ∙ ap (λ w. writer.halves_of w) same;
      left = few_behind old new c.requires.whole still
          (two_to_flip past_of can.0 can.1 can.2 can.3 old can.4 c.requires.sound c.requires.all behind.1 c.requires.whole);
    }

pub returns-in-Ok-Nothing-clause-moves : goal.returns-in-Ok-Nothing-clause-moves
returns-in-Ok-Nothing-clause-moves g c =
    let past_of = g.D.Device.past_of in
    let failures = g.D.Device.failures in
    let old = c.args.self.now in
    let can = c.requires.runs in
    let mid : EngineParts g.row.D.Denot g.row.A.Denot = record old { writer = c.checkpoint_flip.new.self } in
    let behind : IsFlipReply can.1 Behind (writer_of old) (writer_of mid) =
    subst (λ (r : FlipReply). IsFlipReply can.1 r (writer_of old) c.checkpoint_flip.new.self) c.in-Ok-Behind.field-0-is
    (c.in-Ok-Behind.ensures.flipped can.0 can.1 can.4.writer) in
    let same : writer_of mid ≡ writer_of old = behind.0 in
    let level : horizon_of mid ≡ horizon_of old = ap (λ w. writer.synced_of w) same in
    let first : MovesOn past_of old mid = moves_by past_of old mid refl refl c.checkpoint_flip.ensures.writer c.checkpoint_flip.ensures.images
    (omega (arith, level)) refl in
    let sound : has_failed mid ≡ false = ap (λ w. writer.has_failed w) same ∙ c.requires.sound in
    let after : IsWriter past_of can.0 can.1 c.flush_group.new.self =
    c.flush_group.ensures.writer can.0 can.1 (c.checkpoint_flip.ensures.writer can.0 can.1 can.4.writer) in
    let counts = ap (λ w. failures (writer.device_of w)) same in
    let new : EngineParts g.row.D.Denot g.row.A.Denot = record mid { writer = c.give_up.new.self } in
    let is : IsFlushReply Nothing (writer_of mid) c.flush_group.new.self =
    subst (λ (f : FlushReply). IsFlushReply f (writer_of mid) c.flush_group.new.self) c.in-Ok-Nothing.field-0-is c.in-Ok-Nothing.ensures.flushed in
    let given : writer_of new ≡ writer.without_image GivenUp (writer_of mid) = c.give_up.ensures.gives_up ∙ ap (writer.without_image GivenUp) is.0 in
    moves_then past_of old mid new first (moves_by past_of mid new refl refl
    (λ run handed is. c.give_up.ensures.writer run handed (c.flush_group.ensures.writer run handed is))
    (λ run handed is. subst (λ w. LeavesOnly (past_of (device_of mid)) (past_of (writer.device_of w)) (LeftBy run (horizon_of mid) handed))
    (sym c.give_up.ensures.gives_up) (c.flush_group.ensures.images run handed is))
    (omega (arith, ap (λ w. writer.synced_of w) given)) refl)

pub returns-in-Ok-Nothing-clause-answer : goal.returns-in-Ok-Nothing-clause-answer
returns-in-Ok-Nothing-clause-answer g c =
    let past_of = g.D.Device.past_of in
    let failures = g.D.Device.failures in
    let old = c.args.self.now in
    let can = c.requires.runs in
    let mid : EngineParts g.row.D.Denot g.row.A.Denot = record old { writer = c.checkpoint_flip.new.self } in
    let behind : IsFlipReply can.1 Behind (writer_of old) (writer_of mid) =
    subst (λ (r : FlipReply). IsFlipReply can.1 r (writer_of old) c.checkpoint_flip.new.self) c.in-Ok-Behind.field-0-is
    (c.in-Ok-Behind.ensures.flipped can.0 can.1 can.4.writer) in
    let same : writer_of mid ≡ writer_of old = behind.0 in
    let level : horizon_of mid ≡ horizon_of old = ap (λ w. writer.synced_of w) same in
    let first : MovesOn past_of old mid = moves_by past_of old mid refl refl c.checkpoint_flip.ensures.writer c.checkpoint_flip.ensures.images
    (omega (arith, level)) refl in
    let sound : has_failed mid ≡ false = ap (λ w. writer.has_failed w) same ∙ c.requires.sound in
    let after : IsWriter past_of can.0 can.1 c.give_up.new.self =
    c.give_up.ensures.writer can.0 can.1 (c.flush_group.ensures.writer can.0 can.1 (c.checkpoint_flip.ensures.writer can.0 can.1 can.4.writer)) in
    let counts = ap (λ w. failures (writer.device_of w)) same in
    let new : EngineParts g.row.D.Denot g.row.A.Denot = record mid { writer = c.give_up.new.self } in
    let is : IsFlushReply Nothing (writer_of mid) c.flush_group.new.self =
    subst (λ (f : FlushReply). IsFlushReply f (writer_of mid) c.flush_group.new.self) c.in-Ok-Nothing.field-0-is c.in-Ok-Nothing.ensures.flushed in
    let given : writer_of new ≡ writer.without_image GivenUp (writer_of old) =
    c.give_up.ensures.gives_up ∙ ap (writer.without_image GivenUp) (is.0 ∙ same) in
    let none_left : new.writer.copying ≡ GivenUp = ap (λ w. writer.copying_of w) given in (
      all_well past_of failures old new c.requires.all can refl refl after (omega (arith, ap (λ w. writer.synced_of w) given))
          (omega (arith, ap (λ w. failures (writer.device_of w)) given)) c.requires.sound
          (ap (λ w. writer.has_failed w) given ∙ c.requires.sound) (ap (λ w. failures (writer.device_of w)) given),
      inr (cannot_flip old new c.requires.whole c.requires.all (record {
        cannot = may_not_flip past_of can.0 can.1 can.2 can.3 old can.4 c.requires.sound c.requires.all behind.1;
        no-group = inl (sym (ap (λ w. writer.waiting_of w) same) ∙ is.1);
        given-up = given;
      })),
      none_left,
      subst (λ n. n < copies_left old) (sym (one_left new none_left))
          (two_to_flip past_of can.0 can.1 can.2 can.3 old can.4 c.requires.sound c.requires.all behind.1 c.requires.whole),
    )

pub returns-in-Ok-LogFull-clause-moves : goal.returns-in-Ok-LogFull-clause-moves
returns-in-Ok-LogFull-clause-moves g c =
    let past_of = g.D.Device.past_of in
    let failures = g.D.Device.failures in
    let old = c.args.self.now in
    let can = c.requires.runs in
    let mid : EngineParts g.row.D.Denot g.row.A.Denot = record old { writer = c.checkpoint_flip.new.self } in
    let behind : IsFlipReply can.1 Behind (writer_of old) (writer_of mid) =
    subst (λ (r : FlipReply). IsFlipReply can.1 r (writer_of old) c.checkpoint_flip.new.self) c.in-Ok-Behind.field-0-is
    (c.in-Ok-Behind.ensures.flipped can.0 can.1 can.4.writer) in
    let same : writer_of mid ≡ writer_of old = behind.0 in
    let level : horizon_of mid ≡ horizon_of old = ap (λ w. writer.synced_of w) same in
    let first : MovesOn past_of old mid = moves_by past_of old mid refl refl c.checkpoint_flip.ensures.writer c.checkpoint_flip.ensures.images
    (omega (arith, level)) refl in
    let sound : has_failed mid ≡ false = ap (λ w. writer.has_failed w) same ∙ c.requires.sound in
    let after : IsWriter past_of can.0 can.1 c.flush_group.new.self =
    c.flush_group.ensures.writer can.0 can.1 (c.checkpoint_flip.ensures.writer can.0 can.1 can.4.writer) in
    let counts = ap (λ w. failures (writer.device_of w)) same in
    let new : EngineParts g.row.D.Denot g.row.A.Denot = record mid { writer = c.give_up-in-Ok-LogFull.new.self } in
    let is : IsFlushReply LogFull (writer_of mid) c.flush_group.new.self =
    subst (λ (f : FlushReply). IsFlushReply f (writer_of mid) c.flush_group.new.self) c.in-Ok-LogFull.field-0-is c.in-Ok-LogFull.ensures.flushed in
    let given : writer_of new ≡ writer.without_image GivenUp (writer_of mid) = c.give_up-in-Ok-LogFull.ensures.gives_up
    ∙ ap (writer.without_image GivenUp) is.0 in
    moves_then past_of old mid new first (moves_by past_of mid new refl refl
    (λ run handed is. c.give_up-in-Ok-LogFull.ensures.writer run handed (c.flush_group.ensures.writer run handed is))
    (λ run handed is. subst (λ w. LeavesOnly (past_of (device_of mid)) (past_of (writer.device_of w)) (LeftBy run (horizon_of mid) handed))
    (sym c.give_up-in-Ok-LogFull.ensures.gives_up) (c.flush_group.ensures.images run handed is))
    (omega (arith, ap (λ w. writer.synced_of w) given)) refl)

pub returns-in-Ok-LogFull-clause-answer : goal.returns-in-Ok-LogFull-clause-answer
returns-in-Ok-LogFull-clause-answer g c =
    let past_of = g.D.Device.past_of in
    let failures = g.D.Device.failures in
    let old = c.args.self.now in
    let can = c.requires.runs in
    let mid : EngineParts g.row.D.Denot g.row.A.Denot = record old { writer = c.checkpoint_flip.new.self } in
    let behind : IsFlipReply can.1 Behind (writer_of old) (writer_of mid) =
    subst (λ (r : FlipReply). IsFlipReply can.1 r (writer_of old) c.checkpoint_flip.new.self) c.in-Ok-Behind.field-0-is
    (c.in-Ok-Behind.ensures.flipped can.0 can.1 can.4.writer) in
    let same : writer_of mid ≡ writer_of old = behind.0 in
    let level : horizon_of mid ≡ horizon_of old = ap (λ w. writer.synced_of w) same in
    let first : MovesOn past_of old mid = moves_by past_of old mid refl refl c.checkpoint_flip.ensures.writer c.checkpoint_flip.ensures.images
    (omega (arith, level)) refl in
    let sound : has_failed mid ≡ false = ap (λ w. writer.has_failed w) same ∙ c.requires.sound in
    let after : IsWriter past_of can.0 can.1 c.give_up-in-Ok-LogFull.new.self =
    c.give_up-in-Ok-LogFull.ensures.writer can.0 can.1 (c.flush_group.ensures.writer can.0 can.1 (c.checkpoint_flip.ensures.writer can.0 can.1 can.4.writer)) in
    let counts = ap (λ w. failures (writer.device_of w)) same in
    let new : EngineParts g.row.D.Denot g.row.A.Denot = record mid { writer = c.give_up-in-Ok-LogFull.new.self } in
    let is : IsFlushReply LogFull (writer_of mid) c.flush_group.new.self =
    subst (λ (f : FlushReply). IsFlushReply f (writer_of mid) c.flush_group.new.self) c.in-Ok-LogFull.field-0-is c.in-Ok-LogFull.ensures.flushed in
    let given : writer_of new ≡ writer.without_image GivenUp (writer_of old) =
    c.give_up-in-Ok-LogFull.ensures.gives_up ∙ ap (writer.without_image GivenUp) (is.0 ∙ same) in
    let none_left : new.writer.copying ≡ GivenUp = ap (λ w. writer.copying_of w) given in (
      all_well past_of failures old new c.requires.all can refl refl after (omega (arith, ap (λ w. writer.synced_of w) given))
          (omega (arith, ap (λ w. failures (writer.device_of w)) given)) c.requires.sound
          (ap (λ w. writer.has_failed w) given ∙ c.requires.sound) (ap (λ w. failures (writer.device_of w)) given),
      inr (cannot_flip old new c.requires.whole c.requires.all (record {
        cannot = may_not_flip past_of can.0 can.1 can.2 can.3 old can.4 c.requires.sound c.requires.all behind.1;
        no-group = inr (subst (λ w. IsLogFull w) same is.1);
        given-up = given;
      })),
      none_left,
      subst (λ n. n < copies_left old) (sym (one_left new none_left))
          (two_to_flip past_of can.0 can.1 can.2 can.3 old can.4 c.requires.sound c.requires.all behind.1 c.requires.whole),
    )

pub returns-in-Err-flush_group-clause-moves : goal.returns-in-Err-flush_group-clause-moves
returns-in-Err-flush_group-clause-moves g c =
    let past_of = g.D.Device.past_of in
    let failures = g.D.Device.failures in
    let old = c.args.self.now in
    let can = c.requires.runs in
    let mid : EngineParts g.row.D.Denot g.row.A.Denot = record old { writer = c.checkpoint_flip.new.self } in
    let behind : IsFlipReply can.1 Behind (writer_of old) (writer_of mid) =
    subst (λ (r : FlipReply). IsFlipReply can.1 r (writer_of old) c.checkpoint_flip.new.self) c.in-Ok-Behind.field-0-is
    (c.in-Ok-Behind.ensures.flipped can.0 can.1 can.4.writer) in
    let same : writer_of mid ≡ writer_of old = behind.0 in
    let level : horizon_of mid ≡ horizon_of old = ap (λ w. writer.synced_of w) same in
    let first : MovesOn past_of old mid = moves_by past_of old mid refl refl c.checkpoint_flip.ensures.writer c.checkpoint_flip.ensures.images
    (omega (arith, level)) refl in
    let sound : has_failed mid ≡ false = ap (λ w. writer.has_failed w) same ∙ c.requires.sound in
    let after : IsWriter past_of can.0 can.1 c.flush_group.new.self =
    c.flush_group.ensures.writer can.0 can.1 (c.checkpoint_flip.ensures.writer can.0 can.1 can.4.writer) in
    let counts = ap (λ w. failures (writer.device_of w)) same in
    let new : EngineParts g.row.D.Denot g.row.A.Denot = record mid { writer = c.flush_group.new.self } in
    let kept : horizon_of new ≡ horizon_of mid = c.in-Err-flush_group.ensures.kept in
    moves_then past_of old mid new first (moves_by past_of mid new refl refl c.flush_group.ensures.writer c.flush_group.ensures.images (omega (arith, kept))
    refl)

pub returns-in-Err-flush_group-clause-answer : goal.returns-in-Err-flush_group-clause-answer
returns-in-Err-flush_group-clause-answer g c =
    let past_of = g.D.Device.past_of in
    let failures = g.D.Device.failures in
    let old = c.args.self.now in
    let can = c.requires.runs in
    let mid : EngineParts g.row.D.Denot g.row.A.Denot = record old { writer = c.checkpoint_flip.new.self } in
    let behind : IsFlipReply can.1 Behind (writer_of old) (writer_of mid) =
    subst (λ (r : FlipReply). IsFlipReply can.1 r (writer_of old) c.checkpoint_flip.new.self) c.in-Ok-Behind.field-0-is
    (c.in-Ok-Behind.ensures.flipped can.0 can.1 can.4.writer) in
    let same : writer_of mid ≡ writer_of old = behind.0 in
    let level : horizon_of mid ≡ horizon_of old = ap (λ w. writer.synced_of w) same in
    let first : MovesOn past_of old mid = moves_by past_of old mid refl refl c.checkpoint_flip.ensures.writer c.checkpoint_flip.ensures.images
    (omega (arith, level)) refl in
    let sound : has_failed mid ≡ false = ap (λ w. writer.has_failed w) same ∙ c.requires.sound in
    let after : IsWriter past_of can.0 can.1 c.flush_group.new.self =
    c.flush_group.ensures.writer can.0 can.1 (c.checkpoint_flip.ensures.writer can.0 can.1 can.4.writer) in
    let counts = ap (λ w. failures (writer.device_of w)) same in
    let new : EngineParts g.row.D.Denot g.row.A.Denot = record mid { writer = c.flush_group.new.self } in
    let kept : horizon_of new ≡ horizon_of mid = c.in-Err-flush_group.ensures.kept in
    ⊎_elim
    (λ none. inl (
      none.0,
      put_off_as failures old new (all_well past_of failures old new c.requires.all can refl refl after (omega (arith, kept, level))
          (omega (arith, c.flush_group.ensures.later, counts)) c.requires.sound (ap (λ w. writer.has_failed w) none.4
          ∙ sound) (ap (λ w. failures (writer.device_of w)) none.4 ∙ counts))
          (none.4 ∙ same) refl refl
          (inr (inr (
            (λ may. may_not_flip past_of can.0 can.1 can.2 can.3 old can.4 c.requires.sound c.requires.all behind.1
                (subst (λ w. MayFlip w) (none.4 ∙ same) may)),
            (λ gone. none.2 (sym (ap (λ w. writer.waiting_of w) none.4)
                ∙ sym (ap (λ (l : List RecordValue). writer.waiting_of (writer_of new) ++ l) c.requires.all ∙ append-nil (writer.waiting_of (writer_of new)))
                ∙ gone)),
            (λ full. none.3 (subst (λ w. IsLogFull w) none.4 full)),
          ))),
    ))
    (λ failed. failed_later past_of failures old mid new c.requires.all can refl refl after (omega (arith, kept, level))
    (omega (arith, c.flush_group.ensures.later, counts)) c.in-Err-flush_group.error c.requires.sound sound counts (
      failed.0,
      failed.1,
      (λ before. (failed.2 before).1),
      failed.3,
    ))
    c.in-Err-flush_group.ensures.err

pub returns-in-Ok-Flipped-clause-around : goal.returns-in-Ok-Flipped-clause-around
returns-in-Ok-Flipped-clause-around g c = let old = c.args.self.now in
    flip_copied g.D.Device.past_of (copying_of old) (writer.halves_of (writer_of old)) (device_of old)
    (writer.device_of c.checkpoint_flip.new.self) c.checkpoint_flip.ensures.around

pub returns-in-Err-clause-around : goal.returns-in-Err-clause-around
returns-in-Err-clause-around g c = let old = c.args.self.now in
    flip_copied g.D.Device.past_of (copying_of old) (writer.halves_of (writer_of old)) (device_of old)
    (writer.device_of c.checkpoint_flip.new.self) c.checkpoint_flip.ensures.around

pub returns-in-Ok-Flushed-clause-around : goal.returns-in-Ok-Flushed-clause-around
returns-in-Ok-Flushed-clause-around g c =
    let past_of = g.D.Device.past_of in
    let old = c.args.self.now in
    let can = c.requires.runs in
    let behind : IsFlipReply can.1 Behind (writer_of old) c.checkpoint_flip.new.self =
    subst (λ (r : FlipReply). IsFlipReply can.1 r (writer_of old) c.checkpoint_flip.new.self) c.in-Ok-Behind.field-0-is
    (c.in-Ok-Behind.ensures.flipped can.0 can.1 can.4.writer) in
    logs_copied past_of (writer_of old) c.flush_group.new.self c.requires.whole
    (subst (λ w. WritesLogsAlone past_of w c.flush_group.new.self) behind.0 c.flush_group.ensures.around)

pub returns-in-Ok-Nothing-clause-around : goal.returns-in-Ok-Nothing-clause-around
returns-in-Ok-Nothing-clause-around g c =
    let past_of = g.D.Device.past_of in
    let old = c.args.self.now in
    let can = c.requires.runs in
    let behind : IsFlipReply can.1 Behind (writer_of old) c.checkpoint_flip.new.self =
    subst (λ (r : FlipReply). IsFlipReply can.1 r (writer_of old) c.checkpoint_flip.new.self) c.in-Ok-Behind.field-0-is
    (c.in-Ok-Behind.ensures.flipped can.0 can.1 can.4.writer) in
    subst (λ w. WritesOnly past_of (InCopy (copying_of old) (writer.halves_of (writer_of old))) (device_of old) (writer.device_of w))
    (sym c.give_up.ensures.gives_up)
    (logs_copied past_of (writer_of old) c.flush_group.new.self c.requires.whole
    (subst (λ w. WritesLogsAlone past_of w c.flush_group.new.self) behind.0 c.flush_group.ensures.around))

pub returns-in-Ok-LogFull-clause-around : goal.returns-in-Ok-LogFull-clause-around
returns-in-Ok-LogFull-clause-around g c =
    let past_of = g.D.Device.past_of in
    let old = c.args.self.now in
    let can = c.requires.runs in
    let behind : IsFlipReply can.1 Behind (writer_of old) c.checkpoint_flip.new.self =
    subst (λ (r : FlipReply). IsFlipReply can.1 r (writer_of old) c.checkpoint_flip.new.self) c.in-Ok-Behind.field-0-is
    (c.in-Ok-Behind.ensures.flipped can.0 can.1 can.4.writer) in
    subst (λ w. WritesOnly past_of (InCopy (copying_of old) (writer.halves_of (writer_of old))) (device_of old) (writer.device_of w))
    (sym c.give_up-in-Ok-LogFull.ensures.gives_up)
    (logs_copied past_of (writer_of old) c.flush_group.new.self c.requires.whole
    (subst (λ w. WritesLogsAlone past_of w c.flush_group.new.self) behind.0 c.flush_group.ensures.around))

pub returns-in-Err-flush_group-clause-around : goal.returns-in-Err-flush_group-clause-around
returns-in-Err-flush_group-clause-around g c =
    let past_of = g.D.Device.past_of in
    let old = c.args.self.now in
    let can = c.requires.runs in
    let behind : IsFlipReply can.1 Behind (writer_of old) c.checkpoint_flip.new.self =
    subst (λ (r : FlipReply). IsFlipReply can.1 r (writer_of old) c.checkpoint_flip.new.self) c.in-Ok-Behind.field-0-is
    (c.in-Ok-Behind.ensures.flipped can.0 can.1 can.4.writer) in
    logs_copied past_of (writer_of old) c.flush_group.new.self c.requires.whole
    (subst (λ w. WritesLogsAlone past_of w c.flush_group.new.self) behind.0 c.flush_group.ensures.around)

pub returns-in-Ok-Flipped-clause-groups : goal.returns-in-Ok-Flipped-clause-groups
returns-in-Ok-Flipped-clause-groups g c =
    let old = c.args.self.now in
    let can = c.requires.runs in
    let flipped : IsFlipReply can.1 (Flipped c.in-Ok-Flipped.number) (writer_of old) c.checkpoint_flip.new.self =
    subst (λ (r : FlipReply). IsFlipReply can.1 r (writer_of old) c.checkpoint_flip.new.self) c.in-Ok-Flipped.field-0-is
    (c.in-Ok-Flipped.ensures.flipped can.0 can.1 can.4.writer) in
    at_once can.1 c.in-Ok-Flipped.number (writer_of old) c.checkpoint_flip.new.self flipped

pub returns-in-Err-clause-groups : goal.returns-in-Err-clause-groups
returns-in-Err-clause-groups g c =
    by_failure c.in-Err.error (writer_of c.args.self.now) c.checkpoint_flip.new.self c.in-Err.ensures.err.0 c.in-Err.ensures.err.1 c.in-Err.ensures.kept

pub returns-in-Ok-Nothing-clause-groups : goal.returns-in-Ok-Nothing-clause-groups
returns-in-Ok-Nothing-clause-groups g c =
    let old = c.args.self.now in
    let can = c.requires.runs in
    let behind : IsFlipReply can.1 Behind (writer_of old) c.checkpoint_flip.new.self =
    subst (λ (r : FlipReply). IsFlipReply can.1 r (writer_of old) c.checkpoint_flip.new.self) c.in-Ok-Behind.field-0-is
    (c.in-Ok-Behind.ensures.flipped can.0 can.1 can.4.writer) in
    let is : IsFlushReply Nothing c.checkpoint_flip.new.self c.flush_group.new.self =
    subst (λ (f : FlushReply). IsFlushReply f c.checkpoint_flip.new.self c.flush_group.new.self) c.in-Ok-Nothing.field-0-is c.in-Ok-Nothing.ensures.flushed
    in
    by_giving_up (writer_of old) c.give_up.new.self (record {
      cannot = may_not_flip g.D.Device.past_of can.0 can.1 can.2 can.3 old can.4 c.requires.sound c.requires.all behind.1;
      no-group = inl (sym (ap (λ w. writer.waiting_of w) behind.0) ∙ is.1);
      given-up = c.give_up.ensures.gives_up ∙ ap (writer.without_image GivenUp) (is.0 ∙ behind.0);
    })

pub returns-in-Ok-LogFull-clause-groups : goal.returns-in-Ok-LogFull-clause-groups
returns-in-Ok-LogFull-clause-groups g c =
    let old = c.args.self.now in
    let can = c.requires.runs in
    let behind : IsFlipReply can.1 Behind (writer_of old) c.checkpoint_flip.new.self =
    subst (λ (r : FlipReply). IsFlipReply can.1 r (writer_of old) c.checkpoint_flip.new.self) c.in-Ok-Behind.field-0-is
    (c.in-Ok-Behind.ensures.flipped can.0 can.1 can.4.writer) in
    let is : IsFlushReply LogFull c.checkpoint_flip.new.self c.flush_group.new.self =
    subst (λ (f : FlushReply). IsFlushReply f c.checkpoint_flip.new.self c.flush_group.new.self) c.in-Ok-LogFull.field-0-is c.in-Ok-LogFull.ensures.flushed
    in
    by_giving_up (writer_of old) c.give_up-in-Ok-LogFull.new.self (record {
      cannot = may_not_flip g.D.Device.past_of can.0 can.1 can.2 can.3 old can.4 c.requires.sound c.requires.all behind.1;
      no-group = inr (subst (λ w. IsLogFull w) behind.0 is.1);
      given-up = c.give_up-in-Ok-LogFull.ensures.gives_up ∙ ap (writer.without_image GivenUp) (is.0 ∙ behind.0);
    })

pub returns-in-Err-flush_group-clause-groups : goal.returns-in-Err-flush_group-clause-groups
returns-in-Err-flush_group-clause-groups g c =
    let old = c.args.self.now in
    let can = c.requires.runs in
    let behind : IsFlipReply can.1 Behind (writer_of old) c.checkpoint_flip.new.self =
    subst (λ (r : FlipReply). IsFlipReply can.1 r (writer_of old) c.checkpoint_flip.new.self) c.in-Ok-Behind.field-0-is
    (c.in-Ok-Behind.ensures.flipped can.0 can.1 can.4.writer) in
    ⊎_elim
    (λ none. by_none c.in-Err-flush_group.error (writer_of old) c.flush_group.new.self none.0 (none.4 ∙ behind.0))
    (λ failed. by_failure c.in-Err-flush_group.error (writer_of old) c.flush_group.new.self failed.0 failed.1
    (c.in-Err-flush_group.ensures.kept ∙ ap (λ w. writer.synced_of w) behind.0))
    c.in-Err-flush_group.ensures.err

pub returns-in-Ok-Flushed-clause-answer : goal.returns-in-Ok-Flushed-clause-answer
returns-in-Ok-Flushed-clause-answer g c = tt

pub returns-in-Ok-Flushed-clause-groups : goal.returns-in-Ok-Flushed-clause-groups
returns-in-Ok-Flushed-clause-groups g c = tt

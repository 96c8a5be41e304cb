use Rattle.std.proofs.Common.{[], Ok, ◌≡◌, ◌≤◌, false, refl, sym, ap, arith, subst, ◌∙◌}
use Rattle.std.proofs.lemmas.Bool.{false≢true}
use Rattle.store_writer.specs.Parts as writer
use Rattle.store_writer.specs.Writer.{IsFlushReply}
use Rattle.store_writer.specs.declared.writer.FlushReply.{FlushReply}
use Rattle.store_writer.specs.declared.writer.FlushReply.TheVariants as flush
use Rattle.record_values.specs.declared.error.Error.TheVariants.{DeviceFailed, NoMemory}
use Rattle.restart.specs.declared.event.Event.TheVariants.{Flush}
use Rattle.restart.specs.declared.event.Reply.TheVariants.{Horizon, LogFull, Refused}
use Rattle.restart.specs.declared.parts.EngineParts.{EngineParts}
use Rattle.restart.specs.Parts.{has_failed, horizon_of, unhanded, writer_of}
use Rattle.store_writer.proofs.Around.{then_around}
use Rattle.restart.proofs.Around.{around_hand_over, around_none, slots_none, slots_over, slots_then}
use Rattle.restart.proofs.Flushing.{failed_before, flushed, log_full, moves, none_to_flush, not_flushed, not_over, stays}
use Rattle.restart.proofs.Moving.{can_run_on, serves_by}
use Rattle.restart.proofs.parts.EngineParts.flush.Goals as goal

pub returns-then-has_failed-clause-serves : goal.returns-then-has_failed-clause-serves
returns-then-has_failed-clause-serves g c =
    let past_of = g.D.Device.past_of in
    let failures = g.D.Device.failures in
    let old = c.args.self.now in
    serves_by past_of old old Flush (Refused DeviceFailed) (stays past_of failures old) refl tt (λ n le. le)

pub returns-then-has_failed-clause-answer : goal.returns-then-has_failed-clause-answer
returns-then-has_failed-clause-answer g c =
    let past_of = g.D.Device.past_of in
    let failures = g.D.Device.failures in
    let old = c.args.self.now in
    failed_before past_of failures old (sym c.has_failed.ensures ∙ c.if-has_failed.true)

pub returns-then-has_failed-clause-can_run : goal.returns-then-has_failed-clause-can_run
returns-then-has_failed-clause-can_run g c =
    c.requires

pub returns-then-not-hand_over-clause-serves : goal.returns-then-not-hand_over-clause-serves
returns-then-not-hand_over-clause-serves g c =
    let past_of = g.D.Device.past_of in
    let failures = g.D.Device.failures in
    let old = c.args.self.now in
    let mid = c.hand_over.new.self in
    let over = c.hand_over.ensures.hands in
    serves_by past_of old mid Flush (Refused NoMemory) over.moves refl tt (λ n le. le)

pub returns-then-not-hand_over-clause-answer : goal.returns-then-not-hand_over-clause-answer
returns-then-not-hand_over-clause-answer g c =
    let past_of = g.D.Device.past_of in
    let failures = g.D.Device.failures in
    let old = c.args.self.now in
    let sound : has_failed old ≡ false = sym c.has_failed.ensures ∙ c.if-has_failed.false in
    let mid = c.hand_over.new.self in
    let over = c.hand_over.ensures.hands in
    not_over past_of failures old mid over sound (λ none. absurd (false≢true (sym c.if-not-hand_over.true ∙ c.hand_over.ensures.all.1 none)))

pub returns-then-not-hand_over-clause-can_run : goal.returns-then-not-hand_over-clause-can_run
returns-then-not-hand_over-clause-can_run g c =
    let past_of = g.D.Device.past_of in
    let failures = g.D.Device.failures in
    let old = c.args.self.now in
    let mid = c.hand_over.new.self in
    let over = c.hand_over.ensures.hands in
    can_run_on past_of old mid over.moves c.requires

pub returns-in-Ok-Flushed-clause-serves : goal.returns-in-Ok-Flushed-clause-serves
returns-in-Ok-Flushed-clause-serves g c =
    let past_of = g.D.Device.past_of in
    let failures = g.D.Device.failures in
    let old = c.args.self.now in
    let sound : has_failed old ≡ false = sym c.has_failed.ensures ∙ c.if-has_failed.false in
    let mid = c.hand_over.new.self in
    let over = c.hand_over.ensures.hands in
    let new : EngineParts g.row.D.Denot g.row.A.Denot = record mid { writer = c.flush_group.new.self } in
    let all : unhanded mid ≡ [] = c.hand_over.ensures.all.0 c.if-not-hand_over.false in
    let can = can_run_on past_of old mid over.moves c.requires in
    let is : IsFlushReply (flush.Flushed c.in-Ok-Flushed.number) (writer_of mid) (writer_of new) =
    subst (λ (f : FlushReply). IsFlushReply f (writer_of mid) c.flush_group.new.self) c.in-Ok-Flushed.field-0-is c.in-Ok-Flushed.ensures.flushed in
    let grows : horizon_of mid ≤ horizon_of new = omega (arith, is.0, is.1) in
    serves_by past_of old new Flush (Horizon c.in-Ok-Flushed.number)
    (moves past_of failures old mid over new all sound refl refl c.flush_group.ensures.copying can c.flush_group.ensures.writer c.flush_group.ensures.images
    c.flush_group.ensures.later refl grows) refl
    tt (λ n le. omega (arith, le, is.0))

pub returns-in-Ok-Flushed-clause-answer : goal.returns-in-Ok-Flushed-clause-answer
returns-in-Ok-Flushed-clause-answer g c =
    let past_of = g.D.Device.past_of in
    let failures = g.D.Device.failures in
    let old = c.args.self.now in
    let sound : has_failed old ≡ false = sym c.has_failed.ensures ∙ c.if-has_failed.false in
    let mid = c.hand_over.new.self in
    let over = c.hand_over.ensures.hands in
    let new : EngineParts g.row.D.Denot g.row.A.Denot = record mid { writer = c.flush_group.new.self } in
    let all : unhanded mid ≡ [] = c.hand_over.ensures.all.0 c.if-not-hand_over.false in
    let can = can_run_on past_of old mid over.moves c.requires in
    let is : IsFlushReply (flush.Flushed c.in-Ok-Flushed.number) (writer_of mid) (writer_of new) =
    subst (λ (f : FlushReply). IsFlushReply f (writer_of mid) c.flush_group.new.self) c.in-Ok-Flushed.field-0-is c.in-Ok-Flushed.ensures.flushed in
    flushed past_of failures old mid over new all sound refl refl c.flush_group.ensures.copying can c.flush_group.ensures.writer c.flush_group.ensures.images
    c.flush_group.ensures.later
    refl c.in-Ok-Flushed.number is
    (c.flush_group.ensures.image c.in-Ok-Flushed.number (c.in-Ok-Flushed.is ∙ ap Ok c.in-Ok-Flushed.field-0-is)) c.in-Ok-Flushed.ensures.sound.1
    c.in-Ok-Flushed.ensures.quiet

pub returns-in-Ok-Flushed-clause-can_run : goal.returns-in-Ok-Flushed-clause-can_run
returns-in-Ok-Flushed-clause-can_run g c =
    let past_of = g.D.Device.past_of in
    let failures = g.D.Device.failures in
    let old = c.args.self.now in
    let sound : has_failed old ≡ false = sym c.has_failed.ensures ∙ c.if-has_failed.false in
    let mid = c.hand_over.new.self in
    let over = c.hand_over.ensures.hands in
    let new : EngineParts g.row.D.Denot g.row.A.Denot = record mid { writer = c.flush_group.new.self } in
    let all : unhanded mid ≡ [] = c.hand_over.ensures.all.0 c.if-not-hand_over.false in
    let can = can_run_on past_of old mid over.moves c.requires in
    let is : IsFlushReply (flush.Flushed c.in-Ok-Flushed.number) (writer_of mid) (writer_of new) =
    subst (λ (f : FlushReply). IsFlushReply f (writer_of mid) c.flush_group.new.self) c.in-Ok-Flushed.field-0-is c.in-Ok-Flushed.ensures.flushed in
    let grows : horizon_of mid ≤ horizon_of new = omega (arith, is.0, is.1) in
    can_run_on past_of old new (moves past_of failures old mid over new all sound refl refl c.flush_group.ensures.copying can c.flush_group.ensures.writer
    c.flush_group.ensures.images
    c.flush_group.ensures.later refl grows)
    c.requires

pub returns-in-Ok-Nothing-clause-serves : goal.returns-in-Ok-Nothing-clause-serves
returns-in-Ok-Nothing-clause-serves g c =
    let past_of = g.D.Device.past_of in
    let failures = g.D.Device.failures in
    let old = c.args.self.now in
    let sound : has_failed old ≡ false = sym c.has_failed.ensures ∙ c.if-has_failed.false in
    let mid = c.hand_over.new.self in
    let over = c.hand_over.ensures.hands in
    let new : EngineParts g.row.D.Denot g.row.A.Denot = record mid { writer = c.flush_group.new.self } in
    let all : unhanded mid ≡ [] = c.hand_over.ensures.all.0 c.if-not-hand_over.false in
    let can = can_run_on past_of old mid over.moves c.requires in
    let is : IsFlushReply (flush.Nothing) (writer_of mid) (writer_of new) =
    subst (λ (f : FlushReply). IsFlushReply f (writer_of mid) c.flush_group.new.self) c.in-Ok-Nothing.field-0-is c.in-Ok-Nothing.ensures.flushed in
    let grows : horizon_of mid ≤ horizon_of new = omega (arith, ap (λ w. writer.synced_of w) is.0) in
    serves_by past_of old new Flush (Horizon c.synced.result)
    (moves past_of failures old mid over new all sound refl refl c.flush_group.ensures.copying can c.flush_group.ensures.writer c.flush_group.ensures.images
    c.flush_group.ensures.later refl grows) refl tt (λ n le. omega (arith, le, c.synced.ensures))

pub returns-in-Ok-Nothing-clause-answer : goal.returns-in-Ok-Nothing-clause-answer
returns-in-Ok-Nothing-clause-answer g c =
    let past_of = g.D.Device.past_of in
    let failures = g.D.Device.failures in
    let old = c.args.self.now in
    let sound : has_failed old ≡ false = sym c.has_failed.ensures ∙ c.if-has_failed.false in
    let mid = c.hand_over.new.self in
    let over = c.hand_over.ensures.hands in
    let new : EngineParts g.row.D.Denot g.row.A.Denot = record mid { writer = c.flush_group.new.self } in
    let all : unhanded mid ≡ [] = c.hand_over.ensures.all.0 c.if-not-hand_over.false in
    let can = can_run_on past_of old mid over.moves c.requires in
    let is : IsFlushReply (flush.Nothing) (writer_of mid) (writer_of new) =
    subst (λ (f : FlushReply). IsFlushReply f (writer_of mid) c.flush_group.new.self) c.in-Ok-Nothing.field-0-is c.in-Ok-Nothing.ensures.flushed in
    none_to_flush past_of failures old mid over new all sound refl refl c.flush_group.ensures.copying can c.flush_group.ensures.writer
    c.flush_group.ensures.images
    c.flush_group.ensures.later refl c.synced.result c.synced.ensures is c.in-Ok-Nothing.ensures.sound.1
    c.in-Ok-Nothing.ensures.quiet

pub returns-in-Ok-Nothing-clause-can_run : goal.returns-in-Ok-Nothing-clause-can_run
returns-in-Ok-Nothing-clause-can_run g c =
    let past_of = g.D.Device.past_of in
    let failures = g.D.Device.failures in
    let old = c.args.self.now in
    let sound : has_failed old ≡ false = sym c.has_failed.ensures ∙ c.if-has_failed.false in
    let mid = c.hand_over.new.self in
    let over = c.hand_over.ensures.hands in
    let new : EngineParts g.row.D.Denot g.row.A.Denot = record mid { writer = c.flush_group.new.self } in
    let all : unhanded mid ≡ [] = c.hand_over.ensures.all.0 c.if-not-hand_over.false in
    let can = can_run_on past_of old mid over.moves c.requires in
    let is : IsFlushReply (flush.Nothing) (writer_of mid) (writer_of new) =
    subst (λ (f : FlushReply). IsFlushReply f (writer_of mid) c.flush_group.new.self) c.in-Ok-Nothing.field-0-is c.in-Ok-Nothing.ensures.flushed in
    let grows : horizon_of mid ≤ horizon_of new = omega (arith, ap (λ w. writer.synced_of w) is.0) in
    can_run_on past_of old new (moves past_of failures old mid over new all sound refl refl c.flush_group.ensures.copying can c.flush_group.ensures.writer
    c.flush_group.ensures.images
    c.flush_group.ensures.later refl grows) c.requires

pub returns-in-Ok-LogFull-clause-serves : goal.returns-in-Ok-LogFull-clause-serves
returns-in-Ok-LogFull-clause-serves g c =
    let past_of = g.D.Device.past_of in
    let failures = g.D.Device.failures in
    let old = c.args.self.now in
    let sound : has_failed old ≡ false = sym c.has_failed.ensures ∙ c.if-has_failed.false in
    let mid = c.hand_over.new.self in
    let over = c.hand_over.ensures.hands in
    let new : EngineParts g.row.D.Denot g.row.A.Denot = record mid { writer = c.flush_group.new.self } in
    let all : unhanded mid ≡ [] = c.hand_over.ensures.all.0 c.if-not-hand_over.false in
    let can = can_run_on past_of old mid over.moves c.requires in
    let is : IsFlushReply (flush.LogFull) (writer_of mid) (writer_of new) =
    subst (λ (f : FlushReply). IsFlushReply f (writer_of mid) c.flush_group.new.self) c.in-Ok-LogFull.field-0-is c.in-Ok-LogFull.ensures.flushed in
    let grows : horizon_of mid ≤ horizon_of new = omega (arith, ap (λ w. writer.synced_of w) is.0) in
    serves_by past_of old new Flush (LogFull)
    (moves past_of failures old mid over new all sound refl refl c.flush_group.ensures.copying can c.flush_group.ensures.writer c.flush_group.ensures.images
    c.flush_group.ensures.later refl grows) refl tt (λ n le. le)

pub returns-in-Ok-LogFull-clause-answer : goal.returns-in-Ok-LogFull-clause-answer
returns-in-Ok-LogFull-clause-answer g c =
    let past_of = g.D.Device.past_of in
    let failures = g.D.Device.failures in
    let old = c.args.self.now in
    let sound : has_failed old ≡ false = sym c.has_failed.ensures ∙ c.if-has_failed.false in
    let mid = c.hand_over.new.self in
    let over = c.hand_over.ensures.hands in
    let new : EngineParts g.row.D.Denot g.row.A.Denot = record mid { writer = c.flush_group.new.self } in
    let all : unhanded mid ≡ [] = c.hand_over.ensures.all.0 c.if-not-hand_over.false in
    let can = can_run_on past_of old mid over.moves c.requires in
    let is : IsFlushReply (flush.LogFull) (writer_of mid) (writer_of new) =
    subst (λ (f : FlushReply). IsFlushReply f (writer_of mid) c.flush_group.new.self) c.in-Ok-LogFull.field-0-is c.in-Ok-LogFull.ensures.flushed in
    log_full past_of failures old mid over new all sound refl refl c.flush_group.ensures.copying can c.flush_group.ensures.writer c.flush_group.ensures.images
    c.flush_group.ensures.later refl is c.in-Ok-LogFull.ensures.sound.1

pub returns-in-Ok-LogFull-clause-can_run : goal.returns-in-Ok-LogFull-clause-can_run
returns-in-Ok-LogFull-clause-can_run g c =
    let past_of = g.D.Device.past_of in
    let failures = g.D.Device.failures in
    let old = c.args.self.now in
    let sound : has_failed old ≡ false = sym c.has_failed.ensures ∙ c.if-has_failed.false in
    let mid = c.hand_over.new.self in
    let over = c.hand_over.ensures.hands in
    let new : EngineParts g.row.D.Denot g.row.A.Denot = record mid { writer = c.flush_group.new.self } in
    let all : unhanded mid ≡ [] = c.hand_over.ensures.all.0 c.if-not-hand_over.false in
    let can = can_run_on past_of old mid over.moves c.requires in
    let is : IsFlushReply (flush.LogFull) (writer_of mid) (writer_of new) =
    subst (λ (f : FlushReply). IsFlushReply f (writer_of mid) c.flush_group.new.self) c.in-Ok-LogFull.field-0-is c.in-Ok-LogFull.ensures.flushed in
    let grows : horizon_of mid ≤ horizon_of new = omega (arith, ap (λ w. writer.synced_of w) is.0) in
    can_run_on past_of old new (moves past_of failures old mid over new all sound refl refl c.flush_group.ensures.copying can c.flush_group.ensures.writer
    c.flush_group.ensures.images
    c.flush_group.ensures.later refl grows) c.requires

pub returns-in-Err-clause-serves : goal.returns-in-Err-clause-serves
returns-in-Err-clause-serves g c =
    let past_of = g.D.Device.past_of in
    let failures = g.D.Device.failures in
    let old = c.args.self.now in
    let sound : has_failed old ≡ false = sym c.has_failed.ensures ∙ c.if-has_failed.false in
    let mid = c.hand_over.new.self in
    let over = c.hand_over.ensures.hands in
    let new : EngineParts g.row.D.Denot g.row.A.Denot = record mid { writer = c.flush_group.new.self } in
    let all : unhanded mid ≡ [] = c.hand_over.ensures.all.0 c.if-not-hand_over.false in
    let can = can_run_on past_of old mid over.moves c.requires in
    let kept : horizon_of new ≡ horizon_of mid = c.in-Err.ensures.kept in
    let grows : horizon_of mid ≤ horizon_of new = omega (arith, kept) in
    serves_by past_of old new Flush (Refused c.in-Err.error)
    (moves past_of failures old mid over new all sound refl refl c.flush_group.ensures.copying can c.flush_group.ensures.writer c.flush_group.ensures.images
    c.flush_group.ensures.later refl grows) refl tt (λ n le. le)

pub returns-in-Err-clause-answer : goal.returns-in-Err-clause-answer
returns-in-Err-clause-answer g c =
    let past_of = g.D.Device.past_of in
    let failures = g.D.Device.failures in
    let old = c.args.self.now in
    let sound : has_failed old ≡ false = sym c.has_failed.ensures ∙ c.if-has_failed.false in
    let mid = c.hand_over.new.self in
    let over = c.hand_over.ensures.hands in
    let new : EngineParts g.row.D.Denot g.row.A.Denot = record mid { writer = c.flush_group.new.self } in
    let all : unhanded mid ≡ [] = c.hand_over.ensures.all.0 c.if-not-hand_over.false in
    let can = can_run_on past_of old mid over.moves c.requires in
    let kept : horizon_of new ≡ horizon_of mid = c.in-Err.ensures.kept in
    let grows : horizon_of mid ≤ horizon_of new = omega (arith, kept) in
    not_flushed past_of failures old mid over new all sound refl refl c.flush_group.ensures.copying can c.flush_group.ensures.writer
    c.flush_group.ensures.images
    c.flush_group.ensures.later refl c.in-Err.error c.in-Err.ensures.err kept c.in-Err.ensures.left

pub returns-in-Err-clause-can_run : goal.returns-in-Err-clause-can_run
returns-in-Err-clause-can_run g c =
    let past_of = g.D.Device.past_of in
    let failures = g.D.Device.failures in
    let old = c.args.self.now in
    let sound : has_failed old ≡ false = sym c.has_failed.ensures ∙ c.if-has_failed.false in
    let mid = c.hand_over.new.self in
    let over = c.hand_over.ensures.hands in
    let new : EngineParts g.row.D.Denot g.row.A.Denot = record mid { writer = c.flush_group.new.self } in
    let all : unhanded mid ≡ [] = c.hand_over.ensures.all.0 c.if-not-hand_over.false in
    let can = can_run_on past_of old mid over.moves c.requires in
    let kept : horizon_of new ≡ horizon_of mid = c.in-Err.ensures.kept in
    let grows : horizon_of mid ≤ horizon_of new = omega (arith, kept) in
    can_run_on past_of old new (moves past_of failures old mid over new all sound refl refl c.flush_group.ensures.copying can c.flush_group.ensures.writer
    c.flush_group.ensures.images
    c.flush_group.ensures.later refl grows) c.requires

pub returns-then-has_failed-clause-around : goal.returns-then-has_failed-clause-around
returns-then-has_failed-clause-around g c = around_none g.D.Device.past_of c.args.self.now c.args.self.now

pub returns-then-not-hand_over-clause-around : goal.returns-then-not-hand_over-clause-around
returns-then-not-hand_over-clause-around g c = around_hand_over g.D.Device.past_of c.args.self.now c.hand_over.new.self c.hand_over.ensures.hands

pub returns-in-Ok-Flushed-clause-around : goal.returns-in-Ok-Flushed-clause-around
returns-in-Ok-Flushed-clause-around g c =
    let past_of = g.D.Device.past_of in
    let old = c.args.self.now in
    let mid = c.hand_over.new.self in
    then_around past_of (writer_of old) (writer_of mid) c.flush_group.new.self
    (around_hand_over past_of old mid c.hand_over.ensures.hands) c.flush_group.ensures.around

pub returns-in-Ok-Nothing-clause-around : goal.returns-in-Ok-Nothing-clause-around
returns-in-Ok-Nothing-clause-around g c =
    let past_of = g.D.Device.past_of in
    let old = c.args.self.now in
    let mid = c.hand_over.new.self in
    then_around past_of (writer_of old) (writer_of mid) c.flush_group.new.self
    (around_hand_over past_of old mid c.hand_over.ensures.hands) c.flush_group.ensures.around

pub returns-in-Ok-LogFull-clause-around : goal.returns-in-Ok-LogFull-clause-around
returns-in-Ok-LogFull-clause-around g c =
    let past_of = g.D.Device.past_of in
    let old = c.args.self.now in
    let mid = c.hand_over.new.self in
    then_around past_of (writer_of old) (writer_of mid) c.flush_group.new.self
    (around_hand_over past_of old mid c.hand_over.ensures.hands) c.flush_group.ensures.around

pub returns-in-Err-clause-around : goal.returns-in-Err-clause-around
returns-in-Err-clause-around g c =
    let past_of = g.D.Device.past_of in
    let old = c.args.self.now in
    let mid = c.hand_over.new.self in
    then_around past_of (writer_of old) (writer_of mid) c.flush_group.new.self
    (around_hand_over past_of old mid c.hand_over.ensures.hands) c.flush_group.ensures.around

pub returns-then-has_failed-clause-slot : goal.returns-then-has_failed-clause-slot
returns-then-has_failed-clause-slot g c = slots_none g.D.Device.past_of c.args.self.now

pub returns-then-not-hand_over-clause-slot : goal.returns-then-not-hand_over-clause-slot
returns-then-not-hand_over-clause-slot g c = slots_over g.D.Device.past_of c.args.self.now c.hand_over.new.self c.hand_over.ensures.hands

pub returns-in-Ok-Flushed-clause-slot : goal.returns-in-Ok-Flushed-clause-slot
returns-in-Ok-Flushed-clause-slot g c =
    slots_then g.D.Device.past_of c.args.self.now c.hand_over.new.self c.hand_over.ensures.hands c.flush_group.new.self c.flush_group.ensures.slot

pub returns-in-Ok-Nothing-clause-slot : goal.returns-in-Ok-Nothing-clause-slot
returns-in-Ok-Nothing-clause-slot g c =
    slots_then g.D.Device.past_of c.args.self.now c.hand_over.new.self c.hand_over.ensures.hands c.flush_group.new.self c.flush_group.ensures.slot

pub returns-in-Ok-LogFull-clause-slot : goal.returns-in-Ok-LogFull-clause-slot
returns-in-Ok-LogFull-clause-slot g c =
    slots_then g.D.Device.past_of c.args.self.now c.hand_over.new.self c.hand_over.ensures.hands c.flush_group.new.self c.flush_group.ensures.slot

pub returns-in-Err-clause-slot : goal.returns-in-Err-clause-slot
returns-in-Err-clause-slot g c =
    slots_then g.D.Device.past_of c.args.self.now c.hand_over.new.self c.hand_over.ensures.hands c.flush_group.new.self c.flush_group.ensures.slot

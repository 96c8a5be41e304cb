use Rattle.std.proofs.Common.{◌≡◌, false, refl, sym, ◌∙◌}
use Rattle.std.proofs.lemmas.Bool.{false≢true}
use Rattle.record_values.specs.declared.error.Error.TheVariants.{DeviceFailed, NoMemory}
use Rattle.restart.specs.declared.event.Event.TheVariants.{Copy}
use Rattle.restart.specs.declared.event.Reply.TheVariants.{Refused}
use Rattle.restart.specs.Parts.{has_failed}
use Rattle.restart.proofs.CopiesAround.{copied_over, device_copied, none_copied_around}
use Rattle.restart.proofs.CopyAnswers.{answer_over, copy_failed_before, copy_not_over, copy_safe, of_copy}
use Rattle.restart.proofs.Flushing.{stays}
use Rattle.restart.proofs.Grouped.{groups_over, kept_store, not_over_kept}
use Rattle.restart.proofs.Moving.{can_run_on, moves_then, serves_by}
use Rattle.restart.proofs.parts.EngineParts.copy.Goals as goal

pub returns-then-has_failed-clause-serves : goal.returns-then-has_failed-clause-serves
returns-then-has_failed-clause-serves g c = serves_by g.D.Device.past_of c.args.self.now c.args.self.now Copy (Refused DeviceFailed)
    (stays g.D.Device.past_of g.D.Device.failures c.args.self.now) refl tt (λ n le. le)

pub returns-then-has_failed-clause-answer : goal.returns-then-has_failed-clause-answer
returns-then-has_failed-clause-answer g c = copy_failed_before g.D.Device.failures c.args.self.now (sym c.has_failed.ensures ∙ c.if-has_failed.true)

pub returns-then-not-hand_over-clause-serves : goal.returns-then-not-hand_over-clause-serves
returns-then-not-hand_over-clause-serves g c = serves_by g.D.Device.past_of c.args.self.now c.hand_over.new.self Copy
    (Refused NoMemory) c.hand_over.ensures.hands.moves refl tt (λ n le. le)

pub returns-then-not-hand_over-clause-answer : goal.returns-then-not-hand_over-clause-answer
returns-then-not-hand_over-clause-answer g c =
    copy_not_over g.D.Device.past_of g.D.Device.failures c.args.self.now c.hand_over.new.self c.hand_over.ensures.hands (sym c.has_failed.ensures
    ∙ c.if-has_failed.false) (λ none. false≢true (sym c.if-not-hand_over.true ∙ c.hand_over.ensures.all.1 none))

pub returns-then-not-hand_over-clause-can_run : goal.returns-then-not-hand_over-clause-can_run
returns-then-not-hand_over-clause-can_run g c = can_run_on g.D.Device.past_of c.args.self.now c.hand_over.new.self c.hand_over.ensures.hands.moves c.requires

pub copy_handed-requires-clause-runs : goal.copy_handed-requires-clause-runs
copy_handed-requires-clause-runs g c = can_run_on g.D.Device.past_of c.args.self.now c.hand_over.new.self c.hand_over.ensures.hands.moves c.requires

pub copy_handed-requires-clause-all : goal.copy_handed-requires-clause-all
copy_handed-requires-clause-all g c = c.hand_over.ensures.all.0 c.if-not-hand_over.false

pub copy_handed-requires-clause-sound : goal.copy_handed-requires-clause-sound
copy_handed-requires-clause-sound g c = c.hand_over.ensures.hands.failed ∙ sym c.has_failed.ensures ∙ c.if-has_failed.false

pub returns-clause-serves : goal.returns-clause-serves
returns-clause-serves g c =
    let past_of = g.D.Device.past_of in
    let failures = g.D.Device.failures in
    let old = c.args.self.now in
    let mid = c.hand_over.new.self in
    let new = c.copy_handed.new.self in
    let over = c.hand_over.ensures.hands in
    let sound : has_failed mid ≡ false = over.failed ∙ sym c.has_failed.ensures ∙ c.if-has_failed.false in
    let answer = answer_over past_of failures old mid over new c.copy_handed.result c.copy_handed.ensures.answer sound in
    serves_by past_of old new Copy c.copy_handed.result (moves_then past_of old mid new over.moves c.copy_handed.ensures.moves) refl
    (of_copy failures old new c.copy_handed.result answer) (copy_safe failures old new c.copy_handed.result answer)

pub returns-clause-answer : goal.returns-clause-answer
returns-clause-answer g c =
    let over = c.hand_over.ensures.hands in
    answer_over g.D.Device.past_of g.D.Device.failures c.args.self.now c.hand_over.new.self over c.copy_handed.new.self c.copy_handed.result
    c.copy_handed.ensures.answer (over.failed ∙ sym c.has_failed.ensures ∙ c.if-has_failed.false)

pub returns-clause-can_run : goal.returns-clause-can_run
returns-clause-can_run g c = can_run_on g.D.Device.past_of c.args.self.now c.copy_handed.new.self
    (moves_then g.D.Device.past_of c.args.self.now c.hand_over.new.self c.copy_handed.new.self c.hand_over.ensures.hands.moves c.copy_handed.ensures.moves)
    c.requires

pub returns-then-has_failed-clause-around : goal.returns-then-has_failed-clause-around
returns-then-has_failed-clause-around g c = none_copied_around g.D.Device.past_of c.args.self.now

pub returns-then-not-hand_over-clause-around : goal.returns-then-not-hand_over-clause-around
returns-then-not-hand_over-clause-around g c = device_copied g.D.Device.past_of c.args.self.now c.hand_over.new.self c.hand_over.ensures.hands.device

pub returns-clause-around : goal.returns-clause-around
returns-clause-around g c = copied_over g.D.Device.past_of c.args.self.now c.hand_over.new.self c.copy_handed.new.self c.hand_over.ensures.hands
    c.copy_handed.ensures.around

pub returns-then-has_failed-clause-groups : goal.returns-then-has_failed-clause-groups
returns-then-has_failed-clause-groups g c = kept_store (Refused DeviceFailed) c.args.self.now

pub returns-then-not-hand_over-clause-groups : goal.returns-then-not-hand_over-clause-groups
returns-then-not-hand_over-clause-groups g c =
    not_over_kept g.D.Device.past_of c.args.self.now c.hand_over.new.self c.hand_over.ensures.hands (Refused NoMemory)

pub returns-clause-groups : goal.returns-clause-groups
returns-clause-groups g c = groups_over g.D.Device.past_of c.args.self.now c.hand_over.new.self c.hand_over.ensures.hands c.copy_handed.result
    c.copy_handed.new.self
    (c.hand_over.ensures.all.0 c.if-not-hand_over.false) c.copy_handed.ensures.groups

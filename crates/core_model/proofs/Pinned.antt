-- The replies decide which steps are made with them, and so which records.
use Rattle.std.proofs.Common.{List, None, Option, Some, [], ap, inl, inr, refl, sym, take, ℕ, ◌++◌, ◌-◌, ◌∙◌, ◌∷◌, ◌≡◌, ◌+◌}
use Rattle.std.specs.FinMap.{get}
use Rattle.records.specs.RecordValue.{RecordValue}
use Rattle.records.specs.declared.change.Rows.TheVariants.{Deleted, Inserted, Updated}
use Rattle.record_values.specs.declared.row.Row.{Row}
use Rattle.model.specs.Given.{Given, given_after}
use Rattle.core_model.specs.Events.{Built, Cleaner, Empty, Ended, Event, Found, LifeIs, Refused, Reply, Rid, RowIs, Skipped, Standing, Stepped, Txn, Undone}
use Rattle.core_model.specs.Events.{standing_after, standing_at}
use Rattle.core_model.specs.Histories.{Opened, opened}
use Rattle.core_model.specs.Replies.{IsAllowed, IsStepDue, accepted, after_any, build_step, change_of, clean_step, no_memory, refused, refused_last, skipped}
use Rattle.core_model.specs.Replies.{unknown}
use Rattle.core_model.specs.Served.{IsMadeOf, ServesAll, nothing, records_by, served}
use Rattle.core_model.specs.States.{State}
use Rattle.core_model.specs.Steps.{MachineStep, Next, Start}

-- the step of a row that is there; none where there is no row
abbrev with_row : (Row → MachineStep) → Option Row → Option MachineStep
with_row step None = None
with_row step (Some old) = Some (step old)

-- the step that is made with the reply of an event that succeeds
abbrev accepted_step : State → Event → Reply → Option MachineStep
accepted_step s Event.Begin (Txn n) = Some (MachineStep.Begin n)
accepted_step s (Event.Insert t row) (Rid r) = Some (Start t (change_of s t r (Inserted row)))
accepted_step s (Event.Delete t r) reply = with_row (λ old. Start t (change_of s t r (Deleted old))) (get s.rows r)
accepted_step s (Event.Update t r row) reply = with_row (λ old. Start t (change_of s t r (Updated old row))) (get s.rows r)
accepted_step s (Event.Step t) reply = Some (Next t)
accepted_step s (Event.Undo t) reply = Some (MachineStep.Undo t)
accepted_step s (Event.End t) reply = Some (MachineStep.End t)
accepted_step s (Event.Commit t) reply = Some (MachineStep.Commit t)
accepted_step s Event.Create reply = Some MachineStep.Create
accepted_step s Event.Drop reply = Some MachineStep.Drop
accepted_step s Event.Build (Built b) = build_step b
accepted_step s Event.Clean (Cleaner c) = Some (clean_step c)
accepted_step s e reply = None

-- and with any reply
abbrev step_of : State → Event → Reply → Option MachineStep
step_of s e Skipped = None
step_of s e (Refused error) = None
step_of s e reply = accepted_step s e reply

by_reply : (s : State) (e : Event) (reply : Reply) (step : Option MachineStep) (right : Reply) (want : Option MachineStep) → reply ≡ right → step ≡ want
    → want ≡ step_of s e right → step ≡ step_of s e reply
by_reply s e reply step right want p q is = q ∙ is ∙ sym (ap (step_of s e) p)

due_step : (s : State) (k : Standing) (e : Event) (reply : Reply) (step : Option MachineStep) → IsStepDue s k e reply step → step ≡ step_of s e reply
due_step s k Event.Begin reply step d = by_reply s Event.Begin reply step (Txn (k.begun + 1)) (Some (MachineStep.Begin (k.begun + 1))) d.0 d.1 refl
due_step s k (Event.Insert t row) reply step d =
    by_reply s (Event.Insert t row) reply step (Rid d.0) (Some (Start t (change_of s t d.0 (Inserted row)))) d.2 d.3 refl
due_step s k (Event.Delete t r) reply step d =
    by_reply s (Event.Delete t r) reply step Stepped (Some (Start t (change_of s t r (Deleted d.0)))) d.2 d.3
    (sym (ap (with_row (λ old. Start t (change_of s t r (Deleted old)))) d.1))
due_step s k (Event.Update t r row) reply step d =
    by_reply s (Event.Update t r row) reply step Stepped (Some (Start t (change_of s t r (Updated d.0 row)))) d.2 d.3
    (sym (ap (with_row (λ old. Start t (change_of s t r (Updated old row)))) d.1))
due_step s k (Event.Step t) reply step d = by_reply s (Event.Step t) reply step Stepped (Some (Next t)) d.0 d.1 refl
due_step s k (Event.Undo t) reply step d = elim d.0 [
  | inl empty ↦ by_reply s (Event.Undo t) reply step Empty (Some (MachineStep.Undo t)) empty.1 d.1 refl
  | inr more ↦ by_reply s (Event.Undo t) reply step Undone (Some (MachineStep.Undo t)) more.1 d.1 refl
]
due_step s k (Event.End t) reply step d = by_reply s (Event.End t) reply step Ended (Some (MachineStep.End t)) d.0 d.1 refl
due_step s k (Event.Commit t) reply step d =
    by_reply s (Event.Commit t) reply step (Reply.Committed (k.made + 1) (k.commits + 1)) (Some (MachineStep.Commit t)) d.0 d.1 refl
due_step s k Event.Create reply step d = by_reply s Event.Create reply step (Reply.Ticketed (k.made + 1)) (Some MachineStep.Create) d.0 d.1 refl
due_step s k Event.Build reply step d = by_reply s Event.Build reply step (Built d.0) (build_step d.0) d.2 d.3 refl
due_step s k Event.Clean reply step d = by_reply s Event.Clean reply step (Cleaner d.0) (Some (clean_step d.0)) d.2 d.3 refl
due_step s k (Event.Get r) reply step d = by_reply s (Event.Get r) reply step (RowIs (get s.rows r)) None d.0 d.1 refl
due_step s k (Event.Find key) reply step d = by_reply s (Event.Find key) reply step (Found d.0) None d.2 d.3 refl
due_step s k Event.Life reply step d = by_reply s Event.Life reply step (LifeIs s.life) None d.0 d.1 refl
due_step s k Event.Drop reply step d = by_reply s Event.Drop reply step (Reply.Ticketed (k.made + 1)) (Some MachineStep.Drop) d.0 d.1 refl

allowed_step : (s : State) (k : Standing) (e : Event) (reply : Reply) (step : Option MachineStep) → IsAllowed s k e reply step → step ≡ step_of s e reply
allowed_step s k e reply step (unknown a) = refl
allowed_step s k e reply step (skipped a b) = refl
allowed_step s k e reply step (refused a b error c) = refl
allowed_step s k e reply step (refused_last a b c r x d error f) = refl
allowed_step s k e reply step (no_memory a b c r x d f w) = refl
allowed_step s k e reply step (accepted a b c r x d f) = due_step s k e r x d

-- the records that are made with these replies
abbrev records_told : State → Standing → List (Event × Reply) → List RecordValue
records_told s k [] = []
records_told s k (p ∷ rest) =
    records_by s k.made (step_of s p.0 p.1) ++ records_told (after_any s (step_of s p.0 p.1)) (standing_after k p.1) rest

told_records : (s : State) (k : Standing) (pairs : List (Event × Reply)) (made : List RecordValue) (new : State) (next : Standing)
    → ServesAll s k pairs made new next → made ≡ records_told s k pairs
told_records s k pairs made new next nothing = refl
told_records s k pairs made new next (served e reply step rest later allowed more) =
    ap (λ (rs : List RecordValue). records_by s k.made step ++ rs)
    (told_records (after_any s step) (standing_after k reply) rest later new next more)
    ∙ ap (λ x. records_by s k.made x ++ records_told (after_any s x) (standing_after k reply) rest) (allowed_step s k e reply step allowed)

pub one_made : (o : Opened) (last : ℕ) (pairs : List (Event × Reply)) (made more : List RecordValue) (s t : State) (k l : Standing)
    → ServesAll (opened o) (standing_at last) pairs made s k → ServesAll (opened o) (standing_at last) pairs more t l → made ≡ more
one_made o last pairs made more s t k l a b =
    told_records (opened o) (standing_at last) pairs made s k a ∙ sym (told_records (opened o) (standing_at last) pairs more t l b)

-- what is given is decided by the number of its last record
pub one_given : (o : Opened) (pairs : List (Event × Reply)) (given other : Given) → IsMadeOf o pairs given → IsMadeOf o pairs other → given.last ≡ other.last
    → given ≡ other
one_given o pairs given other a b last =
    a.same ∙ ap (λ rs. given_after o.given (take (given.last - o.given.last) rs))
    (one_made o o.given.last pairs a.made b.made a.state b.state a.standing b.standing a.served b.served)
    ∙ ap (λ n. given_after o.given (take (n - o.given.last) b.made)) last ∙ sym b.same

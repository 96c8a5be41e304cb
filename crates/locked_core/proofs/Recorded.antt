-- The record of a commit, of a creation, and of a dropping.
use Rattle.std.proofs.Common.{◌≡◌, Bool, true, false, List, [], ◌∷◌, ◌++◌, Result, Ok, Err, IfOk, refl}
use Rattle.std.proofs.Math.Logic.{∥∥₁_elim}
use Rattle.std.specs.Coded.{Coded-set, coded_list}
use Rattle.records.specs.RecordValue.{RecordValue}
use Rattle.record_values.specs.declared.error.Error.{Error}
use Rattle.record_values.specs.declared.error.Error.TheVariants.{NoSuchTxn}
use Rattle.records.specs.declared.record.Action.{Action}
use Rattle.core_model.specs.Events.{Event}
use Rattle.core_model.specs.Histories.{Opened}
use Rattle.core_parts.specs.Replies.{reply_by, reply_of_detached, reply_of_ticket}
use Rattle.core_parts.specs.View.{CoreValue, Serves}
use Rattle.core_parts.specs.declared.parts.Detached.{Detached}
use Rattle.core_parts.specs.declared.parts.Ticket.{Ticket}
use Rattle.threads_sessions.specs.Values.{SessionValue}
use Rattle.threads_register.specs.Register.{IsRegisterKept}
use Rattle.locked_core.proofs.Codes.{coded_record}
use Rattle.locked_core.specs.Names.{IsShared}

-- the record that the ticket tells of is the one that was made
abbrev pub IsRecorded : CoreValue → CoreValue → Action → Ticket → Type 0
IsRecorded core new action ticket = new.outbox ≡ core.outbox ++ record { number = ticket.«record»; action = action } ∷ []

-- a law of what a call of this kind records, of a core that is kept
abbrev pub Records : Opened → List RecordValue → CoreValue → CoreValue → Event → Action → Type 0
Records o pushed core new event action = IsRegisterKept o pushed core → (ticket : Ticket) → Serves core event (reply_of_ticket ticket) new
    → IsRecorded core new action ticket

module _ (o : Opened) (core new : CoreValue) (pushed : List RecordValue) (book : List SessionValue) (shared : ∥ IsShared o core pushed book ∥₁) (event : Event)
    (action : Action) (law : Records o pushed core new event action) where
  pub recorded : (result : Result Ticket Error) → Serves core event (reply_by reply_of_ticket result) new → IfOk result (IsRecorded core new action)
  recorded (Ok ticket) serves = ∥∥₁_elim shared (Coded-set (coded_list coded_record) _ _) (λ (all : IsShared o core pushed book).
      law all.register.kept ticket serves)
  recorded (Err e) serves = tt

  pub recorded_drop : {A : Type 0} (result : Result (Detached A) Error) → Serves core event (reply_by reply_of_detached result) new
      → IfOk result (λ d. IsRecorded core new action d.ticket)
  recorded_drop (Ok dropped) serves = recorded (Ok dropped.ticket) serves
  recorded_drop (Err e) serves = tt

  -- a call for a transaction, which is unknown where it isn't the seat's
  pub recorded_own : (own : Bool) (result : Result Ticket Error) → (own ≡ false → (result ≡ Err NoSuchTxn) × (new ≡ core))
      → (own ≡ true → Serves core event (reply_by reply_of_ticket result) new) → IfOk result (IsRecorded core new action)
  recorded_own true result foreign serves = recorded result (serves refl)
  recorded_own false (Ok ticket) foreign serves = absurd (never (foreign refl).0)
    where
      never : (◌≡◌ {A = Result Ticket Error} (Ok ticket) (Err NoSuchTxn)) → ⊥
      never is = absurd cc
  recorded_own false (Err e) foreign serves = tt

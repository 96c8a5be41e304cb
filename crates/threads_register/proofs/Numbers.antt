-- What an answer tells of the state in which it was given.
use Rattle.std.proofs.Common.{◌≡◌, ◌+◌, ◌++◌, ◌∷◌, [], ℕ, List, Option, None, Some, ap, refl, sym, ⊎_elim, ◌∙◌}
use Rattle.records.specs.RecordValue.{RecordValue}
use Rattle.records.specs.declared.record.Action.TheVariants.{OfIndex, OfTxn}
use Rattle.records.specs.declared.record.IndexAction.{IndexAction}
use Rattle.records.specs.declared.record.TxnAction.{TxnAction}
use Rattle.core_model.specs.Histories.{Opened}
use Rattle.core_model.specs.States.{State}
use Rattle.core_model.specs.Steps.{MachineStep}
use Rattle.core_model.specs.Events.{after_build, after_clean, BuildReply, CleanReply, Cleaned, Done, Event, Idle, Kept, Placed, Refused, Rejected, Reply}
use Rattle.core_model.specs.Events.{Scanned, Skipped, Standing, standing_after, Wrapped}
use Rattle.core_model.specs.Replies.{IsAllowed, IsStepDue, accepted, no_memory, refused, refused_last, skipped, unknown}
use Rattle.core_model.specs.Served.{records_by}
use Rattle.core_parts.specs.Replies.{reply_of_ticket, ticket_by}
use Rattle.core_parts.specs.View.{Answers, CoreValue, Serves}
use Rattle.core_parts.specs.declared.parts.Ticket.{Ticket}
use Rattle.threads_register.specs.Register.{IsRegisterKept, IsNoCommit}

-- neither a refusal nor left out
abbrev pub IsAnswer : Reply → Type 0
IsAnswer Skipped = ⊥
IsAnswer (Refused error) = ⊥
IsAnswer _ = Unit {0}

pub due : (s : State) (k : Standing) (e : Event) (reply : Reply) (step : Option MachineStep) → IsAllowed s k e reply step → IsAnswer reply
    → IsStepDue s k e reply step
due s k e reply step (unknown a) answer = absurd answer
due s k e reply step (skipped a b) answer = absurd answer
due s k e reply step (refused a b error f) answer = absurd answer
due s k e reply step (refused_last a b f r t d error g) answer = absurd answer
due s k e reply step (no_memory a b f r t d g w) answer = absurd answer
due s k e reply step (accepted a b f r t d g) answer = d

-- ---- a step that is no commit leaves the commits as they were

build_same : (k : Standing) (b : BuildReply) → (after_build k b).commits ≡ k.commits
build_same k (Scanned page) = refl
build_same k (Placed p) = refl
build_same k (Rejected p) = refl
build_same k (BuildReply.Marked p n) = refl
build_same k (Done n) = refl
build_same k Idle = refl

clean_same : (k : Standing) (c : CleanReply) → (after_clean k c).commits ≡ k.commits
clean_same k (Cleaned p) = refl
clean_same k (Kept p) = refl
clean_same k Wrapped = refl

abbrev commits_after : Standing → Reply → ℕ
commits_after k reply = (standing_after k reply).commits

due_same : (s : State) (k : Standing) (e : Event) (reply : Reply) (step : Option MachineStep) → IsStepDue s k e reply step → IsNoCommit e
    → commits_after k reply ≡ k.commits
due_same s k Event.Begin reply step d other = ap (commits_after k) d.0
due_same s k (Event.Insert t row) reply step d other = ap (commits_after k) d.2
due_same s k (Event.Delete t r) reply step d other = ap (commits_after k) d.2
due_same s k (Event.Update t r row) reply step d other = ap (commits_after k) d.2
due_same s k (Event.Step t) reply step d other = ap (commits_after k) d.0
due_same s k (Event.Undo t) reply step d other = ⊎_elim (λ x. ap (commits_after k) x.1) (λ x. ap (commits_after k) x.1) d.0
due_same s k (Event.End t) reply step d other = ap (commits_after k) d.0
due_same s k (Event.Commit t) reply step d other = absurd other
due_same s k Event.Create reply step d other = ap (commits_after k) d.0
due_same s k Event.Build reply step d other = ap (commits_after k) d.2 ∙ build_same k d.0
due_same s k Event.Clean reply step d other = ap (commits_after k) d.2 ∙ clean_same k d.0
due_same s k (Event.Get r) reply step d other = ap (commits_after k) d.0
due_same s k (Event.Find key) reply step d other = ap (commits_after k) d.2
due_same s k Event.Life reply step d other = ap (commits_after k) d.0
due_same s k Event.Drop reply step d other = ap (commits_after k) d.0

allowed_same : (s : State) (k : Standing) (e : Event) (reply : Reply) (step : Option MachineStep) → IsAllowed s k e reply step → IsNoCommit e
    → commits_after k reply ≡ k.commits
allowed_same s k e reply step (unknown a) other = refl
allowed_same s k e reply step (skipped a b) other = refl
allowed_same s k e reply step (refused a b error f) other = refl
allowed_same s k e reply step (refused_last a b f r t d error g) other = refl
allowed_same s k e reply step (no_memory a b f r t d g w) other = refl
allowed_same s k e reply step (accepted a b f r t d g) other = due_same s k e reply step d other

-- ---- what answers tell

pub ticket_answers : (number : ℕ) (commit : Option ℕ) → IsAnswer (ticket_by Reply.Ticketed number commit)
ticket_answers number None = tt
ticket_answers number (Some c) = tt

is_commit : (number : ℕ) (commit : Option ℕ) (n c : ℕ) → ticket_by Reply.Ticketed number commit ≡ Reply.Committed n c → (number ≡ n) × (commit ≡ Some c)
is_commit number None n c e = absurd cc
is_commit number (Some d) n c e = let same : d ≡ c = cc in (cc, ap Some same)

is_turn : (number : ℕ) (commit : Option ℕ) (n : ℕ) → ticket_by Reply.Ticketed number commit ≡ Reply.Ticketed n → (number ≡ n) × (commit ≡ None)
is_turn number None n e = (cc, λ i. None)
is_turn number (Some d) n e = absurd cc

pub is_txn : (t n : ℕ) → Reply.Txn t ≡ Reply.Txn n → t ≡ n
is_txn t n e = cc

module _ (o : Opened) (pushed : List RecordValue) (core : CoreValue) (kept : IsRegisterKept o pushed core) where
  abbrev s : State
  s = kept.replied.state

  abbrev k : Standing
  k = kept.replied.standing

  answers : (e : Event) (reply : Reply) (new : CoreValue) → Serves core e reply new → Answers core s k e reply new
  answers e reply new is = is s k kept.replied.stands

  pub begin : (txn : ℕ) (new : CoreValue) → Serves core Event.Begin (Reply.Txn txn) new → txn ≡ core.txns.begun + 1
  begin txn new is =
      let a = answers Event.Begin (Reply.Txn txn) new is in
      let d = due s k Event.Begin (Reply.Txn txn) a.step a.allowed tt in is_txn txn (k.begun + 1) d.0 ∙ ap (λ n. n + 1) kept.replied.stands.shown.begun

  committed : (txn : ℕ) (ticket : Ticket) (new : CoreValue) → Serves core (Event.Commit txn) (reply_of_ticket ticket) new
      → reply_of_ticket ticket ≡ Reply.Committed (k.made + 1) (k.commits + 1)
  committed txn ticket new is =
      let answer = ticket_answers ticket.«record» ticket.commit in
      let a = answers (Event.Commit txn) (reply_of_ticket ticket) new is in
      (due s k (Event.Commit txn) (reply_of_ticket ticket) a.step a.allowed answer).0

  pub commit : (txn : ℕ) (ticket : Ticket) (new : CoreValue) → Serves core (Event.Commit txn) (reply_of_ticket ticket) new → (ticket.«record» ≡ core.last + 1)
      × (ticket.commit ≡ Some (core.commits + 1))
  commit txn ticket new is =
      let numbers = is_commit ticket.«record» ticket.commit (k.made + 1) (k.commits + 1) (committed txn ticket new is) in
      (numbers.0 ∙ ap (λ n. n + 1) kept.replied.stands.shown.made, numbers.1 ∙ ap (λ n. Some (n + 1)) kept.replied.stands.shown.commits)

  pub counted : (txn : ℕ) (ticket : Ticket) (new : CoreValue) → Serves core (Event.Commit txn) (reply_of_ticket ticket) new → (new.last ≡ core.last + 1)
      × (new.commits ≡ core.commits + 1)
  counted txn ticket new is =
      let answer = ticket_answers ticket.«record» ticket.commit in
      let a = answers (Event.Commit txn) (reply_of_ticket ticket) new is in
      let reply = committed txn ticket new is in (
        sym a.shown.made ∙ (ap (λ (r : Reply). (standing_after k r).made) reply ∙ ap (λ n. n + 1) kept.replied.stands.shown.made),
        sym a.shown.commits ∙ (ap (λ (r : Reply). (standing_after k r).commits) reply ∙ ap (λ n. n + 1) kept.replied.stands.shown.commits),
      )

  pub create : (ticket : Ticket) (new : CoreValue) → Serves core Event.Create (reply_of_ticket ticket) new → (ticket.«record» ≡ core.last + 1)
      × (ticket.commit ≡ None)
  create ticket new is =
      let answer = ticket_answers ticket.«record» ticket.commit in
      let a = answers Event.Create (reply_of_ticket ticket) new is in
      let d = due s k Event.Create (reply_of_ticket ticket) a.step a.allowed answer in
      let numbers = is_turn ticket.«record» ticket.commit (k.made + 1) d.0 in
      (numbers.0 ∙ ap (λ n. n + 1) kept.replied.stands.shown.made, numbers.1)

  pub drop : (ticket : Ticket) (new : CoreValue) → Serves core Event.Drop (reply_of_ticket ticket) new → (ticket.«record» ≡ core.last + 1)
      × (ticket.commit ≡ None)
  drop ticket new is =
      let answer = ticket_answers ticket.«record» ticket.commit in
      let a = answers Event.Drop (reply_of_ticket ticket) new is in
      let d = due s k Event.Drop (reply_of_ticket ticket) a.step a.allowed answer in
      let numbers = is_turn ticket.«record» ticket.commit (k.made + 1) d.0 in
      (numbers.0 ∙ ap (λ n. n + 1) kept.replied.stands.shown.made, numbers.1)

  -- the records that they make
  pub commit_record : (txn : ℕ) (ticket : Ticket) (new : CoreValue) → Serves core (Event.Commit txn) (reply_of_ticket ticket) new
      → new.outbox ≡ core.outbox ++ record { number = ticket.«record»; action = OfTxn txn TxnAction.Commit } ∷ []
  commit_record txn ticket new is =
      let a = answers (Event.Commit txn) (reply_of_ticket ticket) new is in
      let d = due s k (Event.Commit txn) (reply_of_ticket ticket) a.step a.allowed (ticket_answers ticket.«record» ticket.commit) in
      let numbers = is_commit ticket.«record» ticket.commit (k.made + 1) (k.commits + 1) d.0 in
      a.outbox ∙ (ap (λ step. core.outbox ++ records_by s k.made step) d.1
      ∙ ap (λ n. core.outbox ++ record { number = n; action = OfTxn txn TxnAction.Commit } ∷ []) (sym numbers.0))

  pub create_record : (ticket : Ticket) (new : CoreValue) → Serves core Event.Create (reply_of_ticket ticket) new
      → new.outbox ≡ core.outbox ++ record { number = ticket.«record»; action = OfIndex IndexAction.Create } ∷ []
  create_record ticket new is =
      let a = answers Event.Create (reply_of_ticket ticket) new is in
      let d = due s k Event.Create (reply_of_ticket ticket) a.step a.allowed (ticket_answers ticket.«record» ticket.commit) in
      let numbers = is_turn ticket.«record» ticket.commit (k.made + 1) d.0 in
      a.outbox ∙ (ap (λ step. core.outbox ++ records_by s k.made step) d.1
      ∙ ap (λ n. core.outbox ++ record { number = n; action = OfIndex IndexAction.Create } ∷ []) (sym numbers.0))

  pub drop_record : (ticket : Ticket) (new : CoreValue) → Serves core Event.Drop (reply_of_ticket ticket) new
      → new.outbox ≡ core.outbox ++ record { number = ticket.«record»; action = OfIndex IndexAction.Drop } ∷ []
  drop_record ticket new is =
      let a = answers Event.Drop (reply_of_ticket ticket) new is in
      let d = due s k Event.Drop (reply_of_ticket ticket) a.step a.allowed (ticket_answers ticket.«record» ticket.commit) in
      let numbers = is_turn ticket.«record» ticket.commit (k.made + 1) d.0 in
      a.outbox ∙ (ap (λ step. core.outbox ++ records_by s k.made step) d.1
      ∙ ap (λ n. core.outbox ++ record { number = n; action = OfIndex IndexAction.Drop } ∷ []) (sym numbers.0))

  pub others : (e : Event) (reply : Reply) (new : CoreValue) → IsNoCommit e → Serves core e reply new → new.commits ≡ core.commits
  others e reply new other serves = let a = serves s k kept.replied.stands in sym a.shown.commits
      ∙ (allowed_same s k e reply a.step a.allowed other ∙ kept.replied.stands.shown.commits)

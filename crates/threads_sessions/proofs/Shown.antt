-- What a session shows, from the list of its active transactions.
use Rattle.std.proofs.Common.{◌≡◌, ℕ, true, false, List, [], ◌∷◌, ◌++◌, map, None, sym, ap, ◌∙◌}
use Rattle.std.specs.Prelude.{is_some}
use Rattle.core_parts.specs.declared.parts.Ticket.{Ticket}
use Rattle.model.specs.declared.write.Write.{Write}
use Rattle.threads_sessions.specs.declared.active.ActiveTxn.{ActiveTxn}
use Rattle.threads_sessions.specs.declared.turn.Turn.{Turn}
use Rattle.threads_sessions.specs.Active.{IsPlace, active_value, changed_at}
use Rattle.threads_sessions.specs.Steps.{committed, ended}
use Rattle.threads_sessions.specs.Values.{ActiveValue, CommitValue, SessionValue, active_of, is_active, rows_of, with_active, without}
use Rattle.threads_sessions.proofs.Lists.{place_in}

-- a session by what it shows
abbrev pub shows : List CommitValue → List Turn → List ActiveValue → SessionValue
shows commits turns active = record { commits = commits; turns = turns; active = active }

-- a history that shows the same
pub same_history : (s : SessionValue) (commits commits' : List CommitValue) (turns turns' : List Turn) (active : List ActiveValue)
    → shows commits turns active ≡ s → commits' ≡ commits → turns' ≡ turns → shows commits' turns' active ≡ s
same_history s commits commits' turns turns' active is e f = (λ i. shows (e i) (f i) active) ∙ is

module _ {A : Type 0} (s : SessionValue) (txn : ℕ) (commits : List CommitValue) (turns : List Turn) (items : List (ActiveTxn A))
    (is : shows commits turns (map active_value items) ≡ s) where
  -- a list that shows the same
  pub same_shown : (new : List (ActiveTxn A)) → map active_value new ≡ map active_value items → shows commits turns (map active_value new) ≡ s
  same_shown new same = ap (shows commits turns) same ∙ is

  pub ended_shown : (new : List (ActiveTxn A)) → map active_value new ≡ without txn (map active_value items)
      → shows commits turns (map active_value new) ≡ ended s txn
  ended_shown new left = ap (shows commits turns) left ∙ ap (λ (x : SessionValue). ended x txn) is

  pub committed_shown : (ticket : Ticket) (writes : List Write) (between commits' : List CommitValue) (turns' : List Turn) (new : List (ActiveTxn A))
      → commits' ≡ between ++ record { ticket = ticket; writes = writes } ∷ [] → between ≡ commits → turns' ≡ turns
      → writes ≡ rows_of txn (map active_value items) → map active_value new ≡ without txn (map active_value items)
      → shows commits' turns' (map active_value new) ≡ committed s txn ticket
  committed_shown ticket writes between commits' turns' new pushed kept told rows left =
      (λ i. shows ((pushed ∙ (λ j. kept j ++ record { ticket = ticket; writes = rows j } ∷ [])) i) (told i) (left i))
      ∙ ap (λ (x : SessionValue). committed x txn ticket) is

  module _ (seen : List (ActiveTxn A)) (same : seen ≡ items) where
    -- the transaction was not found
    pub not_there : active_of txn (map active_value seen) ≡ None → is_active s txn ≡ false
    not_there none = ap (λ (x : SessionValue). is_active x txn) (sym is)
        ∙ (ap (λ (l : List (ActiveTxn A)). is_some (active_of txn (map active_value l))) (sym same) ∙ ap is_some none)

    -- it was found, at this place
    module _ (i : ℕ) (place : IsPlace txn seen i) where
      pub at_place : IsPlace txn items i
      at_place = place_in txn i items seen same place

      pub is_there : is_active s txn ≡ true
      is_there = ap (λ (x : SessionValue). is_active x txn) (sym is) ∙ at_place.there

      pub one_shown : (f : ActiveValue → ActiveValue) (between new : List (ActiveTxn A)) → map active_value new ≡ changed_at f i (map active_value between)
          → map active_value between ≡ map active_value items
          → shows commits turns (map active_value new) ≡ record s { active = with_active f txn s.active }
      one_shown f between new changed kept = ap (shows commits turns) (changed ∙ (ap (changed_at f i) kept ∙ at_place.changed f))
          ∙ ap (λ (x : SessionValue). record x { active = with_active f txn x.active }) is

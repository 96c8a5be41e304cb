-- The register after each call of a seat, of the builder and of the cleaner.
use Rattle.std.proofs.Common.{◌≡◌, ℕ, ◌+◌, Bool, true, false, cond, List, [], ◌∷◌, ◌++◌, Option, Some, None, is_some, inr, refl, sym, ap, ◌∙◌, subst, ⊎_elim}
use Rattle.std.specs.FinMap.{get}
use Rattle.std.specs.Option.{option_map}
use Rattle.std.specs.Prelude.{option_and_then, slice_get, slice_set, unwrap_or}
use Rattle.records.specs.ChangeValue.{ChangeValue}
use Rattle.records.specs.RecordValue.{RecordValue}
use Rattle.record_values.specs.Values.{Place}
use Rattle.record_values.specs.declared.error.Error.{Error}
use Rattle.records.specs.declared.change.Rows.{Rows}
use Rattle.records.specs.declared.change.Rows.TheVariants.{Deleted, Inserted, Updated}
use Rattle.record_values.specs.declared.row.Row.{Row}
use Rattle.model.proofs.HistoryLaws.{table_after-append}
use Rattle.model.specs.Committed.{writes_of}
use Rattle.model.specs.History.{Committed, Created, Dropped, Item, table_after}
use Rattle.model.specs.Table.{applied}
use Rattle.model.specs.declared.write.Write.{Write}
use Rattle.core_model.proofs.Laws.{made_holds, txn_apart}
use Rattle.core_model.specs.Changes.{as_list, Changes, Unchanged, ◌▹◌}
use Rattle.core_model.specs.Histories.{CanOpen, no_writes, Opened, write_of}
use Rattle.core_model.specs.States.{Active, State}
use Rattle.core_model.specs.Steps.{CanStart, IsActive, MachineStep, Start, after, new_txn, txn_at}
use Rattle.core_model.specs.Events.{BuildReply, Built, CleanReply, Cleaned, Done, Event, Idle, Kept, Placed, Refused, Rejected, Reply, Scanned, Standing}
use Rattle.core_model.specs.Events.{Wrapped, standing_after}
use Rattle.core_model.specs.Replies.{IsAllowed, IsStepDue, IsProper, Owes, accepted, after_any, build_step, change_of, clean_step, no_memory, refused}
use Rattle.core_model.specs.Replies.{refused_last, skipped, unknown}
use Rattle.core_model.specs.Served.{asked_over, IsEnabledAny, items_at, items_of}
use Rattle.core_parts.specs.Replies.{reply_of_ticket}
use Rattle.core_parts.specs.Undoing.{undone_reply}
use Rattle.core_parts.specs.View.{CoreValue, Serves}
use Rattle.core_parts.specs.declared.parts.Ticket.{Ticket}
use Rattle.core_parts.specs.declared.reply.Undone.{Undone}
use Rattle.core_parts.specs.declared.reply.Undone.TheVariants.{Empty, Step}
use Rattle.threads_sessions.specs.Steps.{begun, step_seen, changed, committed, with_turn, ended, stepped, still_unfinished, taken_back, rolling_back}
use Rattle.threads_sessions.specs.Steps.{unfinished_in}
use Rattle.threads_sessions.specs.Steps.{change_seen}
use Rattle.threads_sessions.specs.declared.turn.Turn.{Turn}
use Rattle.threads_sessions.specs.Values.{active_of, ActiveValue, rows_of, SessionValue, without}
use Rattle.threads_register.proofs.Lookups.{new_other, new_own, number_is, with_other, with_own, without_other, without_own}
use Rattle.threads_register.proofs.Moved.{begin_own, leave_apart, leave_others, leave_own, next_apart, next_others, next_own, start_apart, start_others}
use Rattle.threads_register.proofs.Moved.{start_own}
use Rattle.threads_register.proofs.Moved.{undo_apart, undo_others, undo_own}
use Rattle.threads_register.proofs.Numbers.{commit as commit_numbers, counted as commit_counts, create as create_numbers, drop as drop_numbers, due, IsAnswer}
use Rattle.threads_register.proofs.Numbers.{is_txn}
use Rattle.threads_register.proofs.Numbers.{others as same_commits, ticket_answers}
use Rattle.threads_register.proofs.Owned.{owned_kept, owners_kept}
use Rattle.threads_register.proofs.Seen.{agree_none}
use Rattle.threads_register.proofs.Served.{answer, enabled, k, kept_after, last_later, mine, none_here, owned_beside, owners_beside, s, same_txns, seen}
use Rattle.threads_register.proofs.Served.{shown_by, so}
use Rattle.threads_register.proofs.Served.{txn_stepped, unfinished_is}
use Rattle.threads_register.proofs.Telling.{commit_tells, turn_tells, IsQuiet, quiet_beside, quiet_here, Tells}
use Rattle.threads_register.proofs.Told.{items_more, over, table_told}
use Rattle.threads_register.proofs.Written.{committed_is, left_table}
use Rattle.threads_register.specs.History.{commits_told, turns_told}
use Rattle.threads_register.specs.Register.{IsNoCommit}
use Rattle.threads_register.specs.Agreement.{Agree, is_owed, IsRegister, IsOfNoSeat, newest_write, owed_write, row_held}

proper : (s : State) (k : Standing) (e : Event) (reply : Reply) (step : Option MachineStep) → IsAllowed s k e reply step → IsAnswer reply → IsProper s e
proper s k e reply step (unknown a) not_answered = absurd not_answered
proper s k e reply step (skipped a b) not_answered = absurd not_answered
proper s k e reply step (refused a b error f) not_answered = absurd not_answered
proper s k e reply step (refused_last a b f r t d error g) not_answered = absurd not_answered
proper s k e reply step (no_memory a b f r t d g w) not_answered = absurd not_answered
proper s k e reply step (accepted a b f r t d g) answered = b

-- the change that was to be finished, after one more step
still_is : (core : CoreValue) (n : ℕ) (b : Bool) → ((w : Write) → unfinished_in core n w ≡ cond b (Some w) None) → (cs : Changes)
    → option_and_then (unfinished_in core n) (newest_write cs) ≡ cond b (newest_write cs) None
still_is core n b h Unchanged = by b None refl
  where
    by : (b : Bool) (x : Option Write) → x ≡ None → None ≡ cond b x None
    by true x e = sym e
    by false x e = refl
still_is core n b h (older ▹ c) = h (write_of c)

pub owes_one : (x : Active) → Owes x → owed_write x ≡ newest_write x.changes
owes_one x owes = ap (λ b. cond b (newest_write x.changes) None) (⊎_elim (λ e. (λ i. is_owed (e i) (owes.1 i))) (λ e. (λ i. is_owed (e i) (owes.1 i))) owes.0)

pub one_place : (a b : Place) → Reply.Rid a ≡ Reply.Rid b → a ≡ b
one_place a b e = cc

-- ---- steps that are no transaction's

-- no transaction, and no row that one holds, is another
record IsStill (s new : State) : Type 0 where
  pub txns : (u : ℕ) → new.txns u ≡ s.txns u
  pub held : (u : ℕ) (q : Place) → row_held u (new.holder q) (get new.rows q) ≡ row_held u (s.holder q) (get s.rows q)

build_still : (s : State) (b : BuildReply) → IsStill s (after_any s (build_step b))
build_still s (Scanned page) = record { txns = λ u. refl; held = λ u q. refl }
build_still s (Placed p) = record { txns = λ u. refl; held = λ u q. refl }
build_still s (Rejected p) = record { txns = λ u. refl; held = λ u q. refl }
build_still s (BuildReply.Marked p n) = record { txns = λ u. refl; held = λ u q. refl }
build_still s (Done n) = record { txns = λ u. refl; held = λ u q. refl }
build_still s Idle = record { txns = λ u. refl; held = λ u q. refl }

clean_still : (s : State) (c : CleanReply) → IsStill s (after_any s (Some (clean_step c)))
clean_still s (Cleaned p) = record { txns = λ u. refl; held = λ u q. refl }
clean_still s (Kept p) = record { txns = λ u. refl; held = λ u q. refl }
clean_still s Wrapped = record { txns = λ u. refl; held = λ u q. refl }

nothing_still : (s : State) → IsStill s s
nothing_still s = record { txns = λ u. refl; held = λ u q. refl }

due_still : (s : State) (k : Standing) (e : Event) (reply : Reply) (step : Option MachineStep) → IsOfNoSeat e → IsStepDue s k e reply step
    → IsStill s (after_any s step)
due_still s k Event.Begin reply step of d = absurd of
due_still s k (Event.Insert t row) reply step of d = absurd of
due_still s k (Event.Delete t r) reply step of d = absurd of
due_still s k (Event.Update t r row) reply step of d = absurd of
due_still s k (Event.Step t) reply step of d = absurd of
due_still s k (Event.Undo t) reply step of d = absurd of
due_still s k (Event.End t) reply step of d = absurd of
due_still s k (Event.Commit t) reply step of d = absurd of
due_still s k Event.Create reply step of d = absurd of
due_still s k Event.Build reply step of d = subst (λ x. IsStill s (after_any s x)) (sym d.3) (build_still s d.0)
due_still s k Event.Clean reply step of d = subst (λ x. IsStill s (after_any s x)) (sym d.3) (clean_still s d.0)
due_still s k (Event.Get r) reply step of d = subst (λ x. IsStill s (after_any s x)) (sym d.1) (nothing_still s)
due_still s k (Event.Find key) reply step of d = subst (λ x. IsStill s (after_any s x)) (sym d.3) (nothing_still s)
due_still s k Event.Life reply step of d = subst (λ x. IsStill s (after_any s x)) (sym d.1) (nothing_still s)
due_still s k Event.Drop reply step of d = absurd of

allowed_still : (s : State) (k : Standing) (e : Event) (reply : Reply) (step : Option MachineStep) → IsOfNoSeat e → IsAllowed s k e reply step
    → IsStill s (after_any s step)
allowed_still s k e reply step of (unknown a) = nothing_still s
allowed_still s k e reply step of (skipped a b) = nothing_still s
allowed_still s k e reply step of (refused a b error f) = nothing_still s
allowed_still s k e reply step of (refused_last a b f r t d error g) = nothing_still s
allowed_still s k e reply step of (no_memory a b f r t d g w) = nothing_still s
allowed_still s k e reply step of (accepted a b f r t d g) = due_still s k e reply step of d

not_due : (s : State) (k : Standing) (e : Event) (error : Error) (step : Option MachineStep) → IsStepDue s k e (Refused error) step → ⊥
not_due s k Event.Begin error step d = let is = d.0 in absurd cc
not_due s k (Event.Insert t row) error step d = let is = d.2 in absurd cc
not_due s k (Event.Delete t r) error step d = let is = d.2 in absurd cc
not_due s k (Event.Update t r row) error step d = let is = d.2 in absurd cc
not_due s k (Event.Step t) error step d = let is = d.0 in absurd cc
not_due s k (Event.Undo t) error step d = ⊎_elim (λ x. (let is = x.1 in absurd cc)) (λ x. (let is = x.1 in absurd cc)) d.0
not_due s k (Event.End t) error step d = let is = d.0 in absurd cc
not_due s k (Event.Commit t) error step d = let is = d.0 in absurd cc
not_due s k Event.Create error step d = let is = d.0 in absurd cc
not_due s k Event.Build error step d = let is = d.2 in absurd cc
not_due s k Event.Clean error step d = let is = d.2 in absurd cc
not_due s k (Event.Get r) error step d = let is = d.0 in absurd cc
not_due s k (Event.Find key) error step d = let is = d.2 in absurd cc
not_due s k Event.Life error step d = let is = d.0 in absurd cc
not_due s k Event.Drop error step d = let is = d.0 in absurd cc

refused_none : (s : State) (k : Standing) (e : Event) (error : Error) (step : Option MachineStep) → IsAllowed s k e (Refused error) step → step ≡ None
refused_none s k e error step (unknown a) = refl
refused_none s k e error step (refused a b err f) = refl
refused_none s k e error step (refused_last a b f r t d err g) = refl
refused_none s k e error step (no_memory a b f r t d g w) = refl
refused_none s k e error step (accepted a b f r t d g) = absurd (not_due s k e error step d)

-- ---- what calls tell

build_quiet : (b : BuildReply) → IsQuiet Event.Build (Built b)
build_quiet (Scanned page) = λ w. (refl, refl)
build_quiet (Placed p) = λ w. (refl, refl)
build_quiet (Rejected p) = λ w. (refl, refl)
build_quiet (BuildReply.Marked p n) = λ w. (refl, refl)
build_quiet (Done n) = λ w. (refl, refl)
build_quiet Idle = λ w. (refl, refl)

due_quiet : (s : State) (k : Standing) (e : Event) (reply : Reply) (step : Option MachineStep) → IsOfNoSeat e → IsStepDue s k e reply step → IsQuiet e reply
due_quiet s k Event.Begin reply step of d = absurd of
due_quiet s k (Event.Insert t row) reply step of d = absurd of
due_quiet s k (Event.Delete t r) reply step of d = absurd of
due_quiet s k (Event.Update t r row) reply step of d = absurd of
due_quiet s k (Event.Step t) reply step of d = absurd of
due_quiet s k (Event.Undo t) reply step of d = absurd of
due_quiet s k (Event.End t) reply step of d = absurd of
due_quiet s k (Event.Commit t) reply step of d = absurd of
due_quiet s k Event.Create reply step of d = absurd of
due_quiet s k Event.Build reply step of d = subst (IsQuiet Event.Build) (sym d.2) (build_quiet d.0)
due_quiet s k Event.Clean reply step of d = subst (IsQuiet Event.Clean) (sym d.2) (λ w. (refl, refl))
due_quiet s k (Event.Get r) reply step of d = subst (IsQuiet (Event.Get r)) (sym d.0) (λ w. (refl, refl))
due_quiet s k (Event.Find key) reply step of d = subst (IsQuiet (Event.Find key)) (sym d.2) (λ w. (refl, refl))
due_quiet s k Event.Life reply step of d = subst (IsQuiet Event.Life) (sym d.0) (λ w. (refl, refl))
due_quiet s k Event.Drop reply step of d = absurd of

allowed_quiet : (s : State) (k : Standing) (e : Event) (reply : Reply) (step : Option MachineStep) → IsOfNoSeat e → IsAllowed s k e reply step → IsQuiet e reply
allowed_quiet s k e reply step of (unknown a) = λ w. (refl, refl)
allowed_quiet s k e reply step of (skipped a b) = λ w. (refl, refl)
allowed_quiet s k e reply step of (refused a b error f) = λ w. (refl, refl)
allowed_quiet s k e reply step of (refused_last a b f r t d error g) = λ w. (refl, refl)
allowed_quiet s k e reply step of (no_memory a b f r t d g w) = λ w. (refl, refl)
allowed_quiet s k e reply step of (accepted a b f r t d g) = due_quiet s k e reply step of d

no_commit : (e : Event) → IsOfNoSeat e → IsNoCommit e
no_commit Event.Begin of = tt
no_commit (Event.Insert t row) of = tt
no_commit (Event.Delete t r) of = tt
no_commit (Event.Update t r row) of = tt
no_commit (Event.Step t) of = tt
no_commit (Event.Undo t) of = tt
no_commit (Event.End t) of = tt
no_commit (Event.Commit t) of = absurd of
no_commit Event.Create of = tt
no_commit Event.Build of = tt
no_commit Event.Clean of = tt
no_commit (Event.Get r) of = tt
no_commit (Event.Find key) of = tt
no_commit Event.Life of = tt
no_commit Event.Drop of = tt

-- ---- calls

module _ (o : Opened) (can : CanOpen o) (pushed : List RecordValue) (core : CoreValue) (book : List SessionValue) (r : IsRegister o pushed core book) where
  abbrev pub st : State
  st = s o can pushed core book r

  abbrev pub std : Standing
  std = k o can pushed core book r

  abbrev pub step_of : (e : Event) (reply : Reply) (new : CoreValue) → Serves core e reply new → Option MachineStep
  step_of e reply new sv = (answer o can pushed core book r e reply new sv).step

  allowed_of : (e : Event) (reply : Reply) (new : CoreValue) (sv : Serves core e reply new) → IsAllowed st std e reply (step_of e reply new sv)
  allowed_of e reply new sv = (answer o can pushed core book r e reply new sv).allowed

  pub due_of : (e : Event) (reply : Reply) (new : CoreValue) (sv : Serves core e reply new) → IsAnswer reply → IsStepDue st std e reply (step_of e reply new sv)
  due_of e reply new sv answers = due st std e reply (step_of e reply new sv) (allowed_of e reply new sv) answers

  pub enabled_of : (e : Event) (reply : Reply) (new : CoreValue) (sv : Serves core e reply new) (step : Option MachineStep) → step_of e reply new sv ≡ step
      → IsEnabledAny st step
  enabled_of e reply new sv step is = subst (IsEnabledAny st) is (enabled o can pushed core book r e reply new sv)

  -- a step that is made is owed
  pub owed_of : (txn : ℕ) (new : CoreValue) → Serves core (Event.Step txn) Reply.Stepped new → Owes (txn_at st txn)
  owed_of txn new sv = proper st std (Event.Step txn) Reply.Stepped (step_of (Event.Step txn) Reply.Stepped new sv)
      (allowed_of (Event.Step txn) Reply.Stepped new sv) tt

  -- a call that tells of no commit, and of nothing done to the index, with no session changed, or one but for those
  still_tells : (e : Event) (reply : Reply) (new : CoreValue) → Serves core e reply new → IsQuiet e reply → new.commits ≡ core.commits
      → Tells o (r.kept.calls ++ (e, reply) ∷ []) new book
  still_tells e reply new sv none counted = quiet_here o r.kept.calls core new book r.commits r.history e reply
      (last_later o can pushed core book r e reply new sv) none counted

  beside_tells : (e : Event) (reply : Reply) (new : CoreValue) → Serves core e reply new → IsNoCommit e → IsQuiet e reply → (seat : ℕ) (p : SessionValue)
      → slice_get book seat ≡ Some p
      → (q : SessionValue) → q.commits ≡ p.commits → q.turns ≡ p.turns → Tells o (r.kept.calls ++ (e, reply) ∷ []) new (slice_set book seat q)
  beside_tells e reply new sv other none seat p there q commits turns =
      quiet_beside o r.kept.calls core new book r.commits r.history e reply (last_later o can pushed core book r e reply new sv) seat p there none
      (same_commits o pushed core r.kept e reply new other sv) q commits turns

  pub others : (e : Event) (reply : Reply) (new : CoreValue) → IsOfNoSeat e → Serves core e reply new → IsRegister o pushed new book
  others e reply new of sv =
      let still = allowed_still st std e reply (step_of e reply new sv) of (allowed_of e reply new sv) in
      same_txns o can pushed core book r e reply new sv (step_of e reply new sv) refl book
      (owned_kept st (after_any st (step_of e reply new sv)) book r.owner still.txns still.held r.owned)
      (owners_kept st (after_any st (step_of e reply new sv)) book r.owner still.txns r.owners)
      (still_tells e reply new sv (allowed_quiet st std e reply (step_of e reply new sv) of (allowed_of e reply new sv))
      (same_commits o pushed core r.kept e reply new (no_commit e of) sv))

  pub refusals : (e : Event) (error : Error) (new : CoreValue) → Serves core e (Refused error) new → IsRegister o pushed new book
  refusals e error new sv =
      let none = refused_none st std e error (step_of e (Refused error) new sv) (allowed_of e (Refused error) new sv) in
      same_txns o can pushed core book r e (Refused error) new sv None none book r.owned r.owners
      (still_tells e (Refused error) new sv (λ w. (refl, refl))
      (ap (λ (v : CoreValue). v.commits) ((answer o can pushed core book r e (Refused error) new sv).unchanged none)))

  module _ (seat : ℕ) (p : SessionValue) (there : slice_get book seat ≡ Some p) where
    pub begin : (txn : ℕ) (new : CoreValue) → Serves core Event.Begin (Reply.Txn txn) new → IsRegister o pushed new (slice_set book seat (begun p txn))
    begin txn new sv =
        let d = due_of Event.Begin (Reply.Txn txn) new sv tt in
        let number = is_txn txn (std.begun + 1) d.0 in
        let step = d.1 ∙ ap (λ n. Some (MachineStep.Begin n)) (sym number) in
        let none : st.txns txn ≡ None = enabled_of Event.Begin (Reply.Txn txn) new sv (Some (MachineStep.Begin txn)) step in
        let holds = made_holds o can _ _ _ st (so o can pushed core book r).served.log in
        let absent = agree_none st txn (active_of txn p.active) (none_here o can pushed core book r seat p there txn none) in
        txn_stepped o can pushed core book r Event.Begin (Reply.Txn txn) new sv (MachineStep.Begin txn) step seat txn p (begun p txn) there (inr none)
        (subst (λ a. Agree (after st (MachineStep.Begin txn)) txn a ((after st (MachineStep.Begin txn)).txns txn)) (sym (new_own txn p.active absent))
        (begin_own st holds txn none))
        (λ u apart. new_other u txn p.active apart) (λ u apart. txn_apart st txn new_txn u apart) (λ u apart q. refl)
        (beside_tells Event.Begin (Reply.Txn txn) new sv tt (λ w. (refl, refl)) seat p there (begun p txn) refl refl)

    module _ (txn : ℕ) (own : is_some (active_of txn p.active) ≡ true) where
      -- a change, by its first step
      start : (e : Event) (reply : Reply) (new : CoreValue) (sv : Serves core e reply new) → IsNoCommit e → IsQuiet e reply → (rid : Place) (rows : Rows)
          → step_of e reply new sv ≡ Some (Start txn (change_of st txn rid rows))
          → IsRegister o pushed new (slice_set book seat (changed p new txn (write_of (change_of st txn rid rows))))
      start e reply new sv other none rid rows step =
          let c : ChangeValue = change_of st txn rid rows in
          let w : Write = write_of c in
          let can_start : CanStart st txn c = enabled_of e reply new sv (Some (Start txn c)) step in
          let mine_now = seen o can pushed core book r seat p there txn own (txn_at st txn) can_start.active in
          let shown = shown_by o can pushed core book r e reply new sv (Some (Start txn c)) step in
          txn_stepped o can pushed core book r e reply new sv (Start txn c) step seat txn p (changed p new txn w) there
          (mine o can pushed core book r seat p there txn own)
          (subst (λ a. Agree (after st (Start txn c)) txn a ((after st (Start txn c)).txns txn))
          (sym (with_own (change_seen new w) (λ a. refl) txn p.active ∙ ap (option_map (change_seen new w)) mine_now.1))
          (start_own st txn c can_start new shown.rows mine_now.0 mine_now.2 (unfinished_in new mine_now.0.txn w)
          (λ y is. ap (λ n. unfinished_in new n w) (number_is txn p.active mine_now.0 mine_now.1)
          ∙ unfinished_is new (after st (Start txn c)) (standing_after std reply) shown txn y is w)))
          (λ u apart. with_other (change_seen new w) (λ a. refl) txn u p.active apart) (start_apart st txn c can_start) (start_others st txn c can_start)
          (beside_tells e reply new sv other none seat p there (changed p new txn w) refl refl)

      pub insert : (row : Row) (rid : Place) (new : CoreValue) → Serves core (Event.Insert txn row) (Reply.Rid rid) new
          → IsRegister o pushed new (slice_set book seat (changed p new txn (record { rid = rid; row = Some row })))
      insert row rid new sv =
          let d = due_of (Event.Insert txn row) (Reply.Rid rid) new sv tt in
          let at : rid ≡ d.0 = one_place rid d.0 d.2 in
          start (Event.Insert txn row) (Reply.Rid rid) new sv tt (λ w. (refl, refl)) rid (Inserted row) (d.3
          ∙ ap (λ q. Some (Start txn (change_of st txn q (Inserted row)))) (sym at))

      pub delete : (rid : Place) (new : CoreValue) → Serves core (Event.Delete txn rid) Reply.Stepped new
          → IsRegister o pushed new (slice_set book seat (changed p new txn (record { rid = rid; row = None })))
      delete rid new sv =
          let d = due_of (Event.Delete txn rid) Reply.Stepped new sv tt in
          start (Event.Delete txn rid) Reply.Stepped new sv tt (λ w. (refl, refl)) rid (Deleted d.0) d.3

      pub update : (rid : Place) (row : Row) (new : CoreValue) → Serves core (Event.Update txn rid row) Reply.Stepped new
          → IsRegister o pushed new (slice_set book seat (changed p new txn (record { rid = rid; row = Some row })))
      update rid row new sv =
          let d = due_of (Event.Update txn rid row) Reply.Stepped new sv tt in
          start (Event.Update txn rid row) Reply.Stepped new sv tt (λ w. (refl, refl)) rid (Updated d.0 row) d.3

      pub next : (new : CoreValue) → Serves core (Event.Step txn) Reply.Stepped new → IsRegister o pushed new (slice_set book seat (stepped p new txn))
      next new sv =
          let d = due_of (Event.Step txn) Reply.Stepped new sv tt in
          let owes : Owes (txn_at st txn) = owed_of txn new sv in
          let active : IsActive st txn = (enabled_of (Event.Step txn) Reply.Stepped new sv (Some (MachineStep.Next txn)) d.1).0 in
          let mine_now = seen o can pushed core book r seat p there txn own (txn_at st txn) active in
          let shown = shown_by o can pushed core book r (Event.Step txn) Reply.Stepped new sv (Some (MachineStep.Next txn)) d.1 in
          let fit = (so o can pushed core book r).stands.fit in
          txn_stepped o can pushed core book r (Event.Step txn) Reply.Stepped new sv (MachineStep.Next txn) d.1 seat txn p (stepped p new txn) there
          (mine o can pushed core book r seat p there txn own)
          (subst (λ a. Agree (after st (MachineStep.Next txn)) txn a ((after st (MachineStep.Next txn)).txns txn))
          (sym (with_own (step_seen new) (λ a. refl) txn p.active ∙ ap (option_map (step_seen new)) mine_now.1))
          (next_own st txn fit active new shown.rows mine_now.0 mine_now.2 (still_unfinished new mine_now.0.txn mine_now.0.unfinished)
          (λ y is same.
          (λ i. still_unfinished new (number_is txn p.active mine_now.0 mine_now.1 i)
          ((mine_now.2.unfinished ∙ (owes_one (txn_at st txn) owes ∙ ap newest_write (sym same))) i))
          ∙ still_is new txn (is_owed y.phase y.rolling) (unfinished_is new (after st (MachineStep.Next txn)) (standing_after std Reply.Stepped) shown txn y is)
          y.changes)))
          (λ u apart. with_other (step_seen new) (λ a. refl) txn u p.active apart) (next_apart st txn fit active) (next_others st txn fit active)
          (beside_tells (Event.Step txn) Reply.Stepped new sv tt (λ w. (refl, refl)) seat p there (stepped p new txn) refl refl)

      undo_at : (reply : Reply) → IsAnswer reply → IsQuiet (Event.Undo txn) reply → (new : CoreValue) → Serves core (Event.Undo txn) reply new
          → IsRegister o pushed new (slice_set book seat (rolling_back p new txn))
      undo_at reply answers none new sv =
          let d = due_of (Event.Undo txn) reply new sv answers in
          let active : IsActive st txn = enabled_of (Event.Undo txn) reply new sv (Some (MachineStep.Undo txn)) d.1 in
          let mine_now = seen o can pushed core book r seat p there txn own (txn_at st txn) active in
          let shown = shown_by o can pushed core book r (Event.Undo txn) reply new sv (Some (MachineStep.Undo txn)) d.1 in
          let fit = (so o can pushed core book r).stands.fit in
          txn_stepped o can pushed core book r (Event.Undo txn) reply new sv (MachineStep.Undo txn) d.1 seat txn p (rolling_back p new txn) there
          (mine o can pushed core book r seat p there txn own)
          (subst (λ a. Agree (after st (MachineStep.Undo txn)) txn a ((after st (MachineStep.Undo txn)).txns txn))
          (sym (with_own (taken_back new) (λ a. refl) txn p.active ∙ ap (option_map (taken_back new)) mine_now.1))
          (undo_own st txn fit active new shown.rows mine_now.0 mine_now.2))
          (λ u apart. with_other (taken_back new) (λ a. refl) txn u p.active apart) (undo_apart st txn fit active) (undo_others st txn fit active)
          (beside_tells (Event.Undo txn) reply new sv tt none seat p there (rolling_back p new txn) refl refl)

      pub undo : (u : Undone) (new : CoreValue) → Serves core (Event.Undo txn) (undone_reply u) new
          → IsRegister o pushed new (slice_set book seat (rolling_back p new txn))
      undo Step new sv = undo_at Reply.Undone tt (λ w. (refl, refl)) new sv
      undo Empty new sv = undo_at Reply.Empty tt (λ w. (refl, refl)) new sv

      none_of : (new : State) → new.txns txn ≡ None → Agree new txn (active_of txn (without txn p.active)) (new.txns txn)
      none_of new gone = subst (λ a. Agree new txn a (new.txns txn)) (sym (without_own txn p.active)) (subst (Agree new txn None) (sym gone) tt)

      pub end : (new : CoreValue) → Serves core (Event.End txn) Reply.Ended new → IsRegister o pushed new (slice_set book seat (ended p txn))
      end new sv =
          let d = due_of (Event.End txn) Reply.Ended new sv tt in
          txn_stepped o can pushed core book r (Event.End txn) Reply.Ended new sv (MachineStep.End txn) d.1 seat txn p (ended p txn) there
          (mine o can pushed core book r seat p there txn own)
          (none_of (after st (MachineStep.End txn)) (leave_own st txn (after st (MachineStep.End txn)).committed))
          (λ u apart. without_other u txn p.active apart) (leave_apart st txn (after st (MachineStep.End txn)).committed)
          (leave_others st txn (after st (MachineStep.End txn)).committed)
          (beside_tells (Event.End txn) Reply.Ended new sv tt (λ w. (refl, refl)) seat p there (ended p txn) refl refl)

      -- what a commit tells
      module _ (ticket : Ticket) (new : CoreValue) (sv : Serves core (Event.Commit txn) (reply_of_ticket ticket) new) where
        abbrev d : IsStepDue st std (Event.Commit txn) (reply_of_ticket ticket) (step_of (Event.Commit txn) (reply_of_ticket ticket) new sv)
        d = due_of (Event.Commit txn) (reply_of_ticket ticket) new sv (ticket_answers ticket.«record» ticket.commit)

        abbrev asked : ℕ → List Write
        asked = asked_over no_writes r.kept.calls

        abbrev items : List Item
        items = items_of no_writes r.kept.calls

        told_by : (reply : Reply) → reply ≡ Reply.Committed (std.made + 1) (std.commits + 1)
            → items_at asked reply (Event.Commit txn) ≡ record { number = std.made + 1; deed = Committed (asked txn) } ∷ []
        told_by reply is = ap (λ x. items_at asked x (Event.Commit txn)) is

        -- its rows leave what its transaction was asked to set
        leaves : applied (over o.given.table (commits_told items)) (rows_of txn p.active) ≡ applied (over o.given.table (commits_told items)) (asked txn)
        leaves =
            let ready = enabled_of (Event.Commit txn) (reply_of_ticket ticket) new sv (Some (MachineStep.Commit txn)) d.1 in
            let mine_now = seen o can pushed core book r seat p there txn own (txn_at st txn) ready.0 in
            let holds = made_holds o can _ _ _ st (so o can pushed core book r).served.log in
            let before : st.committed ≡ over o.given.table (commits_told items) =
            committed_is o can (pushed ++ core.outbox) r.kept.calls st std (so o can pushed core book r).served ∙ table_told o.given.table items in
            ap (λ m. applied m (rows_of txn p.active)) (sym before)
            ∙ (ap (λ x. applied st.committed (unwrap_or (option_map (λ (a : ActiveValue). a.rows) x) [])) mine_now.1
            ∙ (left_table st holds txn (txn_at st txn) ready.0 ready.1.0 mine_now.0 mine_now.2 ∙ (after_is ∙ ap (λ m. applied m (asked txn)) before)))
          where
            -- the committed table after the commit, by the core and by the history
            after_is : applied st.committed (writes_of (as_list (txn_at st txn).changes)) ≡ applied st.committed (asked txn)
            after_is =
                let now = kept_after o can pushed core book r (Event.Commit txn) (reply_of_ticket ticket) new sv in
                ap (λ x. (after_any st x).committed) (sym d.1)
                ∙ (committed_is o can (pushed ++ new.outbox) (r.kept.calls ++ (Event.Commit txn, reply_of_ticket ticket) ∷ []) now.replied.state
                now.replied.standing now.replied.served
                ∙ (ap (table_after o.given.table) (items_more no_writes r.kept.calls (Event.Commit txn) (reply_of_ticket ticket)
                ∙ ap (λ l. items ++ l) (told_by (reply_of_ticket ticket) d.0))
                ∙ (table_after-append o.given.table items (record { number = std.made + 1; deed = Committed (asked txn) } ∷ [])
                ∙ ap (λ m. applied m (asked txn)) (sym (committed_is o can (pushed ++ core.outbox) r.kept.calls st std (so o can pushed core book r).served)))))

        commit_told : Tells o (r.kept.calls ++ (Event.Commit txn, reply_of_ticket ticket) ∷ []) new (slice_set book seat (committed p txn ticket))
        commit_told =
            let numbers = commit_numbers o pushed core r.kept txn ticket new sv in
            commit_tells o r.kept.calls core new book r.commits r.history (Event.Commit txn) (reply_of_ticket ticket)
            (last_later o can pushed core book r (Event.Commit txn) (reply_of_ticket ticket) new sv) seat p there txn ticket
            numbers (commit_counts o pushed core r.kept txn ticket new sv) (std.made + 1) (asked txn) (numbers.0
            ∙ ap (λ n. n + 1) (sym r.kept.replied.stands.shown.made))
            (ap commits_told (told_by (reply_of_ticket ticket) d.0)) (ap turns_told (told_by (reply_of_ticket ticket) d.0)) leaves

      pub commit : (ticket : Ticket) (new : CoreValue) → Serves core (Event.Commit txn) (reply_of_ticket ticket) new
          → IsRegister o pushed new (slice_set book seat (committed p txn ticket))
      commit ticket new sv =
          let answers = ticket_answers ticket.«record» ticket.commit in
          let d = due_of (Event.Commit txn) (reply_of_ticket ticket) new sv answers in
          txn_stepped o can pushed core book r (Event.Commit txn) (reply_of_ticket ticket) new sv (MachineStep.Commit txn) d.1 seat txn p
          (committed p txn ticket) there (mine o can pushed core book r seat p there txn own)
          (none_of (after st (MachineStep.Commit txn)) (leave_own st txn (after st (MachineStep.Commit txn)).committed))
          (λ u apart. without_other u txn p.active apart) (leave_apart st txn (after st (MachineStep.Commit txn)).committed)
          (leave_others st txn (after st (MachineStep.Commit txn)).committed)
          (commit_told ticket new sv)

    pub create : (ticket : Ticket) (new : CoreValue) → Serves core Event.Create (reply_of_ticket ticket) new
        → IsRegister o pushed new (slice_set book seat (with_turn p (Turn.Created ticket.«record»)))
    create ticket new sv =
        let answers = ticket_answers ticket.«record» ticket.commit in
        let d = due_of Event.Create (reply_of_ticket ticket) new sv answers in
        same_txns o can pushed core book r Event.Create (reply_of_ticket ticket) new sv (Some MachineStep.Create) d.1
        (slice_set book seat (with_turn p (Turn.Created ticket.«record»)))
        (owned_beside (after st MachineStep.Create) book r.owner seat p (with_turn p (Turn.Created ticket.«record»)) there refl
        (owned_kept st (after st MachineStep.Create) book r.owner (λ u. refl) (λ u q. refl) r.owned))
        (owners_beside (after st MachineStep.Create) book r.owner seat (with_turn p (Turn.Created ticket.«record»))
        (owners_kept st (after st MachineStep.Create) book r.owner (λ u. refl) r.owners))
        (turn_tells o r.kept.calls core new book r.commits r.history Event.Create (reply_of_ticket ticket)
        (last_later o can pushed core book r Event.Create (reply_of_ticket ticket) new sv) seat p there (Turn.Created ticket.«record»)
        (same_commits o pushed core r.kept Event.Create (reply_of_ticket ticket) new tt sv) (ap commits_told (told_by (reply_of_ticket ticket) d.0))
        (ap turns_told (told_by (reply_of_ticket ticket) d.0) ∙ ap (λ n. Turn.Created n ∷ []) (sym number)))
      where
        told_by : (reply : Reply) → reply ≡ Reply.Ticketed (std.made + 1)
            → items_at (asked_over no_writes r.kept.calls) reply Event.Create ≡ record { number = std.made + 1; deed = Created } ∷ []
        told_by reply is = ap (λ x. items_at (asked_over no_writes r.kept.calls) x Event.Create) is

        number : ticket.«record» ≡ std.made + 1
        number = (create_numbers o pushed core r.kept ticket new sv).0 ∙ ap (λ n. n + 1) (sym r.kept.replied.stands.shown.made)

    pub drop : (ticket : Ticket) (new : CoreValue) → Serves core Event.Drop (reply_of_ticket ticket) new
        → IsRegister o pushed new (slice_set book seat (with_turn p (Turn.Dropped ticket.«record»)))
    drop ticket new sv =
        let answers = ticket_answers ticket.«record» ticket.commit in
        let d = due_of Event.Drop (reply_of_ticket ticket) new sv answers in
        same_txns o can pushed core book r Event.Drop (reply_of_ticket ticket) new sv (Some MachineStep.Drop) d.1
        (slice_set book seat (with_turn p (Turn.Dropped ticket.«record»)))
        (owned_beside (after st MachineStep.Drop) book r.owner seat p (with_turn p (Turn.Dropped ticket.«record»)) there refl
        (owned_kept st (after st MachineStep.Drop) book r.owner (λ u. refl) (λ u q. refl) r.owned))
        (owners_beside (after st MachineStep.Drop) book r.owner seat (with_turn p (Turn.Dropped ticket.«record»))
        (owners_kept st (after st MachineStep.Drop) book r.owner (λ u. refl) r.owners))
        (turn_tells o r.kept.calls core new book r.commits r.history Event.Drop (reply_of_ticket ticket)
        (last_later o can pushed core book r Event.Drop (reply_of_ticket ticket) new sv) seat p there (Turn.Dropped ticket.«record»)
        (same_commits o pushed core r.kept Event.Drop (reply_of_ticket ticket) new tt sv) (ap commits_told (told_by (reply_of_ticket ticket) d.0))
        (ap turns_told (told_by (reply_of_ticket ticket) d.0) ∙ ap (λ n. Turn.Dropped n ∷ []) (sym number)))
      where
        told_by : (reply : Reply) → reply ≡ Reply.Ticketed (std.made + 1)
            → items_at (asked_over no_writes r.kept.calls) reply Event.Drop ≡ record { number = std.made + 1; deed = Dropped } ∷ []
        told_by reply is = ap (λ x. items_at (asked_over no_writes r.kept.calls) x Event.Drop) is

        number : ticket.«record» ≡ std.made + 1
        number = (drop_numbers o pushed core r.kept ticket new sv).0 ∙ ap (λ n. n + 1) (sym r.kept.replied.stands.shown.made)

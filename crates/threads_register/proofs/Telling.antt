-- What the sessions say of the history, as the core serves a call.
use Rattle.std.proofs.Common.{◌≡◌, ◌+◌, ◌<◌, ◌≤◌, ℕ, List, [], ◌∷◌, ◌++◌, length, Some, refl, sym, ap, ◌∙◌, subst, arith, append-nil}
use Rattle.std.proofs.lemmas.List.{length-append, map-append}
use Rattle.std.specs.Prelude.{slice_get, slice_set}
use Rattle.model.specs.Table.{applied}
use Rattle.model.specs.declared.write.Write.{Write}
use Rattle.core_model.specs.Histories.{no_writes, Opened}
use Rattle.core_model.specs.Events.{Event, Reply}
use Rattle.core_model.specs.Served.{asked_over, items_at, items_of}
use Rattle.core_laws.specs.Calls.{BeginsWith}
use Rattle.core_parts.specs.View.{CoreValue}
use Rattle.core_parts.specs.declared.parts.Ticket.{Ticket}
use Rattle.threads_sessions.specs.Steps.{committed, with_turn}
use Rattle.threads_sessions.specs.declared.turn.Turn.{Turn}
use Rattle.threads_sessions.specs.Values.{CommitValue, rows_of, SessionValue}
use Rattle.threads_register.proofs.Commits.{by_seats_and, by_seats_set, more_in, numbered_more, stays_in}
use Rattle.threads_register.proofs.Lookups.{set_length}
use Rattle.threads_register.proofs.Told.{commits_more, turns_more, over, rising_more, rising_on, those_more}
use Rattle.threads_register.specs.History.{AreOfHistory, AreThose, commits_told, turns_told}
use Rattle.threads_register.specs.Register.{AreAllCommits, AreBySeats, AreEmpty, made_by}

-- the commits of all seats, which are those of the history
abbrev pub Tells : Opened → List (Event × Reply) → CoreValue → List SessionValue → Type 0
Tells o calls core book = (all : AreAllCommits book core.commits) × AreOfHistory o calls core.last book all.commits

-- a call that tells of no commit, and of nothing done to the index
abbrev pub IsQuiet : Event → Reply → Type 0
IsQuiet e reply = (writes : ℕ → List Write) → (commits_told (items_at writes reply e) ≡ []) × (turns_told (items_at writes reply e) ≡ [])

pub opened_tells : (o : Opened) (core : CoreValue) → BeginsWith o core → (book : List SessionValue) → AreEmpty book → Tells o [] core book
opened_tells o core b book empty = (
  record {
    commits = [];
    numbered = tt;
    counted = sym b.stands.shown.commits;
    by_seats = tt;
    in_sessions = λ seat session at.
        ap (λ (s : SessionValue). s.commits) (empty seat session at);
  },
  record {
    those = tt;
    rising = within o.given.last core.last b.stands.shown.made;
    turns = record { turns = []; told = refl; by_seats = tt; in_sessions = λ seat session at. ap (λ (s : SessionValue). s.turns) (empty seat session at) };
  },
)
  where
    within : (n m : ℕ) → n ≡ m → n ≤ m
    within n m e = omega (arith, e)

module _ (o : Opened) (calls : List (Event × Reply)) (core new : CoreValue) (book : List SessionValue) (all : AreAllCommits book core.commits)
    (h : AreOfHistory o calls core.last book all.commits)
    (e : Event) (reply : Reply) (later : core.last ≤ new.last) where
  abbrev asked : ℕ → List Write
  asked = asked_over no_writes calls

  abbrev calls_after : List (Event × Reply)
  calls_after = calls ++ (e, reply) ∷ []

  quiet : IsQuiet e reply → new.commits ≡ core.commits → (after : List SessionValue) → length after ≡ length book
      → ((seat : ℕ) (session : SessionValue) → slice_get after seat ≡ Some session → session.commits ≡ made_by seat all.commits)
      → ((seat : ℕ) (session : SessionValue) → slice_get after seat ≡ Some session → session.turns ≡ made_by seat h.turns.turns)
      → Tells o calls_after new after
  quiet none counted after count commits turns = (
    record {
      commits = all.commits;
      numbered = all.numbered;
      counted = counted
          ∙ all.counted;
      by_seats = subst (λ n. AreBySeats n all.commits) (sym count) all.by_seats;
      in_sessions = commits;
    },
    record {
      those = subst (λ told. AreThose o.given.table told all.commits)
          (sym (commits_more calls e reply [] (none asked).0 ∙ append-nil (commits_told (items_of no_writes calls)))) h.those;
      rising = rising_on o.given.last core.last all.commits new.last h.rising later;
      turns = record {
        turns = h.turns.turns;
        told = h.turns.told ∙ sym (turns_more calls e reply [] (none asked).1 ∙ append-nil (turns_told (items_of no_writes calls)));
        by_seats = subst (λ n. AreBySeats n h.turns.turns) (sym count) h.turns.by_seats;
        in_sessions = turns;
      };
    },
  )

  -- no session changes
  pub quiet_here : IsQuiet e reply → new.commits ≡ core.commits → Tells o calls_after new book
  quiet_here none counted = quiet none counted book refl all.in_sessions h.turns.in_sessions

  module _ (k : ℕ) (p : SessionValue) (there : slice_get book k ≡ Some p) where
    -- one changes, but for its commits and what it did to the index
    pub quiet_beside : IsQuiet e reply → new.commits ≡ core.commits → (q : SessionValue) → q.commits ≡ p.commits → q.turns ≡ p.turns
        → Tells o calls_after new (slice_set book k q)
    quiet_beside none counted q commits turns =
        quiet none counted (slice_set book k q) (set_length book k q)
        (stays_in (λ (s : SessionValue). s.commits) book all.commits all.in_sessions k p there q commits)
        (stays_in (λ (s : SessionValue). s.turns) book h.turns.turns h.turns.in_sessions k p there q turns)

    pub turn_tells : (turn : Turn) → new.commits ≡ core.commits → commits_told (items_at asked reply e) ≡ [] → turns_told (items_at asked reply e) ≡ turn ∷ []
        → Tells o calls_after new (slice_set book k (with_turn p turn))
    turn_tells turn counted no_commit is = (
      record {
        commits = all.commits;
        numbered = all.numbered;
        counted = counted ∙ all.counted;
        by_seats = by_seats_set (λ (s : SessionValue). s.commits) book all.commits all.in_sessions k p there (with_turn p turn) all.by_seats;
        in_sessions = stays_in (λ (s : SessionValue). s.commits) book all.commits all.in_sessions k p there (with_turn p turn) refl;
      },
      record {
        those = subst (λ told. AreThose o.given.table told all.commits)
            (sym (commits_more calls e reply [] no_commit ∙ append-nil (commits_told (items_of no_writes calls)))) h.those;
        rising = rising_on o.given.last core.last all.commits new.last h.rising later;
        turns = record {
          turns = h.turns.turns ++ (k, turn) ∷ [];
          told = map-append (λ (c : ℕ × Turn). c.1) h.turns.turns ((k, turn) ∷ [])
              ∙ (ap (λ l. l ++ turn ∷ []) h.turns.told ∙ sym (turns_more calls e reply (turn ∷ []) is));
          by_seats = by_seats_and (λ (s : SessionValue). s.turns) book h.turns.turns h.turns.in_sessions k p there (with_turn p turn) turn h.turns.by_seats;
          in_sessions = more_in (λ (s : SessionValue). s.turns) book h.turns.turns h.turns.in_sessions k p there (with_turn p turn) turn refl;
        };
      },
    )

    module _ (txn : ℕ) (ticket : Ticket) where
      abbrev c : CommitValue
      c = record { ticket = ticket; writes = rows_of txn p.active }

      abbrev q : SessionValue
      q = committed p txn ticket

      pub commit_tells : (ticket.«record» ≡ core.last + 1) × (ticket.commit ≡ Some (core.commits + 1)) → (new.last ≡ core.last + 1)
          × (new.commits ≡ core.commits + 1) → (number : ℕ) (writes : List Write) → ticket.«record» ≡ number
          → commits_told (items_at asked reply e) ≡ (number, writes) ∷ [] → turns_told (items_at asked reply e) ≡ []
          → applied (over o.given.table (commits_told (items_of no_writes calls))) c.writes
          ≡ applied (over o.given.table (commits_told (items_of no_writes calls))) writes → Tells o calls_after new (slice_set book k q)
      commit_tells numbers counts number writes same is no_turn leaves = (
        record {
          commits = all.commits ++ (k, c) ∷ [];
          numbered = numbered_more 1 (core.commits + 1) all.commits (k, c) all.numbered (omega (arith, all.counted)) numbers.1;
          counted = omega (arith, counts.1, all.counted, length-append {A = ℕ × CommitValue} all.commits ((k, c) ∷ []));
          by_seats = by_seats_and (λ (s : SessionValue). s.commits) book all.commits all.in_sessions k p there q c all.by_seats;
          in_sessions = more_in (λ (s : SessionValue). s.commits) book all.commits all.in_sessions k p there q c refl;
        },
        record {
          those = subst (λ told. AreThose o.given.table told (all.commits ++ (k, c) ∷ [])) (sym (commits_more calls e reply ((number, writes) ∷ []) is))
              (those_more o.given.table (commits_told (items_of no_writes calls)) all.commits h.those number writes (k, c) same leaves);
          rising = rising_more o.given.last core.last all.commits (k, c) new.last h.rising (above ticket.«record» numbers.0)
              (within ticket.«record» new.last numbers.0 counts.0);
          turns = record {
            turns = h.turns.turns;
            told = h.turns.told ∙ sym (turns_more calls e reply [] no_turn ∙ append-nil (turns_told (items_of no_writes calls)));
            by_seats = by_seats_set (λ (s : SessionValue). s.turns) book h.turns.turns h.turns.in_sessions k p there q h.turns.by_seats;
            in_sessions = stays_in (λ (s : SessionValue). s.turns) book h.turns.turns h.turns.in_sessions k p there q refl;
          };
        },
      )
        where
          above : (n : ℕ) → n ≡ core.last + 1 → core.last < n
          above n e = omega (arith, e)

          within : (n m : ℕ) → n ≡ core.last + 1 → m ≡ core.last + 1 → n ≤ m
          within n m e f = omega (arith, e, f)

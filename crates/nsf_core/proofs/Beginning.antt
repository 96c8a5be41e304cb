-- A core as it is made, and a transaction's beginning.
use Rattle.std.proofs.Common.{Bool, unwrap_or, append-nil, Err, List, None, Ok, Option, Result, Some, [], ap, arith, cond, eqb, false, inl, inr, length, refl}
use Rattle.std.proofs.Common.{subst, sym, true, ℕ, ◌++◌, ◌+◌, ◌<◌, ◌∙◌, ◌∷◌, ◌≡◌, ◌≢◌, ◌≤◌, ◌⊎◌}
use Rattle.std.specs.FinMap.{empty, get, get-empty, insert, len-empty}
use Rattle.std.specs.Ordering.{nat_cmp}
use Rattle.std.specs.Option.{option_map}
use Rattle.std.specs.Prelude.{IfOk, IsOkUnless, OnErr, OnOk}
use Rattle.std.proofs.lemmas.List.{length-append}
use Rattle.record_values.specs.GeometryValue.{GeometryValue}
use Rattle.record_values.specs.Maps.{get-set_at_other, get-set_at_same, nat_exact, rid_exact, set_at}
use Rattle.record_values.specs.Orders.{pair_cmp}
use Rattle.record_values.specs.Values.{Place}
use Rattle.record_values.specs.declared.error.Error.{Error}
use Rattle.record_values.specs.declared.number.TheConstants.{LAST_NUMBER}
use Rattle.record_values.specs.declared.pair.Mark.{Mark}
use Rattle.record_values.specs.declared.row.Row.{Row}
use Rattle.record_values.specs.declared.txn.TheConstants.{TXNS_MAX}
use Rattle.model.specs.declared.life.Life.TheVariants.{Absent}
use Rattle.txn_table.specs.Table as table
use Rattle.txn_table.specs.Table.{TableValue, TxnState, with_next}
use Rattle.txn_table.proofs.TableLaws.{holder_of-with_next}
use Rattle.core_model.proofs.Laws.{nat_decided, rid_decided, none_reserved, not_none, opened_fit, reserved_insert, txn_apart, txn_here}
use Rattle.core_model.specs.Histories.{FitsStore, Opened, opened}
use Rattle.core_model.specs.States.{State}
use Rattle.core_model.specs.Steps as core
use Rattle.core_model.specs.Steps.{Begin, MachineStep, after, all_reserved, reserved}
use Rattle.core_model.proofs.ReplyLaws.{opened_standing}
use Rattle.core_model.specs.Events.{Event, Refused, Reply, Standing, Txn, standing_at}
use Rattle.core_model.specs.Replies.{accepted, refused}
use Rattle.sorted_scan.specs.Scans.{HasRun, begun, begun_run}
use Rattle.core_parts.specs.Asked.{IsFine, IsRefused}
use Rattle.core_parts.specs.View.{Answers, AreOne, CoreValue, IsSafe, IsState, Serves, Shows}
use Rattle.core_parts.specs.Moves.{fresh}
use Rattle.core_parts.specs.Replies.{reply_by}
use Rattle.core_model.specs.Invariants.{IsWellFormed}
use Rattle.std.proofs.lemmas.Bool.{cases_lt}
use Rattle.core_parts.proofs.Due.{made, refusal, still, wants_memory}
use Rattle.core_parts.proofs.Moved.{other_number, same_number}

-- ---- a core as it is made
module _ (g : GeometryValue) (base : ℕ) (le : base ≤ LAST_NUMBER) where
  abbrev nothing : Opened
  nothing = record { given = record { table = empty; entries = empty; life = Absent; last = base }; pages = g.pages; places = g.entries }

  fits : FitsStore nothing
  fits = record {
    rows = λ r row e. absurd (not_none e (get-empty _ r));
    entries = λ p e. absurd (e (get-empty pair_cmp p));
    highest = λ p e. absurd cc;
    room = omega (arith, len-empty pair_cmp Mark);
  }

  pub fresh_safe : HasRun (begun None g.pages) (begun_run None g.pages) → IsSafe (fresh g base)
  fresh_safe run = record {
    state = opened nothing;
    standing = standing_at base;
    is = record {
      shown = record {
        rows = refl;
        entries = refl;
        txns = λ t. refl;
        holder = λ r. refl;
        pledges = λ t. get-empty nat_cmp t;
        pledged = none_reserved;
        life = refl;
        pages = refl;
        scan_pages = refl;
        places = refl;
        cleaned = refl;
        bound = refl;
        scan = record {
          run = begun_run None g.pages;
          made = run;
          given = λ p. refl;
          missed = λ p. refl;
          taken = λ n. refl;
          in_a_row = refl;
          untaken = λ page n wanted le. refl;
        };
        made = refl;
        begun = refl;
        active = refl;
        attempts = refl;
        all_attempts = refl;
        commits = refl;
      };
      fit = opened_fit nothing fits;
      standing = opened_standing nothing base le;
      counted = omega arith;
    };
  }

-- ---- the table with one more transaction
next_other : (u n : ℕ) (x : TxnState) (es : List (ℕ × TxnState)) → u ≢ n → table.state_of u (es ++ (n, x) ∷ []) ≡ table.state_of u es
next_other u n x [] ne = ap (λ b. cond b (Some x) None) (other_number u n ne)
next_other u n x (e ∷ es) ne = ap (cond (eqb u e.0) (Some e.1)) (next_other u n x es ne)

next_here : (n : ℕ) (x : TxnState) (es : List (ℕ × TxnState)) → table.state_of n es ≡ None → table.state_of n (es ++ (n, x) ∷ []) ≡ Some x
next_here n x [] none = ap (λ b. cond b (Some x) None) (same_number n n refl)
next_here n x (e ∷ es) none = by (eqb n e.0) none (next_here n x es)
  where
    by : (b : Bool) → cond b (Some e.1) (table.state_of n es) ≡ None → (table.state_of n es ≡ None → table.state_of n (es ++ (n, x) ∷ []) ≡ Some x)
        → cond b (Some e.1) (table.state_of n (es ++ (n, x) ∷ [])) ≡ Some x
    by true h rest = absurd cc
    by false h rest = rest h

abbrev pub with_begun : CoreValue → CoreValue
with_begun v = record v { txns = with_next v.txns }

module _ (v : CoreValue) (s : State) (k : Standing) (is : IsState v s k) where
  abbrev h : Shows v s k
  h = is.shown

  abbrev t : ℕ
  t = k.begun + 1

  same_begun : k.begun ≡ v.txns.begun
  same_begun = h.begun

  new_number : table.state_of t v.txns.active ≡ None
  new_number = by (table.state_of t v.txns.active) (h.txns t)
    where
      by : (o : Option TxnState) → AreOne o (s.txns t) → o ≡ None
      by None one = refl
      by (Some x) one = absurd (above (is.standing.begun t one.0 one.1))
        where
          above : k.begun + 1 ≤ k.begun → ⊥
          above l = omega (arith, l)

  number_is : t ≡ v.txns.begun + 1
  number_is = ap (λ n. n + 1) same_begun

  abbrev active' : List (ℕ × TxnState)
  active' = v.txns.active ++ (v.txns.begun + 1, table.fresh_txn) ∷ []

  states : (u : ℕ) → AreOne (table.state_of u active') (core.with_txn s t core.new_txn u)
  states u = elim (nat_decided u t) [
    | inl same ↦ subst (λ o. AreOne o (core.with_txn s t core.new_txn u))
        (sym (ap (λ n. table.state_of n active') (same ∙ number_is)
        ∙ next_here (v.txns.begun + 1) table.fresh_txn v.txns.active (ap (λ n. table.state_of n v.txns.active) (sym number_is) ∙ new_number)))
        (core.new_txn, ap (core.with_txn s t core.new_txn) same ∙ txn_here s t core.new_txn, record { changes = refl; phase = refl; rolling = refl })
    | inr other ↦ subst (λ o. AreOne o (core.with_txn s t core.new_txn u))
        (sym (next_other u (v.txns.begun + 1) table.fresh_txn v.txns.active (λ e. other (e ∙ sym number_is))))
        (subst (AreOne (table.state_of u v.txns.active)) (sym (txn_apart s t core.new_txn u other)) (h.txns u))
  ]

  places : (u : ℕ) → get (insert s.pledges t 0) u ≡ option_map (λ (y : TxnState). y.reserved) (table.state_of u active')
  places u = elim (nat_decided u t) [
    | inl same ↦ ap (get (insert s.pledges t 0)) same ∙ get-set_at_same nat_exact s.pledges t (Some 0)
        ∙ sym (ap (option_map (λ (y : TxnState). y.reserved)) (ap (λ n. table.state_of n active') (same ∙ number_is)
        ∙ next_here (v.txns.begun + 1) table.fresh_txn v.txns.active (ap (λ n. table.state_of n v.txns.active) (sym number_is) ∙ new_number)))
    | inr other ↦ get-set_at_other nat_exact s.pledges t (Some 0) u other ∙ h.pledges u
        ∙ sym (ap (option_map (λ (y : TxnState). y.reserved)) (next_other u (v.txns.begun + 1) table.fresh_txn v.txns.active (λ e. other (e ∙ sym number_is))))
  ]

  pledged : all_reserved (insert s.pledges t 0) ≡ v.index.pledged
  pledged =
      let none : reserved s.pledges t ≡ 0 = ap (λ o. unwrap_or o 0) (h.pledges t ∙ ap (option_map (λ (y : TxnState). y.reserved)) new_number) in
      let sum : all_reserved (insert s.pledges t 0) + reserved s.pledges t ≡ all_reserved s.pledges + 0 = reserved_insert s.pledges t 0 in
      same_sum _ _ _ none sum ∙ h.pledged
    where
      same_sum : (a b r : ℕ) → r ≡ 0 → a + r ≡ b + 0 → a ≡ b
      same_sum a b r e f = omega (arith, e, f)

  abbrev next_standing : Standing
  next_standing = record k { begun = k.begun + 1; active = k.active + 1 }

  begun_shown : Shows (with_begun v) (after s (Begin t)) next_standing
  begun_shown = record {
    rows = h.rows;
    entries = h.entries;
    txns = states;
    holder = λ r. h.holder r ∙ sym (holder_of-with_next v.txns r);
    pledges = places;
    pledged = pledged;
    life = h.life;
    pages = h.pages;
    scan_pages = h.scan_pages;
    places = h.places;
    cleaned = h.cleaned;
    bound = h.bound;
    scan = record {
      run = h.scan.run;
      made = h.scan.made;
      given = h.scan.given;
      missed = h.scan.missed;
      taken = h.scan.taken;
      in_a_row = h.scan.in_a_row;
      untaken = h.scan.untaken;
    };
    made = h.made;
    begun = ap (λ n. n + 1) same_begun;
    active = ap (λ n. n + 1) h.active ∙ sym (length-append v.txns.active ((v.txns.begun + 1, table.fresh_txn) ∷ []));
    attempts = h.attempts;
    all_attempts = h.all_attempts;
    commits = h.commits;
  }

  module _ (few : length v.txns.active < TXNS_MAX) where
    not_many : TXNS_MAX ≤ k.active → ⊥
    not_many le = apart _ _ h.active le few
      where
        apart : (n m : ℕ) → n ≡ m → TXNS_MAX ≤ n → m < TXNS_MAX → ⊥
        apart n m e l r = omega (arith, e, l, r)

    begin_made : Answers v s k Event.Begin (Txn (v.txns.begun + 1)) (with_begun v)
    begin_made = subst (λ n. Answers v s k Event.Begin (Txn n) (with_begun v)) number_is
        (made v s k h Event.Begin (λ x. x) tt (inr (not_many, refl)) (Txn t) (Begin t) (refl, refl) (λ x. x) (λ n. absurd (n refl)) (with_begun v) begun_shown
        (sym (append-nil v.outbox)))

    begin_wants : Answers v s k Event.Begin (Refused Error.NoMemory) v
    begin_wants = wants_memory v s k h Event.Begin (λ x. x) tt (inr (not_many, refl)) (Txn t) (Begin t) (refl, refl) (λ x. x) (λ n. absurd (n refl)) (inr tt)

-- as many transactions as a core ever begins have numbers
numbers_left : (v : CoreValue) (s : State) (k : Standing) → IsState v s k → v.txns.begun < 18446744073709551615
numbers_left v s k is =
    let begun : k.begun ≡ v.txns.begun = is.shown.begun in
    let ended : k.begun ≤ k.made + k.active = is.standing.counts.ended in
    let few : k.active ≤ TXNS_MAX = is.standing.counts.few in
    let within : k.made ≤ LAST_NUMBER = is.standing.within in
    omega (arith, begun, ended, few, within)

module _ (v : CoreValue) where
  spent : TXNS_MAX ≤ length v.txns.active → Serves v Event.Begin (Refused Error.TooManyTxns) v
  spent le s k is = refusal v s k Event.Begin Error.TooManyTxns is.shown
      (refused (λ x. x) tt Error.TooManyTxns (inl (subst (λ n. TXNS_MAX ≤ n) (sym is.shown.active) le, refl)))

  -- that no number is left never comes
  unspent : 18446744073709551615 ≤ v.txns.begun → Serves v Event.Begin (Refused Error.TooManyTxns) v
  unspent le s k is = absurd (apart _ (numbers_left v s k is) le)
    where
      apart : (n : ℕ) → n < 18446744073709551615 → 18446744073709551615 ≤ n → ⊥
      apart n l r = omega (arith, l, r)

  pub begin_refused : (e : Error) → (e ≡ Error.TooManyTxns) × ((TXNS_MAX ≤ length v.txns.active) ⊎ (18446744073709551615 ≤ v.txns.begun))
      → IsRefused v Event.Begin e
  begin_refused e why = (by_state, subst (λ n. Serves v Event.Begin (Refused n) v) (sym why.0) (elim why.1 [ inl many ↦ spent many | inr none ↦ unspent none ]))
    where
      by_state : e ≢ Error.NoMemory
      by_state lack = let other : Error.TooManyTxns ≡ Error.NoMemory = sym why.0 ∙ lack in absurd cc

  pub begin_fine : length v.txns.active < TXNS_MAX → IsFine v Event.Begin
  begin_fine few s k is = begin_wants v s k is few

  pub begin_served : (result : Result ℕ Error) (next : TableValue)
      → (TXNS_MAX ≤ length v.txns.active → result ≡ Err Error.TooManyTxns)
      → (length v.txns.active < TXNS_MAX → v.txns.begun < 18446744073709551615 → IsOkUnless result Error.NoMemory)
      → IfOk result (λ txn. txn ≡ v.txns.begun + 1) → OnOk result (next ≡ with_next v.txns) → OnErr result (next ≡ v.txns)
      → Serves v Event.Begin (reply_by Txn result) (record v { txns = next })
  begin_served (Ok txn) next full room number ok err s k is = elim (cases_lt (length v.txns.active) TXNS_MAX) [
    | inl few ↦ subst (λ w. Answers v s k Event.Begin (Txn txn) (record v { txns = w })) (sym ok)
        (subst (λ n. Answers v s k Event.Begin (Txn n) (with_begun v)) (sym number) (begin_made v s k is few))
    | inr many ↦ absurd (apart (full many))
  ]
    where
      apart : (◌≡◌ {A = Result ℕ Error} (Ok txn) (Err Error.TooManyTxns)) → ⊥
      apart e = cc
  begin_served (Err e) next full room number ok err s k is =
      subst (λ w. Answers v s k Event.Begin (Refused e) (record v { txns = w })) (sym err) (elim (cases_lt (length v.txns.active) TXNS_MAX) [
        | inl few ↦ subst (λ n. Answers v s k Event.Begin (Refused n) v) (sym (room few (numbers_left v s k is))) (begin_wants v s k is few)
        | inr many ↦ subst (λ n. Answers v s k Event.Begin (Refused n) v) (same (full many)) (spent many s k is)
      ])
    where
      same : (◌≡◌ {A = Result ℕ Error} (Err e) (Err Error.TooManyTxns)) → Error.TooManyTxns ≡ e
      same i = cc

-- ---- a row that is loaded
module _ (v : CoreValue) (r : Place) (o : Option Row) (inside : r.page < v.heap.pages) where
  abbrev loaded_row : CoreValue
  loaded_row = record v { heap = record v.heap { rows = set_at v.heap.rows r o } }

  pub row_safe : IsSafe v → IsSafe loaded_row
  row_safe safe =
      let s = safe.state in
      let h : Shows v s safe.standing = safe.is.shown in
      let fit : IsWellFormed s = safe.is.fit in
      record {
        state = record s { rows = set_at s.rows r o };
        standing = safe.standing;
        is = record {
          shown = record {
            rows = ap (λ m. set_at m r o) h.rows;
            entries = h.entries;
            txns = h.txns;
            holder = h.holder;
            pledges = h.pledges;
            pledged = h.pledged;
            life = h.life;
            pages = h.pages;
            scan_pages = h.scan_pages;
            places = h.places;
            cleaned = h.cleaned;
            bound = h.bound;
            scan = record {
              run = h.scan.run;
              made = h.scan.made;
              given = h.scan.given;
              missed = h.scan.missed;
              taken = h.scan.taken;
              in_a_row = h.scan.in_a_row;
              untaken = h.scan.untaken;
            };
            made = h.made;
            begun = h.begun;
            active = h.active;
            attempts = h.attempts;
            all_attempts = h.all_attempts;
            commits = h.commits;
          };
          fit = record {
            rows = rows_inside s h fit;
            held = fit.held;
            txns = fit.txns;
            places = record { fits = fit.places.fits; enough = fit.places.enough };
            inside = record { entries = fit.inside.entries; bound = fit.inside.bound; highest = fit.inside.highest; given = fit.inside.given };
            pledged = fit.pledged;
          };
          standing = record {
            begun = safe.is.standing.begun;
            in_a_row = safe.is.standing.in_a_row;
            taken = safe.is.standing.taken;
            once = record { given = safe.is.standing.once.given; missed = safe.is.standing.once.missed };
            tried = safe.is.standing.tried;
            counts =
                record { active = safe.is.standing.counts.active; few = safe.is.standing.counts.few; ended = safe.is.standing.counts.ended };
            within =
                safe.is.standing.within;
          };
          counted = safe.is.counted;
        };
      }
    where
      rows_inside : (s : State) → Shows v s safe.standing → IsWellFormed s → (q : Place) (row : Row) → get (set_at s.rows r o) q ≡ Some row → q.page < s.pages
      rows_inside s h fit q row e = elim (rid_decided q r) [
        | inl same ↦ subst (λ n. n < s.pages) (ap (λ (p : Place). p.page) (sym same)) (subst (λ n. r.page < n) (sym h.pages) inside)
        | inr other ↦ fit.rows q row (sym (get-set_at_other rid_exact s.rows r o q other) ∙ e)
      ]

-- ---- what only reads
pub gets : (v : CoreValue) (r : Place) (o : Option Row) → o ≡ get v.heap.rows r → Serves v (Event.Get r) (Reply.RowIs o) v
gets v r o e s k is = still v s k (Event.Get r) (Reply.RowIs o) is.shown refl
    (accepted (λ x. x) tt refl (Reply.RowIs o) None (ap Reply.RowIs (e ∙ ap (λ m. get m r) (sym is.shown.rows)), refl) refl)

pub tells_life : (v : CoreValue) → Serves v Event.Life (Reply.LifeIs v.life) v
tells_life v s k is = still v s k Event.Life (Reply.LifeIs v.life) is.shown refl
    (accepted (λ x. x) tt refl (Reply.LifeIs v.life) None (ap Reply.LifeIs (sym is.shown.life), refl) refl)

-- The builder's steps: the reply that is due, and what the core shows after it.
use Rattle.std.proofs.Common.{Bool, List, None, Option, Some, ap, append-nil, arith, eq-eqb, false, inl, inr, nat_eq, not, refl, subst, sym, true, true≢false}
use Rattle.std.proofs.Common.{ℕ, ◌&&◌, ◌++◌, ◌+◌, ◌<◌, ◌∙◌, ◌||◌, ◌≡◌, ◌≢◌, ◌≤◌}
use Rattle.std.proofs.lemmas.Bool.Decides.{eqb_tells}
use Rattle.std.proofs.lemmas.Cmp.{eq_by_cmp_equiv}
use Rattle.std.proofs.lemmas.Map.Views.{Contains-from_any, list_any-from_Contains}
use Rattle.std.specs.Cmp.Lexicographic.{nat_list_cmp_total, slice_cmp}
use Rattle.std.specs.FinMap.{get, len, nat_cmp-IsAntisymmetric, slice_cmp-IsAntisymmetric}
use Rattle.std.specs.List.{Contains}
use Rattle.std.specs.Option.{IfSome}
use Rattle.std.specs.Ordering.{eq_by_cmp, nat_cmp}
use Rattle.std.specs.Prelude.{Err, IfErr, IfOk, Ok, OnErr, OnOk, Result, min, ◌-◌, ◌^◌, ◌↔◌}
use Rattle.record_values.specs.Maps.{key_is, pair_exact, same_key, set_at, set_at-again, set_at-get}
use Rattle.record_values.specs.Orders.{pair_cmp_total, is_above}
use Rattle.record_values.specs.declared.error.Error.{Error}
use Rattle.record_values.specs.declared.limits.TheConstants.{ATTEMPTS_PER_CHECKPOINT}
use Rattle.record_values.specs.declared.pair.Mark.{Mark}
use Rattle.record_values.specs.declared.pair.Pair.{Pair}
use Rattle.record_values.specs.declared.row.Row.{Row}
use Rattle.heap_pages.specs.Pages.{IsPairOnPage, Rows}
use Rattle.model.specs.Following.{IsBuilding}
use Rattle.record_values.specs.KeyActions.{after_action}
use Rattle.record_values.specs.Entries.{Index}
use Rattle.record_values.specs.declared.key_action.KeyAction.TheVariants.{BuildPut}
use Rattle.model.specs.declared.life.Life.{Life}
use Rattle.model.specs.declared.life.Life.TheVariants.{Absent, Building, Complete}
use Rattle.marked_index.specs.Index.{IndexValue, IsAbsent, IsFull, entries_after}
use Rattle.sorted_scan.specs.Pairs.{is_among}
use Rattle.sorted_scan.specs.Runs.{HandedOut, IsAtEnd, IsSteady, MayHandOut, ScanRun, Took, is_given, is_missed, is_taken, last_pair, taken_in_a_row, with_step}
use Rattle.sorted_scan.specs.Scans.{HasRun, ScanValue, begun, begun_run}
use Rattle.core_model.proofs.Laws.{build_put_some, not_none}
use Rattle.core_model.specs.Logs.{one_record}
use Rattle.core_model.specs.Records.{action_of, place_action}
use Rattle.core_model.specs.States.{State}
use Rattle.core_model.specs.Steps.{Attempt, CanFinish, Checkpoint, Finish, MachineStep, Take, after, all_reserved, is_pair_of}
use Rattle.core_model.specs.Events as events
use Rattle.core_model.specs.Events.{Event, Refused, Reply, Standing, standing_after}
use Rattle.core_model.specs.Replies.{HasNoPlace, IsBetween, IsStepDue, IsFirst, IsNextPair, accepted, refusals, refused, refused_last}
use Rattle.core_parts.specs.View.{Answers, CoreValue, IsSafe, IsScan, IsState, Serves, Shows}
use Rattle.core_parts.specs.Builds as builds
use Rattle.core_parts.specs.Private.{HasAttempted, HasPassed, HasTaken, HasNextNumber, IsUnplaced, IsUnrecorded, checkpointed, completed, placed, without_entry}
use Rattle.core_parts.specs.Replies.{reply_by}
use Rattle.core_parts.specs.declared.parts.Ticket.{Ticket}
use Rattle.core_parts.specs.declared.reply.BuildReply.{BuildReply}
use Rattle.core_parts.specs.declared.reply.BuildReply.TheVariants as reply
use Rattle.core_parts.proofs.Due.{made, no_number, refusal, still, ticket_answers, wants_memory}

-- ---- without an index, and with a complete one
pub no_index : (v : CoreValue) → v.life ≡ Absent → Serves v Event.Build (Refused Error.NoIndex) v
no_index v e s k st = refusal v s k Event.Build Error.NoIndex st.shown (refused (λ x. x) tt Error.NoIndex (inl (st.shown.life ∙ e, refl)))

pub complete_apart : (life : Life) → life ≡ Complete → life ≡ Absent → ⊥
complete_apart life e f = cc

pub idle : (v : CoreValue) → v.life ≡ Complete → Serves v Event.Build (events.Built events.Idle) v
idle v e s k st = still v s k Event.Build (events.Built events.Idle) st.shown refl
    (accepted (λ x. x) tt (inr (complete_apart s.life (st.shown.life ∙ e), refl)) (events.Built events.Idle) None (
      events.Idle,
      st.shown.life
          ∙ e,
      refl,
      refl,
    ) refl)

-- ---- the machine's words for a scan
pub building_apart : (life : Life) (highest : Option Pair) → life ≡ Building highest → life ≡ Absent → ⊥
building_apart life highest e f = cc

either : (b : Bool) → (b ≡ false → ⊥) → b ≡ true
either true h = refl
either false h = absurd (h refl)

module _ (v : CoreValue) (s : State) (k : Standing) (h : Shows v s k) where
  abbrev run : ScanRun
  run = h.scan.run

  pages_are : run.pages ≡ s.pages
  pages_are = sym h.scan.made.pages ∙ h.scan_pages ∙ sym h.pages

  all_taken : ((n : ℕ) → n < run.pages → is_taken run n ≡ true) → (n : ℕ) → n < s.pages → s.taken n ≡ true
  all_taken all n less = h.scan.taken n ∙ all n (subst (λ m. n < m) (sym pages_are) less)

  bound_is : (q : Pair) → is_above s.bound q ≡ is_above (last_pair run) q
  bound_is q = ap (λ o. is_above o q) (h.bound ∙ h.scan.made.last_is)

  -- a pair that was taken, and that no taking left out, is steady
  steady : (q : Pair) → s.taken q.rid.page ≡ true → s.missed q ≡ false → IsSteady run q
  steady q taken left = record { taken = sym (h.scan.taken q.rid.page) ∙ taken; always = sym (h.scan.missed q) ∙ left }

  next_is : (p : Pair) → MayHandOut run p → IsNextPair s p
  next_is p next = record {
    given = h.scan.given p ∙ next.given;
    rising = bound_is p ∙ next.rising;
    all_taken = all_taken next.all_taken;
    none_left = λ q over under taken. either (s.missed q) (λ left.
        true≢false (sym under ∙ next.none_between q (steady q taken left) (sym (bound_is q) ∙ over)));
  }

  end_is : IsBuilding s.life → IsAtEnd run → CanFinish s
  end_is building end = record {
    building = building;
    all_taken = all_taken end.all_taken;
    none_left = λ q over taken. either (s.missed q) (λ left. true≢false (sym (sym (bound_is q) ∙ over) ∙ end.none_above q (steady q taken left)));
  }

-- ---- an attempt is counted, as far as the code counts
one_attempt : (next now all most : ℕ) → next ≡ min (now + 1) most → now ≡ min all most → next ≡ min (all + 1) most
one_attempt next now all most e f = omega (arith, e, f)

-- ---- an entry that was there before, and one that was placed and is taken out again
pub put_there : (i now : IndexValue) (p : Pair) → get i.entries p ≢ None → now ≡ record i { entries = entries_after i.entries BuildPut p } → now ≡ i
put_there i now p there put = put ∙ ap (λ (m : Index). record i { entries = m }) (of_mark (get i.entries p) refl)
  where
    of_mark : (o : Option Mark) → get i.entries p ≡ o → set_at i.entries p (after_action BuildPut o) ≡ i.entries
    of_mark None e = absurd (there e)
    of_mark (Some mark) e = ap (set_at i.entries p) (build_put_some mark ∙ sym e) ∙ set_at-get pair_exact i.entries p

pub put_back : (v : CoreValue) (i : IndexValue) (back : CoreValue) (p : Pair) → IsAbsent v.index.entries p
    → i ≡ record v.index { entries = entries_after v.index.entries BuildPut p } → back ≡ without_entry (record v { index = i }) p → back ≡ v
put_back v i back p absent put taken =
    taken ∙ ap (λ (w : IndexValue). without_entry (record v { index = w }) p) put
    ∙ ap (λ (m : Index). record v { index = record v.index { entries = m } })
    (set_at-again pair_exact v.index.entries p (after_action BuildPut (get v.index.entries p)) None ∙ ap (set_at v.index.entries p) (sym absent)
    ∙ set_at-get pair_exact v.index.entries p)

-- ---- a scan that begins
pub run_begun : (scan : ScanValue) (pages pages' : ℕ) → scan ≡ begun None pages → pages ≡ pages' → HasRun scan (begun_run None pages)
    → HasRun (begun None pages') (begun_run None pages')
run_begun scan pages pages' made same run = subst (λ (n : ℕ). HasRun (begun None n) (begun_run None n)) same
    (subst (λ (s : ScanValue). HasRun s (begun_run None pages)) made run)

-- ---- a page that was taken
pub taken_as : (v : CoreValue) (page : ℕ) (seen : List Pair) (scan : ScanValue) (pairs : List Pair) → seen ≡ pairs
    → ((p : Pair) → Contains pairs p ↔ IsPairOnPage v.heap.rows page p) → (r : Result (Unit {0}) Error)
    → OnOk r ((run : ScanRun) → HasRun v.scan run → HasRun scan (with_step run (Took page seen)))
    → OnOk r (scan ≡ record v.scan { wanted = scan.wanted; waiting = scan.waiting }) → OnOk r (HasTaken v page (record v { scan = scan }))
taken_as v page seen scan pairs same each (Ok x) ran place = record {
  pairs = seen;
  each = subst (λ (l : List Pair). (p : Pair) → Contains l p ↔ IsPairOnPage v.heap.rows page p) (sym same) each;
  run = ran;
  last_pair = ap (λ (s : ScanValue). s.last) place;
  pages = ap (λ (s : ScanValue). s.pages) place;
  others = refl;
}
taken_as v page seen scan pairs same each (Err e) ran place = tt

module _ (rows : Rows) (page : ℕ) (pairs : List Pair) (each : (p : Pair) → Contains pairs p ↔ IsPairOnPage rows page p) (p : Pair) where
  abbrev on_page : Bool
  on_page = nat_eq p.rid.page page && is_pair_of (get rows p.rid) p

  test_of : (o : Option Row) → get rows p.rid ≡ o → IsPairOnPage rows page p → is_pair_of o p ≡ true
  test_of o e is = ap (λ x. is_pair_of x p) (sym e ∙ is.is_there) ∙ ap (λ key. eq_by_cmp (slice_cmp nat_cmp) key p.key) is.has_key
      ∙ same_key (record { total = nat_list_cmp_total; only_equal = slice_cmp-IsAntisymmetric nat_cmp-IsAntisymmetric }) p.key

  there : IsPairOnPage rows page p → on_page ≡ true
  there is = ap (λ b. b && is_pair_of (get rows p.rid) p) (eq-eqb p.rid.page page is.on_page) ∙ test_of (get rows p.rid) refl is

  is_there : (o : Option Row) → get rows p.rid ≡ o → p.rid.page ≡ page → is_pair_of o p ≡ true → IsPairOnPage rows page p
  is_there None e same test = absurd (true≢false (sym test))
  is_there (Some row) e same test = record {
    row = row;
    is_there = e;
    has_key = key_is (record { total = nat_list_cmp_total; only_equal = slice_cmp-IsAntisymmetric nat_cmp-IsAntisymmetric }) row.key p.key test;
    on_page =
        same;
  }

  on_page_is : (b : Bool) → is_among p pairs ≡ b → b ≡ on_page
  on_page_is true e = sym (there ((each p).0 (Contains-from_any (key_is pair_exact) p pairs e)))
  on_page_is false e = elim (eqb_tells p.rid.page page) [
    | inl same ↦ no_test same (is_pair_of (get rows p.rid) p) refl
    | inr other ↦ ap (λ b. b && is_pair_of (get rows p.rid) p) (sym other.0)
  ]
    where
      no_test : (nat_eq p.rid.page page ≡ true) × (p.rid.page ≡ page) → (b : Bool) → is_pair_of (get rows p.rid) p ≡ b → false ≡ on_page
      no_test same false t = sym (ap (λ b. b && is_pair_of (get rows p.rid) p) same.0 ∙ t)
      no_test same true t = absurd (true≢false
          (sym (list_any-from_Contains (eq_by_cmp_equiv pair_cmp_total) p pairs ((each p).1 (is_there (get rows p.rid) refl same.1 t))) ∙ e))

  pub among_is : is_among p pairs ≡ on_page
  among_is = on_page_is (is_among p pairs) refl

or_swapped : (a b : Bool) → (a || b) ≡ (b || a)
or_swapped true true = refl
or_swapped true false = refl
or_swapped false true = refl
or_swapped false false = refl

and_not : (a b : Bool) → (a && not (a && b)) ≡ (a && not b)
and_not true b = refl
and_not false b = refl

-- ---- while the index is built
module _ (v : CoreValue) (s : State) (k : Standing) (st : IsState v s k) (built : IsBuilding v.life) where
  abbrev h : Shows v s k
  h = st.shown

  abbrev building : IsBuilding s.life
  building = (built.0, h.life ∙ built.1)

  first : IsFirst (refusals s k Event.Build) None
  first = inr (building_apart s.life built.0 building.1, refl)

  -- why a step that is due and makes a record is refused
  unrecorded : (reply : Reply) (step : MachineStep) → IsStepDue s k Event.Build reply (Some step) → (HasNoPlace s step → ⊥) → action_of s step ≢ None
      → (error : Error) → IsUnrecorded v error → Answers v s k Event.Build (Refused error) v
  unrecorded reply step due roomy makes error (inl why) =
      subst (λ e. Answers v s k Event.Build (Refused e) v) (sym why.0) (no_number v s k h Event.Build (λ x. x) tt first reply step due roomy makes why.1)
  unrecorded reply step due roomy makes error (inr why) =
      subst (λ e. Answers v s k Event.Build (Refused e) v) (sym why.0)
      (wants_memory v s k h Event.Build (λ x. x) tt first reply step due roomy (λ n. why.1) (inl makes))

  ticket_is : v.last + 1 ≡ k.made + 1
  ticket_is = ap (λ n. n + 1) (sym h.made)

  -- ---- a checkpoint
  module _ (many : ATTEMPTS_PER_CHECKPOINT ≤ v.tried) (p : Pair) (last : v.scan.last ≡ Some p) where
    abbrev marked : Reply
    marked = events.Built (events.BuildReply.Marked p (v.last + 1))

    marked_due : IsStepDue s k Event.Build marked (Some (Checkpoint p))
    marked_due = (
      events.BuildReply.Marked p (v.last + 1),
      (building, subst (λ n. ATTEMPTS_PER_CHECKPOINT ≤ n) (sym h.attempts) many, h.bound ∙ last, ticket_is),
      refl,
      refl,
    )

    pub checkpoint_refused : (error : Error) → IsUnrecorded v error → Answers v s k Event.Build (Refused error) v
    checkpoint_refused error why = unrecorded marked (Checkpoint p) marked_due (λ x. x) (λ e. not_none refl e) error why

    marked_shown : Shows (checkpointed v p) (after s (Checkpoint p)) (standing_after k marked)
    marked_shown = record {
      rows = h.rows;
      entries = h.entries;
      txns = h.txns;
      holder = h.holder;
      pledges = h.pledges;
      pledged = h.pledged;
      life = refl;
      pages = h.pages;
      scan_pages = h.scan_pages;
      places = h.places;
      cleaned = h.cleaned;
      bound = h.bound;
      scan = record {
        run = h.scan.run;
        made = h.scan.made;
        given = h.scan.given;
        missed = h.scan.missed;
        taken = h.scan.taken;
        in_a_row = h.scan.in_a_row;
        untaken = h.scan.untaken;
      };
      made = ap (λ n. n + 1) h.made;
      begun = h.begun;
      active = h.active;
      attempts = refl;
      all_attempts = h.all_attempts;
      commits = h.commits;
    }

    pub checkpoint_made : HasNextNumber v → Answers v s k Event.Build marked (checkpointed v p)
    checkpoint_made left = made v s k h Event.Build (λ x. x) tt first marked (Checkpoint p) marked_due (λ x. x) (λ n. left) (checkpointed v p) marked_shown refl

  -- ---- the end
  module _ (few : v.tried < ATTEMPTS_PER_CHECKPOINT) where
    between : IsBetween s k
    between = (building, subst (λ n. n < ATTEMPTS_PER_CHECKPOINT) (sym h.attempts) few)

    module _ (end : (r : ScanRun) → HasRun v.scan r → IsAtEnd r) where
      abbrev done : Reply
      done = events.Built (events.Done (v.last + 1))

      done_due : IsStepDue s k Event.Build done (Some Finish)
      done_due = (events.Done (v.last + 1), (between, end_is v s k h building (end h.scan.run h.scan.made), ticket_is), refl, refl)

      pub finish_refused : (error : Error) → IsUnrecorded v error → Answers v s k Event.Build (Refused error) v
      finish_refused error why = unrecorded done Finish done_due (λ x. x) (λ e. not_none refl e) error why

      done_shown : Shows (completed v) (after s Finish) (standing_after k done)
      done_shown = record {
        rows = h.rows;
        entries = h.entries;
        txns = h.txns;
        holder = h.holder;
        pledges = h.pledges;
        pledged = h.pledged;
        life = refl;
        pages = h.pages;
        scan_pages = h.scan_pages;
        places = h.places;
        cleaned = h.cleaned;
        bound = h.bound;
        scan = record {
          run = h.scan.run;
          made = h.scan.made;
          given = h.scan.given;
          missed = h.scan.missed;
          taken = h.scan.taken;
          in_a_row = h.scan.in_a_row;
          untaken = h.scan.untaken;
        };
        made = ap (λ n. n + 1) h.made;
        begun = h.begun;
        active = h.active;
        attempts = h.attempts;
        all_attempts = h.all_attempts;
        commits = h.commits;
      }

      pub finish_made : HasNextNumber v → Answers v s k Event.Build done (completed v)
      finish_made left = made v s k h Event.Build (λ x. x) tt first done Finish done_due (λ x. x) (λ n. left) (completed v) done_shown refl

    -- ---- a page
    module _ (page : ℕ) (wanted : v.scan.wanted ≡ Some page) where
      abbrev scanned : Reply
      scanned = events.Built (events.Scanned page)

      turn : (page ≡ taken_in_a_row h.scan.run.steps) × (page < h.scan.run.pages)
      turn = subst (λ o. IfSome o (λ n. (n ≡ taken_in_a_row h.scan.run.steps) × (n < h.scan.run.pages))) wanted h.scan.made.wanted

      scanned_due : IsStepDue s k Event.Build scanned (Some (Take page))
      scanned_due = (
        events.Scanned page,
        (
          between,
          turn.0
              ∙ sym h.scan.in_a_row,
          subst (λ n. page < n) (pages_are v s k h) turn.1,
          h.scan.untaken page page wanted (omega arith),
        ),
        refl,
        refl,
      )

      pub page_refused : Answers v s k Event.Build (Refused Error.NoMemory) v
      page_refused = wants_memory v s k h Event.Build (λ x. x) tt first scanned (Take page) scanned_due (λ x. x) (λ n. absurd (n refl)) (inr tt)

      module _ (w : ScanValue) (pairs : List Pair) (each : (p : Pair) → Contains pairs p ↔ IsPairOnPage v.heap.rows page p) (went : (r : ScanRun)
          → HasRun v.scan r → HasRun w (with_step r (Took page pairs))) (last : w.last ≡ v.scan.last) (pages : w.pages ≡ v.scan.pages) where
        among : (p : Pair) → is_among p pairs ≡ (nat_eq p.rid.page page && is_pair_of (get s.rows p.rid) p)
        among p = among_is v.heap.rows page pairs each p ∙ ap (λ m. nat_eq p.rid.page page && is_pair_of (get m p.rid) p) (sym h.rows)

        taken_shown : Shows (record v { scan = w }) (after s (Take page)) (standing_after k scanned)
        taken_shown = record {
          rows = h.rows;
          entries = h.entries;
          txns = h.txns;
          holder = h.holder;
          pledges = h.pledges;
          pledged = h.pledged;
          life = h.life;
          pages = h.pages;
          scan_pages = pages ∙ h.scan_pages;
          places = h.places;
          cleaned = h.cleaned;
          bound = h.bound ∙ sym last;
          scan = record {
            run = with_step h.scan.run (Took page pairs);
            made = went h.scan.run h.scan.made;
            given = λ p. ap (λ b. b || (nat_eq p.rid.page page && is_pair_of (get s.rows p.rid) p)) (h.scan.given p) ∙ or_swapped (is_given h.scan.run p) _
                ∙ ap (λ b. b || is_given h.scan.run p) (sym (among p));
            missed = λ p. ap (λ b. b || (nat_eq p.rid.page page && not (is_pair_of (get s.rows p.rid) p))) (h.scan.missed p)
                ∙ or_swapped (is_missed h.scan.run p) _
                ∙ ap (λ b. b || is_missed h.scan.run p) (sym (and_not (nat_eq p.rid.page page) (is_pair_of (get s.rows p.rid) p))
                ∙ ap (λ b. nat_eq p.rid.page page && not b) (sym (among p)));
            taken = λ n. ap (λ b. b || nat_eq n page) (h.scan.taken n) ∙ or_swapped (is_taken h.scan.run n) (nat_eq n page);
            in_a_row = ap (λ n. n + 1) h.scan.in_a_row;
            untaken = λ next n later le. none_later next n (next_page next later) le;
          };
          made = h.made;
          begun = h.begun;
          active = h.active;
          attempts = h.attempts;
          all_attempts = h.all_attempts;
          commits = h.commits;
        }
          where
            -- the next page is wanted then
            next_page : (next : ℕ) → w.wanted ≡ Some next → next ≡ page + 1
            next_page next later =
                let then : (next ≡ taken_in_a_row h.scan.run.steps + 1) × (next < h.scan.run.pages) =
                subst (λ o. IfSome o (λ n. (n ≡ taken_in_a_row h.scan.run.steps + 1) × (n < h.scan.run.pages))) later (went h.scan.run h.scan.made).wanted in
                then.0 ∙ ap (λ n. n + 1) (sym turn.0)

            other_page : (n : ℕ) → page + 1 ≤ n → nat_eq n page ≡ false
            other_page n le = elim (eqb_tells n page) [ inl same ↦ absurd (omega (arith, le, same.1)) | inr other ↦ other.0 ]

            none_later : (next n : ℕ) → next ≡ page + 1 → next ≤ n → (s.taken n || nat_eq n page) ≡ false
            none_later next n is le =
                rw (h.scan.untaken page n wanted (omega (arith, is, le)), other_page n (omega (arith, is, le))) refl

        page_answers : Answers v s k Event.Build scanned (record v { scan = w })
        page_answers = made v s k h Event.Build (λ x. x) tt first scanned (Take page) scanned_due (λ x. x) (λ n. absurd (n refl))
            (record v { scan = w }) taken_shown (sym (append-nil v.outbox))

      pub page_made : (v' : CoreValue) → HasTaken v page v' → Answers v s k Event.Build scanned v'
      page_made v' t = subst (Answers v s k Event.Build scanned) (sym t.others) (page_answers v'.scan t.pairs t.each t.run t.last_pair t.pages)

    -- ---- an attempt
    module _ (p : Pair) (next : (r : ScanRun) → HasRun v.scan r → MayHandOut r p) where
      next_pair : IsNextPair s p
      next_pair = next_is v s k h p (next h.scan.run h.scan.made)

      entry_is : get s.entries p ≡ get v.index.entries p
      entry_is = ap (λ m. get m p) h.entries

      -- what both attempts show
      module _ (w : ScanValue) (went : (r : ScanRun) → HasRun v.scan r → HasRun w (with_step r (HandedOut p))) (wanted : w.wanted ≡ v.scan.wanted) where
        passed_scan : (s' : State) (k' : Standing) → s'.given ≡ s.given → s'.missed ≡ s.missed → s'.taken ≡ s.taken → k'.scanned ≡ 0 → IsScan w s' k'
        passed_scan s' k' g m t z = record {
          run = with_step h.scan.run (HandedOut p);
          made = went h.scan.run h.scan.made;
          given = λ q. ap (λ f. f q) g ∙ h.scan.given q;
          missed = λ q. ap (λ f. f q) m ∙ h.scan.missed q;
          taken = λ n. ap (λ f. f n) t ∙ h.scan.taken n;
          in_a_row = z;
          untaken = λ page n is le. ap (λ f. f n) t ∙ h.scan.untaken page n (sym wanted ∙ is) le;
        }

      module _ (there : get v.index.entries p ≢ None) where
        abbrev rejected : Reply
        rejected = events.Built (events.Rejected p)

        rejected_due : IsStepDue s k Event.Build rejected (Some (Attempt p))
        rejected_due = (events.Rejected p, (between, next_pair, λ e. there (sym entry_is ∙ e)), refl, refl)

        no_record : (o : Option Mark) → o ≢ None → place_action p o ≡ None
        no_record None n = absurd (n refl)
        no_record (Some mark) n = refl

        none_made : action_of s (Attempt p) ≡ None
        none_made = no_record (get s.entries p) (λ e. there (sym entry_is ∙ e))

        same_put : (o : Option Mark) → o ≢ None → after_action BuildPut o ≡ o
        same_put None n = absurd (n refl)
        same_put (Some mark) n = build_put_some mark

        same_entries : set_at s.entries p (after_action BuildPut (get s.entries p)) ≡ v.index.entries
        same_entries = ap (set_at s.entries p) (same_put (get s.entries p) (λ e. there (sym entry_is ∙ e))) ∙ set_at-get pair_exact s.entries p ∙ h.entries

        rejected_shown : (w : ScanValue) (attempts : ℕ) → ((r : ScanRun) → HasRun v.scan r → HasRun w (with_step r (HandedOut p))) → w.last ≡ Some p
            → w.pages ≡ v.scan.pages → w.wanted ≡ v.scan.wanted → attempts ≡ min (v.attempts + 1) (2 ^ 64 - 1)
            → Shows (record v { scan = w; tried = v.tried + 1; attempts = attempts }) (after s (Attempt p)) (standing_after k rejected)
        rejected_shown w attempts went last pages wanted counted = record {
          rows = h.rows;
          entries = same_entries;
          txns = h.txns;
          holder = h.holder;
          pledges = h.pledges;
          pledged = h.pledged;
          life = h.life;
          pages = h.pages;
          scan_pages = pages ∙ h.scan_pages;
          places = h.places;
          cleaned = h.cleaned;
          bound = sym last;
          scan = passed_scan w went wanted (after s (Attempt p)) (standing_after k rejected) refl refl refl refl;
          made = h.made;
          begun = h.begun;
          active = h.active;
          attempts = ap (λ n. n + 1) h.attempts;
          all_attempts = one_attempt attempts v.attempts k.all_attempts (2 ^ 64 - 1) counted h.all_attempts;
          commits = h.commits;
        }

        pub rejected_made : (v' : CoreValue) → HasPassed v p v' → Answers v s k Event.Build rejected v'
        rejected_made v' t = subst (Answers v s k Event.Build rejected) (sym t.others)
            (made v s k h Event.Build (λ x. x) tt first rejected (Attempt p) rejected_due (λ n. there (sym entry_is ∙ n.0)) (λ n. absurd (n none_made))
            (record v { scan = v'.scan; tried = v.tried + 1; attempts = v'.attempts })
            (rejected_shown v'.scan v'.attempts t.run t.last_pair t.pages t.wanted t.counted)
            (sym (append-nil v.outbox) ∙ ap (λ o. v.outbox ++ one_record v.last o) (sym none_made)))

      module _ (absent : IsAbsent v.index.entries p) where
        abbrev put : Reply
        put = events.Built (events.Placed p)

        placed_due : IsStepDue s k Event.Build put (Some (Attempt p))
        placed_due = (events.Placed p, (between, next_pair, entry_is ∙ absent), refl, refl)

        one_made : action_of s (Attempt p) ≡ place_action p None
        one_made = ap (place_action p) (entry_is ∙ absent)

        makes : action_of s (Attempt p) ≢ None
        makes e = not_none one_made e

        taken_places : len s.entries + all_reserved s.pledges ≡ len v.index.entries + v.index.pledged
        taken_places = ap (λ n. n + all_reserved s.pledges) (ap len h.entries) ∙ ap (λ n. len v.index.entries + n) h.pledged

        full_is : IsFull v.index → HasNoPlace s (Attempt p)
        full_is full = (
          entry_is ∙ absent,
          subst (λ n. s.places ≤ n) (sym taken_places)
              (subst (λ n. n ≤ len v.index.entries + v.index.pledged) (sym h.places) full),
        )

        pub full_refused : IsFull v.index → Answers v s k Event.Build (Refused Error.IndexFull) v
        full_refused full = refusal v s k Event.Build Error.IndexFull h
            (refused_last (λ x. x) tt first put (Some (Attempt p)) placed_due Error.IndexFull (inl (full_is full, refl)))

        module _ (roomy : IsFull v.index → ⊥) where
          has_place : HasNoPlace s (Attempt p) → ⊥
          has_place lacks = roomy (subst (λ n. n ≤ len v.index.entries + v.index.pledged) h.places (subst (λ n. s.places ≤ n) taken_places lacks.1))

          pub place_refused : (error : Error) → IsUnrecorded v error → Answers v s k Event.Build (Refused error) v
          place_refused error why = unrecorded put (Attempt p) placed_due has_place makes error why

          placed_shown : (w : ScanValue) (attempts : ℕ) → ((r : ScanRun) → HasRun v.scan r → HasRun w (with_step r (HandedOut p))) → w.last ≡ Some p
              → w.pages ≡ v.scan.pages → w.wanted ≡ v.scan.wanted → attempts ≡ min (v.attempts + 1) (2 ^ 64 - 1)
              → Shows (record (placed v p) { scan = w; tried = v.tried + 1; attempts = attempts }) (after s (Attempt p)) (standing_after k put)
          placed_shown w attempts went last pages wanted counted = record {
            rows = h.rows;
            entries = ap (λ m. set_at m p (after_action BuildPut (get m p))) h.entries;
            txns = h.txns;
            holder = h.holder;
            pledges = h.pledges;
            pledged = h.pledged;
            life = h.life;
            pages = h.pages;
            scan_pages = pages ∙ h.scan_pages;
            places = h.places;
            cleaned = h.cleaned;
            bound = sym last;
            scan = passed_scan w went wanted (after s (Attempt p)) (standing_after k put) refl refl refl refl;
            made = ap (λ n. n + 1) h.made;
            begun = h.begun;
            active = h.active;
            attempts = ap (λ n. n + 1) h.attempts;
            all_attempts = one_attempt attempts v.attempts k.all_attempts (2 ^ 64 - 1) counted h.all_attempts;
            commits = h.commits;
          }

          pub placed_made : HasNextNumber v → (v' : CoreValue) → HasPassed (placed v p) p v' → Answers v s k Event.Build put v'
          placed_made left v' t = subst (Answers v s k Event.Build put) (sym t.others)
              (made v s k h Event.Build (λ x. x) tt first put (Attempt p) placed_due has_place (λ n. left)
              (record (placed v p) { scan = v'.scan; tried = v.tried + 1; attempts = v'.attempts })
              (placed_shown v'.scan v'.attempts t.run t.last_pair t.pages t.wanted t.counted)
              (ap (λ o. v.outbox ++ one_record v.last o) (sym one_made)))

-- ---- what a safe core knows
pub attempted_before : (v : CoreValue) → IsBuilding v.life → 1 ≤ v.tried → v.scan.last ≡ None → IsSafe v → ⊥
attempted_before v building tried none safe =
    let h : Shows v safe.state safe.standing = safe.is.shown in
    safe.is.standing.tried (subst (λ n. 1 ≤ n) (sym h.attempts) tried) (building.0, h.life ∙ building.1) (h.bound ∙ none)

pub pages_scanned : (v : CoreValue) → IsSafe v → v.scan.pages ≤ v.heap.pages
pages_scanned v safe = omega (arith, safe.is.shown.scan_pages)

pub inside_by : (o : Option ℕ) (a b : ℕ) → a ≤ b → IfSome o (λ n. n < a) → IfSome o (λ n. n < b)
inside_by None a b le i = tt
inside_by (Some n) a b le i = omega (arith, le, i)

-- ---- what each call of a step serves, whatever state the core stands for
module _ (v : CoreValue) (built : IsBuilding v.life) where
  module _ (many : ATTEMPTS_PER_CHECKPOINT ≤ v.tried) (p : Pair) (last : v.scan.last ≡ Some p) where
    pub no_checkpoint : (error : Error) (v' : CoreValue) → IsUnrecorded v error → v' ≡ v → Serves v Event.Build (Refused error) v'
    no_checkpoint error v' why same s k st = subst (Answers v s k Event.Build (Refused error)) (sym same)
        (checkpoint_refused v s k st built many p last error why)

    pub checkpoint_serves : (ticket : Ticket) (v' : CoreValue) → ticket.record ≡ v.last + 1 → ticket.commit ≡ None → HasNextNumber v → v' ≡ checkpointed v p
        → Serves v Event.Build (builds.built (reply.Marked p ticket)) v'
    checkpoint_serves ticket v' number no_commit left is s k st =
        ticket_answers v s k Event.Build (λ n. events.Built (events.BuildReply.Marked p n)) ticket v' number no_commit
        (subst (Answers v s k Event.Build (events.Built (events.BuildReply.Marked p (v.last + 1)))) (sym is) (checkpoint_made v s k st built many p last left))

  module _ (few : v.tried < ATTEMPTS_PER_CHECKPOINT) where
    pub no_page : (page : ℕ) → v.scan.wanted ≡ Some page → (error : Error) (v' : CoreValue) → error ≡ Error.NoMemory → v' ≡ v
        → Serves v Event.Build (Refused error) v'
    no_page page wanted error v' why same s k st =
        subst (Answers v s k Event.Build (Refused error)) (sym same)
        (subst (λ e. Answers v s k Event.Build (Refused e) v) (sym why) (page_refused v s k st built few page wanted))

    pub page_serves : (page : ℕ) → v.scan.wanted ≡ Some page → (v' : CoreValue) → HasTaken v page v'
        → Serves v Event.Build (events.Built (events.Scanned page)) v'
    page_serves page wanted v' t s k st = page_made v s k st built few page wanted v' t

    module _ (p : Pair) (next : (r : ScanRun) → HasRun v.scan r → MayHandOut r p) where
      pub attempt_serves : (result : Result BuildReply Error) (v' : CoreValue) → IfOk result (λ a. HasAttempted v p a v') → IfErr result (IsUnplaced v p)
          → OnErr result (v' ≡ v) → Serves v Event.Build (reply_by builds.built result) v'
      attempt_serves (Ok answer) v' did why same s k st = elim did [
        | inl was ↦ subst (λ a. Answers v s k Event.Build (builds.built a) v') (sym was.0) (rejected_made v s k st built few p next was.1 v' was.2)
        | inr was ↦ subst (λ a. Answers v s k Event.Build (builds.built a) v') (sym was.0) (placed_made v s k st built few p next was.1 was.2 was.3 v' was.4)
      ]
      attempt_serves (Err error) v' did why same s k st = subst (Answers v s k Event.Build (Refused error)) (sym same) (elim why.1 [
        | inl full ↦ subst (λ e. Answers v s k Event.Build (Refused e) v) (sym full.0) (full_refused v s k st built few p next why.0 full.1)
        | inr none ↦ place_refused v s k st built few p next why.0 none.0 error none.1
      ])

    module _ (end : (r : ScanRun) → HasRun v.scan r → IsAtEnd r) where
      pub no_finish : (error : Error) (v' : CoreValue) → IsUnrecorded v error → v' ≡ v → Serves v Event.Build (Refused error) v'
      no_finish error v' why same s k st = subst (Answers v s k Event.Build (Refused error)) (sym same) (finish_refused v s k st built few end error why)

      pub finish_serves : (ticket : Ticket) (v' : CoreValue) → ticket.record ≡ v.last + 1 → ticket.commit ≡ None → HasNextNumber v → v' ≡ completed v
          → Serves v Event.Build (builds.built (reply.Done ticket)) v'
      finish_serves ticket v' number no_commit left is s k st =
          ticket_answers v s k Event.Build (λ n. events.Built (events.Done n)) ticket v' number no_commit
          (subst (Answers v s k Event.Build (events.Built (events.Done (v.last + 1)))) (sym is) (finish_made v s k st built few end left))

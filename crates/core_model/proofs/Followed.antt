-- Each record of a run can follow the ones before it.
use Rattle.std.proofs.Common.{List, None, Option, Some, [], ap, append-nil, arith, cond, inl, inr, is_some, length, refl, subst, suc, sym, take, true}
use Rattle.std.proofs.Common.{true≢false, zero, ℕ, ◌++◌, ◌+◌, ◌-◌, ◌<◌, ◌∙◌, ◌∷◌, ◌≡◌, ◌≢◌, ◌≤◌}
use Rattle.std.proofs.lemmas.List.{append_assoc}
use Rattle.std.specs.Cmp.{nat_cmp_total}
use Rattle.std.specs.FinMap.{FinMap, empty_of_len, entries, entries_sorted, get, get-empty, get-entries, get-remove, len, len-remove, nat_cmp-IsAntisymmetric}
use Rattle.std.specs.FinMap.{remove}
use Rattle.std.specs.FinMap.Entries.{find, is_sorted}
use Rattle.std.specs.Ordering.{nat_cmp}
use Rattle.std.specs.Prelude.{T, map}
use Rattle.records.specs.ChangeValue.{ChangeValue}
use Rattle.records.specs.RecordValue.{RecordValue}
use Rattle.records.specs.Spelling.{new_row, old_row}
use Rattle.record_values.specs.declared.pair.Mark.{Mark}
use Rattle.record_values.specs.declared.pair.Pair.{Pair}
use Rattle.records.specs.declared.record.Action.{Action}
use Rattle.record_values.specs.declared.txn.TheConstants.{TXNS_MAX}
use Rattle.model.proofs.CellsLaws.{cells_after_one_more}
use Rattle.model.proofs.FollowingLaws.{following_push}
use Rattle.model.specs.Cells.{Cells, cells_after, list_of}
use Rattle.model.specs.Following.{AreFollowing, CanFollow, CanFollowBy, IsAdmitted, IsLastOf, IsNextOn}
use Rattle.model.specs.Given.{IsBeginning, given_after, opening_cells}
use Rattle.model.specs.History.{Item}
use Rattle.model.specs.declared.life.Life.{Life}
use Rattle.model.specs.declared.life.Life.TheVariants.{Absent}
use Rattle.model.specs.declared.write.Write.{Write}
use Rattle.core_model.proofs.Histories.{opened_holds}
use Rattle.core_model.proofs.Insides.{change_inside}
use Rattle.core_model.proofs.Latest.{gone_is, not_none}
use Rattle.core_model.proofs.Logs.{found_apart, found_here, left, none_below, opened_cells, recovers, right, run_cells, same_store}
use Rattle.core_model.proofs.Orders.{apart}
use Rattle.core_model.proofs.Records.{list_is, no_list, step_follows}
use Rattle.core_model.proofs.Runs.{run_keeps}
use Rattle.core_model.specs.Changes.{Changes, Unchanged, as_list, new_pair, old_pair, ◌▹◌}
use Rattle.core_model.specs.Histories.{CanOpen, Opened, deeds_of, no_writes, opened, writes_after, writes_over}
use Rattle.core_model.specs.Invariants.{Invariant, IsNumbered, IsShaped, IsWellFormed, Runs, no_step, one_step}
use Rattle.core_model.specs.Logs.{HasMade, IsLogOf, RecoversPrefix, item_at, items_from, items_over, next_number, one_record, records_from, records_over}
use Rattle.core_model.specs.Records.{HasCells, IsListOf, action_of, begun_action, first_action, next_action, place_action, set_by_any, undo_action}
use Rattle.core_model.specs.States.{Active, Made, NewMarked, OldMarked, OldSet, Phase, RowSet, State}
use Rattle.core_model.specs.Steps.{Attempt, Begin, Checkpoint, Clean, Commit, Create, Drop, End, Finish, IsBuilding, IsEnabled, IsPassed, Keep, Next, Start}
use Rattle.core_model.specs.Steps.{MachineStep, Take, Undo, Wrap, after, is_indexed, txn_at}

-- ---- a map has no more entries than one that has all its keys
some_len : {Y : Type 0} (n : FinMap nat_cmp Y) (k : ℕ) → get n k ≢ None → 1 ≤ len n
some_len n k h = by_len (len n) refl
  where
    by_len : (m : ℕ) → len n ≡ m → 1 ≤ len n
    by_len zero e = absurd (h (ap (λ f. get f k) (empty_of_len n e) ∙ get-empty nat_cmp k))
    by_len (suc m) e = omega (arith, e)

some_is : {Y : Type 0} (o : Option Y) → o ≢ None → is_some o ≡ true
some_is None h = absurd (h refl)
some_is (Some y) h = refl

shorter : {Y : Type 0} (n : FinMap nat_cmp Y) (k : ℕ) → get n k ≢ None → len (remove n k) + 1 ≡ len n
shorter n k h =
    let less : len (remove n k) ≡ len n - 1 = len-remove nat_cmp_total n k ∙ ap (λ b. cond b (len n - 1) (len n)) (some_is (get n k) h) in
    let some : 1 ≤ len n = some_len n k h in
    omega (arith, less, some)

still_there : {Y : Type 0} (n : FinMap nat_cmp Y) (k q : ℕ) → q ≢ k → get n q ≢ None → get (remove n k) q ≢ None
still_there n k q m h e = h (sym (get-remove nat_cmp_total n k q ∙ ap (λ b. cond b None (get n q)) (apart nat_cmp-IsAntisymmetric q k m)) ∙ e)

keys_fit : {X Y : Type 0} (es : List (ℕ × X)) → T (is_sorted nat_cmp es) → (n : FinMap nat_cmp Y) → ((k : ℕ) → find nat_cmp k es ≢ None → get n k ≢ None)
    → length es ≤ len n
keys_fit [] sorted n h = omega arith
keys_fit {X} {Y} (e ∷ es) sorted n h =
    let rest : length es ≤ len (remove n e.0) = keys_fit {Y = Y} es (right _ _ sorted) (remove n e.0) later in
    let less : len (remove n e.0) + 1 ≡ len n = shorter n e.0 (h e.0 (λ none. not_none (found_here e es) none)) in
    omega (arith, rest, less)
  where
    later : (k : ℕ) → find nat_cmp k es ≢ None → get (remove n e.0) k ≢ None
    later k found =
        let other : k ≢ e.0 = λ same. found (ap (λ q. find nat_cmp q es) same ∙ none_below e.0 es (left _ _ sorted)) in
        still_there n e.0 k other (h k (λ none. found (sym (found_apart e es k other) ∙ none)))

-- ---- one record
abbrev MayFollow : ℕ → Cells → Option Action → Type 0
MayFollow pages cells None = Unit {0}
MayFollow pages cells (Some action) = CanFollowBy pages cells action

not_absent : (life : Life) → is_indexed life ≡ true → life ≢ Absent
not_absent life e a = true≢false (sym e ∙ ap is_indexed a)

building_there : (life : Life) → IsBuilding life → life ≢ Absent
building_there life b a = not_absent life (ap is_indexed b.1) a

passed_there : (life : Life) (p : Pair) → IsPassed life p → life ≢ Absent
passed_there Absent p h e = h
passed_there life p h e = absurd (subst (λ l. IsPassed l p) e h)

module _ (s : State) (i : IsWellFormed s) (cells : Cells) (k : HasCells s cells) where
  has_life : (life : Life) → s.life ≡ life → (life ≢ Absent) → cells.life ≢ Absent
  has_life life e h a = h (sym e ∙ sym k.life ∙ a)

  there : s.life ≢ Absent → cells.life ≢ Absent
  there h a = h (sym k.life ∙ a)

  list_at : (t : ℕ) (x : Active) → s.txns t ≡ Some x → list_of cells.pending t ≡ as_list x.changes
  list_at t x active = list_is (get cells.pending t) x (subst (IsListOf (get cells.pending t)) active (k.pending t))

  -- a transaction with a list is active
  active_by : (u : ℕ) → get cells.pending u ≢ None → (o : Option Active) → s.txns u ≡ o → get s.pledges u ≢ None
  active_by u h None e none = h (no_list (get cells.pending u) (subst (IsListOf (get cells.pending u)) e (k.pending u)))
  active_by u h (Some x) e none = true≢false (sym (ap is_some e) ∙ sym (i.pledged u) ∙ ap is_some none)

  module _ (few : len s.pledges ≤ TXNS_MAX) (t : ℕ) (x : Active) (active : s.txns t ≡ Some x) where
    room_by : (list : Option (List ChangeValue)) → get cells.pending t ≡ list → IsAdmitted cells.pending t
    room_by (Some list) e = inl (λ none. not_none e none)
    room_by None none =
        let mine : get s.pledges t ≢ None = λ absent. true≢false (sym (ap is_some active) ∙ sym (i.pledged t) ∙ ap is_some absent) in
        let fits : length (entries cells.pending) ≤ len (remove s.pledges t) =
        keys_fit (entries cells.pending) (entries_sorted cells.pending) (remove s.pledges t) (λ u found.
        let got : get cells.pending u ≢ None = λ e. found (sym (get-entries cells.pending u) ∙ e) in
        still_there s.pledges t u (λ same. got (ap (get cells.pending) same ∙ none)) (active_by u got (s.txns u) refl)) in
        let less : len (remove s.pledges t) + 1 ≡ len s.pledges = shorter s.pledges t mine in
        inr (omega (arith, fits, less, few))

    room : IsAdmitted cells.pending t
    room = room_by (get cells.pending t) refl

    next_on : (c : ChangeValue) → c.position ≡ length (as_list x.changes) → IsNextOn (list_of cells.pending t) c
    next_on c e = inl (e ∙ ap length (sym (list_at t x active)))

  module _ (t : ℕ) (x : Active) (active : s.txns t ≡ Some x) (c : ChangeValue) (older : Changes) (e : x.changes ≡ older ▹ c) where
    last_of : IsLastOf (list_of cells.pending t) c
    last_of =
        let position : c.position ≡ length (as_list older) = (subst IsNumbered e (i.txns t x active).numbered).0 in
        (as_list older, list_at t x active ∙ ap as_list e, position)

    inside : c.rid.page < s.pages
    inside = change_inside s i t x active c older e

    old_there : (p : Pair) → old_pair (is_indexed s.life) c ≡ Some p → cells.life ≢ Absent
    old_there p h = there (not_absent s.life (gone_is (is_indexed s.life) c.rid (old_row c.rows) (new_row c.rows) p h).there)

    new_there : (p : Pair) → new_pair (is_indexed s.life) c ≡ Some p → cells.life ≢ Absent
    new_there p h = there (not_absent s.life (gone_is (is_indexed s.life) c.rid (new_row c.rows) (old_row c.rows) p h).there)

    begun_follows : (o : Option Pair) → new_pair (is_indexed s.life) c ≡ o
        → MayFollow s.pages cells (Some (begun_action t c (old_pair (is_indexed s.life) c) o))
    begun_follows None h = (inside, tt, last_of)
    begun_follows (Some p) h = (inside, new_there p h, last_of)

  start_follows : len s.pledges ≤ TXNS_MAX → (t : ℕ) (x : Active) → s.txns t ≡ Some x → (c : ChangeValue) → c.position ≡ length (as_list x.changes)
      → c.rid.page < s.pages → (o : Option Pair) → old_pair (is_indexed s.life) c ≡ o
      → MayFollow s.pages cells (Some (first_action t c o))
  start_follows few t x active c e l None h = (l, tt, next_on few t x active c e, room few t x active)
  start_follows few t x active c e l (Some p) h = (
    l,
    there (not_absent s.life (gone_is (is_indexed s.life) c.rid (old_row c.rows) (new_row c.rows) p h).there),
    next_on few t x active c e,
    room few t x active,
  )

  next_follows : len s.pledges ≤ TXNS_MAX → (t : ℕ) (x : Active) → s.txns t ≡ Some x → (cs : Changes) → x.changes ≡ cs → (phase : Phase)
      → IsShaped (is_indexed s.life) cs phase → MayFollow s.pages cells (next_action t cs phase)
  next_follows few t x active Unchanged e phase h = tt
  next_follows few t x active (older ▹ c) e OldMarked h = (inside t x active c older e, tt, inr (last_of t x active c older e), room few t x active)
  next_follows few t x active (older ▹ c) e RowSet h =
      (inside t x active c older e, new_there t x active c older e h.it h.is, inr (last_of t x active c older e), room few t x active)
  next_follows few t x active (older ▹ c) e Made h = tt
  next_follows few t x active (older ▹ c) e (NewMarked b) h = tt
  next_follows few t x active (older ▹ c) e OldSet h = tt

  undo_follows : (t : ℕ) (x : Active) → s.txns t ≡ Some x → (cs : Changes) → x.changes ≡ cs → (phase : Phase) → IsShaped (is_indexed s.life) cs phase
      → MayFollow s.pages cells (undo_action (is_indexed s.life) t cs phase)
  undo_follows t x active Unchanged e phase h = tt
  undo_follows t x active (older ▹ c) e OldMarked h = begun_follows t x active c older e _ refl
  undo_follows t x active (older ▹ c) e RowSet h = begun_follows t x active c older e _ refl
  undo_follows t x active (older ▹ c) e Made h = begun_follows t x active c older e _ refl
  undo_follows t x active (older ▹ c) e (NewMarked b) h = (inside t x active c older e, tt, last_of t x active c older e)
  undo_follows t x active (older ▹ c) e OldSet h = (inside t x active c older e, old_there t x active c older e h.it h.is, last_of t x active c older e)

  place_follows : (p : Pair) → p.rid.page < s.pages → IsBuilding s.life → (o : Option Mark) → MayFollow s.pages cells (place_action p o)
  place_follows p l b None = (l, (b.0, k.life ∙ b.1))
  place_follows p l b (Some mark) = tt

  may_follow : len s.pledges ≤ TXNS_MAX → (e : MachineStep) → IsEnabled s e → MayFollow s.pages cells (action_of s e)
  may_follow few (Begin t) a = tt
  may_follow few (Start t c) a = start_follows few t (txn_at s t) a.active c a.position a.inside _ refl
  may_follow few (Next t) a = next_follows few t (txn_at s t) a.0 (txn_at s t).changes refl (txn_at s t).phase (i.txns t (txn_at s t) a.0).shaped
  may_follow few (Undo t) a = undo_follows t (txn_at s t) a (txn_at s t).changes refl (txn_at s t).phase (i.txns t (txn_at s t) a).shaped
  may_follow few (End t) a = tt
  may_follow few (Commit t) a = tt
  may_follow few Create a = k.life ∙ a.0
  may_follow few (Take n) a = tt
  may_follow few (Attempt p) a = place_follows p (i.inside.given p a.given) a.building (get s.entries p)
  may_follow few (Checkpoint p) a = (i.inside.bound p a.1, (a.0.0, k.life ∙ a.0.1))
  may_follow few Finish a = (a.building.0, k.life ∙ a.building.1)
  may_follow few (Clean p) a = (i.inside.entries p (λ none. not_none a.marked none), there (passed_there s.life p a.passed))
  may_follow few (Keep p) a = tt
  may_follow few Wrap a = tt
  may_follow few Drop a = λ e. a.0 (sym k.life ∙ e)

pub step_record : (s : State) (e : MachineStep) (cells : Cells) (last : ℕ) (action : Action) → IsWellFormed s → IsEnabled s e → HasCells s cells
    → len s.pledges ≤ TXNS_MAX → action_of s e ≡ Some action
    → CanFollow s.pages last cells (record { number = last + 1; action = action })
step_record s e cells last action i a k few is = record { number = refl; allowed = subst (MayFollow s.pages cells) is (may_follow s i cells k few e a) }

-- ---- a log that goes on
pub log_begins : (pages base : ℕ) (cells : Cells) (s : State) → HasCells s cells → IsLogOf pages base cells [] s
log_begins pages base cells s k = record { set = k; in_order = tt }

pub log_goes_on : (base : ℕ) (cells : Cells) (log : List RecordValue) (s : State) → IsWellFormed s → IsLogOf s.pages base cells log s → (e : MachineStep)
    → IsEnabled s e → len s.pledges ≤ TXNS_MAX
    → IsLogOf s.pages base cells (log ++ one_record (base + length log) (action_of s e)) (after s e)
log_goes_on base cells log s w h e a few = by_action (action_of s e) refl (step_follows s e (cells_after cells log) w a h.set)
  where
    by_action : (o : Option Action) → action_of s e ≡ o → HasCells (after s e) (set_by_any (cells_after cells log) o)
        → IsLogOf s.pages base cells (log ++ one_record (base + length log) o) (after s e)
    by_action None is k = subst (λ rs. IsLogOf s.pages base cells rs (after s e)) (sym (append-nil log)) (record { set = k; in_order = h.in_order })
    by_action (Some action) is k = record {
      set = subst (HasCells (after s e)) (sym (cells_after_one_more cells log (record { number = base + length log + 1; action = action }))) k;
      in_order =
          following_push s.pages base cells log (record { number = base + length log + 1; action = action }) h.in_order
          (step_record s e (cells_after cells log) (base + length log) action w a h.set few is);
    }

-- ---- a run that goes on
module _ (e : MachineStep) where
  run_more : (s s' : State) (es : List MachineStep) → Runs s es s' → IsEnabled s' e → Runs s (es ++ e ∷ []) (after s' e)
  run_more s s' es no_step a = one_step {s = s} {s' = after s e} e [] a no_step
  run_more s s' es (one_step f rest b r) a = one_step {s = s} {s' = after s' e} f (rest ++ e ∷ []) b (run_more (after s f) s' rest r a)

  writes_more : (es : List MachineStep) (writes : ℕ → List Write) → writes_over writes (es ++ e ∷ []) ≡ writes_after (writes_over writes es) e
  writes_more [] writes = refl
  writes_more (f ∷ es) writes = writes_more es (writes_after writes f)

  records_more : (s s' : State) (es : List MachineStep) → Runs s es s' → (last n : ℕ) → n ≡ last + length (records_from s last es)
      → records_from s last (es ++ e ∷ []) ≡ records_from s last es ++ one_record n (action_of s' e)
  records_more s s' es no_step last n h = ap (λ m. one_record m (action_of s e) ++ []) (sym (h ∙ no_more)) ∙ append-nil _
    where
      no_more : last + 0 ≡ last
      no_more = omega arith
  records_more s s' es (one_step f rest b r) last n h =
      ap (λ l. one_record last (action_of s f) ++ l) (records_more (after s f) s' rest r (next_number last (action_of s f)) n (shift (action_of s f) h))
      ∙ sym (append_assoc (one_record last (action_of s f)) (records_from (after s f) (next_number last (action_of s f)) rest) (one_record n (action_of s' e)))
    where
      shift : (o : Option Action) → n ≡ last + length (one_record last o ++ records_from (after s f) (next_number last o) rest)
          → n ≡ next_number last o + length (records_from (after s f) (next_number last o) rest)
      shift None h = h
      shift (Some action) h = omega (arith, h)

  items_more : (s s' : State) (es : List MachineStep) → Runs s es s' → (writes : ℕ → List Write) (last n : ℕ) → n ≡ last + length (records_from s last es)
      → items_from writes s last (es ++ e ∷ []) ≡ items_from writes s last es ++ map (item_at n) (deeds_of (writes_over writes es) e)
  items_more s s' es no_step writes last n h = ap (λ m. map (item_at m) (deeds_of writes e) ++ []) (sym (h ∙ no_more)) ∙ append-nil _
    where
      no_more : last + 0 ≡ last
      no_more = omega arith
  items_more s s' es (one_step f rest b r) writes last n h =
      ap (λ l. map (item_at last) (deeds_of writes f) ++ l)
      (items_more (after s f) s' rest r (writes_after writes f) (next_number last (action_of s f)) n (shift (action_of s f) h))
      ∙ sym (append_assoc (map (item_at last) (deeds_of writes f)) (items_from (writes_after writes f) (after s f) (next_number last (action_of s f)) rest)
      (map (item_at n) (deeds_of (writes_over (writes_after writes f) rest) e)))
    where
      shift : (o : Option Action) → n ≡ last + length (one_record last o ++ records_from (after s f) (next_number last o) rest)
          → n ≡ next_number last o + length (records_from (after s f) (next_number last o) rest)
      shift None h = h
      shift (Some action) h = omega (arith, h)

pub made_nothing : (o : Opened) → HasMade o [] [] no_writes (opened o)
made_nothing o = record { steps = []; run = no_step; records = refl; history = refl; asked = refl; in_order = tt }

module _ (o : Opened) (can : CanOpen o) (made : List RecordValue) (items : List Item) (writes : ℕ
    → List Write) (s : State) (h : HasMade o made items writes s) where
  pub made_holds : Invariant s
  made_holds = run_keeps _ s h.steps h.run (opened_holds o can)

  pub made_cells : HasCells s (cells_after (opening_cells o.given) made)
  made_cells = subst (λ rs. HasCells s (cells_after (opening_cells o.given) rs)) (sym h.records)
      (run_cells (opened o) s h.steps h.run (opened_holds o can) o.given.last (opening_cells o.given) (opened_cells o))

  pub made_recovers : (n : ℕ) → n ≤ length made → IsBeginning o.given items (o.given.last + n) (given_after o.given (take n made))
      × CanOpen (record o { given = given_after o.given (take n made) })
  made_recovers n le =
      let r : RecoversPrefix o h.steps n = recovers o can h.steps s h.run n (subst (λ (rs : List RecordValue). n ≤ length rs) h.records le) in (
        subst (λ (rs : List RecordValue). IsBeginning o.given items (o.given.last + n) (given_after o.given (take n rs))) (sym h.records)
            (subst (λ its. IsBeginning o.given its (o.given.last + n) (given_after o.given (take n (records_over o h.steps)))) (sym h.history) r.beginning),
        subst (λ (rs : List RecordValue). CanOpen (record o { given = given_after o.given (take n rs) })) (sym h.records) r.opens,
      )

  module _ (e : MachineStep) (a : IsEnabled s e) (few : len s.pledges ≤ TXNS_MAX) where
    abbrev last : ℕ
    last = o.given.last + length made

    last_is : last ≡ o.given.last + length (records_over o h.steps)
    last_is = ap (λ (rs : List RecordValue). o.given.last + length rs) h.records

    following : (action : Option Action) → action_of s e ≡ action → AreFollowing o.pages o.given.last (opening_cells o.given) (made ++ one_record last action)
    following None is = subst (AreFollowing o.pages o.given.last (opening_cells o.given)) (sym (append-nil made)) h.in_order
    following (Some action) is =
        following_push o.pages o.given.last (opening_cells o.given) made (record { number = last + 1; action = action }) h.in_order
        (subst (λ pages. CanFollow pages last (cells_after (opening_cells o.given) made) (record { number = last + 1; action = action }))
        (same_store (opened o) s h.steps h.run).pages
        (step_record s e (cells_after (opening_cells o.given) made) last action made_holds.fit a made_cells few is))

    pub made_more : HasMade o (made ++ one_record (o.given.last + length made) (action_of s e))
        (items ++ map (item_at (o.given.last + length made)) (deeds_of writes e)) (writes_after writes e) (after s e)
    made_more = record {
      steps = h.steps ++ e ∷ [];
      run = run_more e (opened o) s h.steps h.run a;
      records = ap (λ rs. rs ++ one_record last (action_of s e)) h.records ∙ sym (records_more e (opened o) s h.steps h.run o.given.last last last_is);
      history = ap (λ its. its ++ map (item_at last) (deeds_of writes e)) h.history
          ∙ ap (λ w. items_over o h.steps ++ map (item_at last) (deeds_of w e)) h.asked
          ∙ sym (items_more e (opened o) s h.steps h.run no_writes o.given.last last last_is);
      asked = ap (λ w. writes_after w e) h.asked ∙ sym (writes_more e h.steps no_writes);
      in_order = following (action_of s e) refl;
    }

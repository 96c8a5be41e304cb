-- What is recovered of the records of a run, wherever they stop.
use Rattle.std.proofs.Common.{Bool, List, None, Option, Some, [], ap, arith, cond, false, inl, inr, length, refl, subst, suc, sym, take, true, zero, ℕ, ◌&&◌}
use Rattle.std.proofs.Common.{◌++◌, ◌+◌, ◌<◌, ◌∙◌, ◌∷◌, ◌≡◌, ◌≢◌, ◌≤◌}
use Rattle.std.proofs.lemmas.Bool.{le-leb, lt-leb}
use Rattle.std.proofs.lemmas.List.{map-append}
use Rattle.std.specs.Cmp.{nat_cmp_total, tied_itself}
use Rattle.std.specs.FinMap.{entries, entries_sorted, get-empty, get-entries, nat_cmp-IsAntisymmetric}
use Rattle.std.specs.FinMap.Entries.{below_all, find, is_sorted}
use Rattle.std.specs.Ordering.{is_lt, nat_cmp}
use Rattle.std.specs.Prelude.{T, map}
use Rattle.records.specs.ChangeValue.{ChangeValue}
use Rattle.record_values.specs.Maps.{alike, nat_exact, other_key, rid_exact, same_key}
use Rattle.records.specs.RecordValue.{RecordValue}
use Rattle.record_values.specs.declared.pair.Pair.{Pair}
use Rattle.records.specs.declared.record.Action.{Action}
use Rattle.model.proofs.HistoryLaws.{up_to-append}
use Rattle.model.specs.Cells.{Cells, cells_after, reverted}
use Rattle.model.specs.Given.{Given, IsBeginning, all_entries_reverted, entries_reverted, given_after, opening_cells, recovered}
use Rattle.model.specs.History.{Deed, Item, life_after, table_after, up_to}
use Rattle.model.specs.Recovery.{all_reverted}
use Rattle.model.specs.Table.{Table}
use Rattle.record_values.specs.Entries.{Index}
use Rattle.model.specs.declared.write.Write.{Write}
use Rattle.core_model.proofs.Frames.{nat_decided}
use Rattle.core_model.proofs.Histories.{live_by, opened_holds, told_life, told_table}
use Rattle.core_model.proofs.Latest.{not_none}
use Rattle.core_model.proofs.Orders.{update_apart, update_here}
use Rattle.core_model.proofs.Records.{step_follows}
use Rattle.core_model.proofs.Restarts.{CanRestart, can_restart}
use Rattle.core_model.proofs.Runs.{run_keeps, step_keeps}
use Rattle.core_model.specs.Changes.{Changes, Unchanged, as_list, new_pair, old_pair, ◌▹◌}
use Rattle.core_model.specs.Histories.{AreItemsOf, CanOpen, IsFaithful, Opened, deeds_of, history, no_writes, opened, writes_after}
use Rattle.core_model.specs.Invariants.{Invariant, Runs, no_step, one_step}
use Rattle.core_model.specs.Logs.{RecoversPrefix, item_at, items_from, items_over, next_number, one_record, records_from, records_over}
use Rattle.core_model.specs.Records.{HasCells, IsListOf, action_of, set_by_any}
use Rattle.core_model.proofs.Undone.{IsListing, entries_back, entries_undone, restarted, rows_back, rows_undone}
use Rattle.core_model.specs.States.{Active, Made, NewMarked, OldMarked, OldSet, Phase, RowSet, State}
use Rattle.core_model.specs.Steps.{Attempt, Begin, Checkpoint, Clean, Commit, Create, Drop, End, Finish, IsEnabled, Keep, Next, Start, MachineStep, Take, Undo}
use Rattle.core_model.specs.Steps.{Wrap, after, carried_on, is_indexed, started, txn_at, undone, undone_first, update}

-- ---- a list of changes, as a transaction has it
abbrev behind : Changes → List ChangeValue → Changes
behind cs [] = cs
behind cs (d ∷ ds) = behind (cs ▹ d) ds

abbrev changes_of : List ChangeValue → Changes
changes_of list = behind Unchanged list

behind-append : (cs : Changes) (xs ys : List ChangeValue) → behind cs (xs ++ ys) ≡ behind (behind cs xs) ys
behind-append cs [] ys = refl
behind-append cs (x ∷ xs) ys = behind-append (cs ▹ x) xs ys

changes_of-listed : (cs : Changes) → changes_of (as_list cs) ≡ cs
changes_of-listed Unchanged = refl
changes_of-listed (older ▹ c) = behind-append Unchanged (as_list older) (c ∷ []) ∙ ap (λ cs. cs ▹ c) (changes_of-listed older)

-- ---- taken back as a list, or as a transaction has them
rows_same : (cs : Changes) (ds : List ChangeValue) (rows : Table) → rows_undone (behind cs ds) rows ≡ rows_undone cs (reverted rows ds)
rows_same cs [] rows = refl
rows_same cs (d ∷ ds) rows = rows_same (cs ▹ d) ds rows

entries_same : (indexed : Bool) (cs : Changes) (ds : List ChangeValue) (entries : Index)
    → entries_undone indexed (behind cs ds) entries ≡ entries_undone indexed cs (entries_reverted indexed entries ds)
entries_same indexed cs [] entries = refl
entries_same indexed cs (d ∷ ds) entries = entries_same indexed (cs ▹ d) ds entries

abbrev Lists : Type 0
Lists = List (ℕ × List ChangeValue)

abbrev as_changes : Lists → List (ℕ × Changes)
as_changes [] = []
as_changes (l ∷ ls) = (l.0, changes_of l.1) ∷ as_changes ls

rows_all : (ls : Lists) (rows : Table) → rows_back (as_changes ls) rows ≡ all_reverted rows ls
rows_all [] rows = refl
rows_all (l ∷ ls) rows = rows_all ls (rows_undone (changes_of l.1) rows) ∙ ap (λ m. all_reverted m ls) (rows_same Unchanged l.1 rows)

entries_all : (indexed : Bool) (ls : Lists) (entries : Index) → entries_back indexed (as_changes ls) entries ≡ all_entries_reverted indexed entries ls
entries_all indexed [] entries = refl
entries_all indexed (l ∷ ls) entries = entries_all indexed ls (entries_undone indexed (changes_of l.1) entries)
    ∙ ap (λ m. all_entries_reverted indexed m ls) (entries_same indexed Unchanged l.1 entries)

-- ---- the lists of the cells are those of the active transactions
pub left : (a b : Bool) → T (a && b) → T a
left true b h = tt
left false b h = absurd h

pub right : (a b : Bool) → T (a && b) → T b
right true b h = h
right false b h = absurd h

below_apart : (k x : ℕ) → T (is_lt (nat_cmp k x)) → k ≢ x
below_apart k x h is = subst (λ r. T (is_lt r)) (ap (nat_cmp k) (sym is) ∙ tied_itself nat_cmp_total k) h

pub none_below : {X : Type 0} (k : ℕ) (ls : List (ℕ × X)) → T (below_all nat_cmp k ls) → find nat_cmp k ls ≡ None
none_below k [] h = refl
none_below k (l ∷ ls) h = ap (λ b. cond b (Some l.1) (find nat_cmp k ls)) (other_key nat_exact k l.0 (below_apart k l.0 (left _ _ h)))
    ∙ none_below k ls (right _ _ h)

pub found_here : {X : Type 0} (l : ℕ × X) (ls : List (ℕ × X)) → find nat_cmp l.0 (l ∷ ls) ≡ Some l.1
found_here l ls = ap (λ b. cond b (Some l.1) (find nat_cmp l.0 ls)) (same_key nat_exact l.0)

pub found_apart : {X : Type 0} (l : ℕ × X) (ls : List (ℕ × X)) (k : ℕ) → k ≢ l.0 → find nat_cmp k (l ∷ ls) ≡ find nat_cmp k ls
found_apart l ls k n = ap (λ b. cond b (Some l.1) (find nat_cmp k ls)) (other_key nat_exact k l.0 n)

first_listed : (o : Option Active) (l : List ChangeValue) → IsListOf (Some l) o → (x : Active) × (o ≡ Some x) × (x.changes ≡ changes_of l)
first_listed None l h = absurd h
first_listed (Some x) l h = (x, refl, sym (changes_of-listed x.changes) ∙ ap changes_of (sym h))

lists : (ls : Lists) (txns : ℕ → Option Active) → T (is_sorted nat_cmp ls) → ((t : ℕ) → IsListOf (find nat_cmp t ls) (txns t)) → IsListing txns (as_changes ls)
lists [] txns sorted h = λ t x e. subst (IsListOf None) e (h t)
lists (l ∷ ls) txns sorted h = (
  first_listed (txns l.0) l.1 (subst (λ f. IsListOf f (txns l.0)) (found_here l ls) (h l.0)),
  lists ls (update nat_cmp txns l.0 None) (right _ _ sorted) (λ t. elim (nat_decided t l.0) [
    | inl same ↦
        subst (λ f. IsListOf f (update nat_cmp txns l.0 None t)) (sym (ap (λ k. find nat_cmp k ls) same ∙ none_below l.0 ls (left _ _ sorted)))
        (subst (IsListOf None) (sym (ap (update nat_cmp txns l.0 None) same ∙ update_here nat_cmp_total txns l.0 None)) tt)
    | inr n ↦
        subst (λ f. IsListOf f (update nat_cmp txns l.0 None t)) (found_apart l ls t n)
        (subst (IsListOf (find nat_cmp t (l ∷ ls))) (sym (update_apart nat_cmp-IsAntisymmetric txns l.0 None t n)) (h t))
  ]),
)

module _ (s : State) (cells : Cells) (k : HasCells s cells) where
  abbrev listing : List (ℕ × Changes)
  listing = as_changes (entries cells.pending)

  pub is_listing : IsListing s.txns listing
  is_listing = lists (entries cells.pending) s.txns (entries_sorted cells.pending) (λ t.
      subst (λ f. IsListOf f (s.txns t)) (get-entries cells.pending t) (k.pending t))

  -- what is recovered of the cells is what a restart gives
  pub recovered_is : (last : ℕ) → recovered cells last ≡ (restarted s listing last).given
  recovered_is last =
      let rows : all_reverted cells.rows (entries cells.pending) ≡ rows_back listing s.rows = ap (λ m. all_reverted m (entries cells.pending)) k.rows
      ∙ sym (rows_all (entries cells.pending) s.rows) in
      let index : all_entries_reverted (is_indexed cells.life) cells.entries (entries cells.pending) ≡ entries_back (is_indexed s.life) listing s.entries =
      ap (λ life. all_entries_reverted (is_indexed life) cells.entries (entries cells.pending)) k.life
      ∙ ap (λ m. all_entries_reverted (is_indexed s.life) m (entries cells.pending)) k.entries
      ∙ sym (entries_all (is_indexed s.life) (entries cells.pending) s.entries) in
      λ i. record { table = rows i; entries = index i; life = k.life i; last = last }

-- what is recovered of the cells of a state is its committed table, and a core may begin with it
pub record IsRecovered (s : State) (given : Given) : Type 0 where
  pub table : given.table ≡ s.committed
  pub opens : CanOpen (record { given = given; pages = s.pages; places = s.places })

pub recovers_state : (s : State) → Invariant s → (cells : Cells) → HasCells s cells → (last : ℕ) → IsRecovered s (recovered cells last)
recovers_state s i cells k last =
    let done : CanRestart s (listing s cells k) last = can_restart (listing s cells k) last s i.coherent i.fit.inside i.fit.places (is_listing s cells k) in
    let is : recovered cells last ≡ (restarted s (listing s cells k) last).given = recovered_is s cells k last in
    record {
      table = ap (λ (g : Given). g.table) is ∙ alike rid_exact (rows_back (listing s cells k) s.rows) s.committed done.table;
      opens = subst (λ g. CanOpen (record { given = g; pages = s.pages; places = s.places })) (sym is) done.opens;
    }

pub faithful : (s : State) → Invariant s → IsFaithful s s.committed
faithful s i = record {
  back = λ cells k. (recovers_state s i cells k 0).table;
  sound = i.coherent.sound;
  complete = live_by s i;
  empty = i.coherent.empty;
  fits = i.fit.places.fits;
}

-- whatever the order of the steps
pub interleaved : (o : Opened) → CanOpen o → (es : List MachineStep) (s : State) → Runs (opened o) es s → (items : List Item) → AreItemsOf items es
    → IsFaithful s (table_after o.given.table items) × (s.life ≡ life_after o.given.life items)
interleaved o can es s r items h = (
  subst (IsFaithful s) (told_table o es s r items h) (faithful s (run_keeps _ s es r (opened_holds o can))),
  told_life o es s r items h,
)

-- ---- the store's size stays
pub record SameStore (s s' : State) : Type 0 where
  pub pages : s'.pages ≡ s.pages
  pub places : s'.places ≡ s.places

store_started : (s : State) (t : ℕ) (x : Active) (c : ChangeValue) (o : Option Pair) → SameStore s (started s t x c o)
store_started s t x c None = record { pages = refl; places = refl }
store_started s t x c (Some p) = record { pages = refl; places = refl }

store_carried : (s : State) (t : ℕ) (x : Active) (cs : Changes) (phase : Phase) → SameStore s (carried_on s t x cs phase)
store_carried s t x Unchanged phase = record { pages = refl; places = refl }
store_carried s t x (older ▹ c) OldMarked = record { pages = refl; places = refl }
store_carried s t x (older ▹ c) RowSet = record { pages = refl; places = refl }
store_carried s t x (older ▹ c) Made = record { pages = refl; places = refl }
store_carried s t x (older ▹ c) (NewMarked b) = record { pages = refl; places = refl }
store_carried s t x (older ▹ c) OldSet = record { pages = refl; places = refl }

store_first : (s : State) (t : ℕ) (x : Active) (c : ChangeValue) (older : Changes) (b : Bool) (o : Option Pair) → SameStore s (undone_first s t x c older b o)
store_first s t x c older b None = record { pages = refl; places = refl }
store_first s t x c older b (Some p) = record { pages = refl; places = refl }

store_undone : (s : State) (t : ℕ) (x : Active) (cs : Changes) (phase : Phase) → SameStore s (undone s t x cs phase)
store_undone s t x Unchanged phase = record { pages = refl; places = refl }
store_undone s t x (older ▹ c) OldMarked = store_first s t x c older _ (new_pair (is_indexed s.life) c)
store_undone s t x (older ▹ c) RowSet = store_first s t x c older _ (new_pair (is_indexed s.life) c)
store_undone s t x (older ▹ c) Made = store_first s t x c older _ (new_pair (is_indexed s.life) c)
store_undone s t x (older ▹ c) (NewMarked b) = record { pages = refl; places = refl }
store_undone s t x (older ▹ c) OldSet = record { pages = refl; places = refl }

store_step : (s : State) (e : MachineStep) → SameStore s (after s e)
store_step s (Begin t) = record { pages = refl; places = refl }
store_step s (Start t c) = let v : SameStore s _ = store_started s t (txn_at s t) c (old_pair (is_indexed s.life) c) in
    record { pages = v.pages; places = v.places }
store_step s (Next t) = let v : SameStore s _ = store_carried s t (txn_at s t) (txn_at s t).changes (txn_at s t).phase in
    record { pages = v.pages; places = v.places }
store_step s (Undo t) = let v : SameStore s _ = store_undone s t (txn_at s t) (txn_at s t).changes (txn_at s t).phase in
    record { pages = v.pages; places = v.places }
store_step s (End t) = record { pages = refl; places = refl }
store_step s (Commit t) = record { pages = refl; places = refl }
store_step s Create = record { pages = refl; places = refl }
store_step s (Take n) = record { pages = refl; places = refl }
store_step s (Attempt p) = record { pages = refl; places = refl }
store_step s (Checkpoint p) = record { pages = refl; places = refl }
store_step s Finish = record { pages = refl; places = refl }
store_step s (Clean p) = record { pages = refl; places = refl }
store_step s (Keep p) = record { pages = refl; places = refl }
store_step s Wrap = record { pages = refl; places = refl }
store_step s Drop = record { pages = refl; places = refl }

pub same_store : (s s' : State) (es : List MachineStep) → Runs s es s' → SameStore s s'
same_store s s' es no_step = record { pages = refl; places = refl }
same_store s s' es (one_step e rest a r) =
    let one : SameStore s (after s e) = store_step s e in
    let all : SameStore (after s e) s' = same_store (after s e) s' rest r in
    record { pages = all.pages ∙ one.pages; places = all.places ∙ one.places }

-- ---- the records of a run set its cells
after-append : (cells : Cells) (last : ℕ) (o : Option Action) (records : List RecordValue)
    → cells_after cells (one_record last o ++ records) ≡ cells_after (set_by_any cells o) records
after-append cells last None records = refl
after-append cells last (Some action) records = refl

pub run_cells : (s s' : State) (es : List MachineStep) → Runs s es s' → Invariant s → (last : ℕ) (cells : Cells) → HasCells s cells
    → HasCells s' (cells_after cells (records_from s last es))
run_cells s s' es no_step i last cells k = k
run_cells s s' es (one_step e rest a r) i last cells k =
    subst (HasCells s') (sym (after-append cells last (action_of s e) (records_from (after s e) (next_number last (action_of s e)) rest)))
    (run_cells (after s e) s' rest r (step_keeps s e i a) (next_number last (action_of s e)) (set_by_any cells (action_of s e))
    (step_follows s e cells i.fit a k))

pub opened_cells : (o : Opened) → HasCells (opened o) (opening_cells o.given)
opened_cells o = record { rows = refl; entries = refl; pending = λ t. subst (λ f. IsListOf f None) (sym (get-empty nat_cmp t)) tt; life = refl }

-- ---- its items have the deeds of its history
abbrev pub deeds : List Item → List Deed
deeds items = map (λ (item : Item). item.deed) items

one_deeds : (last : ℕ) (ds : List Deed) → deeds (map (item_at last) ds) ≡ ds
one_deeds last [] = refl
one_deeds last (d ∷ ds) = ap (λ l. d ∷ l) (one_deeds last ds)

pub items_deeds : (writes : ℕ → List Write) (s : State) (last : ℕ) (es : List MachineStep) → deeds (items_from writes s last es) ≡ history writes es
items_deeds writes s last [] = refl
items_deeds writes s last (e ∷ es) =
    map-append (λ (item : Item). item.deed) (map (item_at last) (deeds_of writes e))
    (items_from (writes_after writes e) (after s e) (next_number last (action_of s e)) es)
    ∙ ap (λ l. l ++ deeds (items_from (writes_after writes e) (after s e) (next_number last (action_of s e)) es)) (one_deeds last (deeds_of writes e))
    ∙ ap (λ l. deeds_of writes e ++ l) (items_deeds (writes_after writes e) (after s e) (next_number last (action_of s e)) es)

-- ---- a prefix of the records is made by a prefix of the steps, and so are the items up to its last record
-- a step with a deed makes a record
pub no_deeds : (s : State) (writes : ℕ → List Write) (e : MachineStep) → action_of s e ≡ None → deeds_of writes e ≡ []
no_deeds s writes (Begin t) h = refl
no_deeds s writes (Start t c) h = refl
no_deeds s writes (Next t) h = refl
no_deeds s writes (Undo t) h = refl
no_deeds s writes (End t) h = refl
no_deeds s writes (Commit t) h = absurd (not_none refl h)
no_deeds s writes Create h = absurd (not_none refl h)
no_deeds s writes (Take n) h = refl
no_deeds s writes (Attempt p) h = refl
no_deeds s writes (Checkpoint p) h = absurd (not_none refl h)
no_deeds s writes Finish h = absurd (not_none refl h)
no_deeds s writes (Clean p) h = refl
no_deeds s writes (Keep p) h = refl
no_deeds s writes Wrap h = refl
no_deeds s writes Drop h = absurd (not_none refl h)

pub up_here : (last n : ℕ) → last + 1 ≤ n → (ds : List Deed) → up_to n (map (item_at last) ds) ≡ map (item_at last) ds
up_here last n le [] = refl
up_here last n le (d ∷ ds) = rw (le-leb (last + 1) n le) (ap (λ l. item_at last d ∷ l) (up_here last n le ds))

up_above : (last n : ℕ) → n ≤ last → (ds : List Deed) → up_to n (map (item_at last) ds) ≡ []
up_above last n le [] = refl
up_above last n le (d ∷ ds) = let lt : n < last + 1 = omega (arith, le) in rw (lt-leb (last + 1) n lt) (up_above last n le ds)

pub next_above : (last : ℕ) (o : Option Action) → last ≤ next_number last o
next_above last None = omega arith
next_above last (Some a) = omega arith

none_up_to : (es : List MachineStep) (writes : ℕ → List Write) (s : State) (last n : ℕ) → n ≤ last → up_to n (items_from writes s last es) ≡ []
none_up_to [] writes s last n le = refl
none_up_to (e ∷ es) writes s last n le =
    let above : last ≤ next_number last (action_of s e) = next_above last (action_of s e) in
    up_to-append n (map (item_at last) (deeds_of writes e)) (items_from (writes_after writes e) (after s e) (next_number last (action_of s e)) es)
    ∙ ap (λ l. l ++ up_to n (items_from (writes_after writes e) (after s e) (next_number last (action_of s e)) es)) (up_above last n le (deeds_of writes e))
    ∙ none_up_to es (writes_after writes e) (after s e) (next_number last (action_of s e)) n (omega (arith, le, above))

pub record UpTo (writes : ℕ → List Write) (s : State) (last : ℕ) (es : List MachineStep) (n : ℕ) : Type 0 where
  pub steps : List MachineStep
  pub end : State
  pub run : Runs s steps end
  pub records : take n (records_from s last es) ≡ records_from s last steps
  pub items : up_to (last + n) (items_from writes s last es) ≡ items_from writes s last steps

nothing_yet : (writes : ℕ → List Write) (s : State) (last : ℕ) (es : List MachineStep) → UpTo writes s last es zero
nothing_yet writes s last es = record {
  steps = [];
  end = s;
  run = no_step;
  records = refl;
  items = none_up_to es writes s last (last + zero) (omega arith);
}

module _ (s : State) (e : MachineStep) (rest : List MachineStep) (a : IsEnabled s e) (writes : ℕ → List Write) (last k : ℕ) where
  abbrev Later : Option Action → Type 0
  Later o = (m : ℕ) → m ≤ length (records_from (after s e) (next_number last o) rest) → UpTo (writes_after writes e) (after s e) (next_number last o) rest m

  abbrev all_records : Option Action → List MachineStep → List RecordValue
  all_records o es = one_record last o ++ records_from (after s e) (next_number last o) es

  abbrev all_items : Option Action → List Deed → List MachineStep → List Item
  all_items o ds es = map (item_at last) ds ++ items_from (writes_after writes e) (after s e) (next_number last o) es

  record Part (o : Option Action) (ds : List Deed) : Type 0 where
    pub steps : List MachineStep
    pub end : State
    pub run : Runs (after s e) steps end
    pub records : take (suc k) (all_records o rest) ≡ all_records o steps
    pub items : up_to (last + suc k) (all_items o ds rest) ≡ all_items o ds steps

  part_by : (o : Option Action) (ds : List Deed) → (o ≡ None → ds ≡ []) → suc k ≤ length (all_records o rest) → Later o → Part o ds
  part_by None ds h le later =
      let p : UpTo (writes_after writes e) (after s e) last rest (suc k) = later (suc k) le in
      subst (Part None) (sym (h refl)) (record { steps = p.steps; end = p.end; run = p.run; records = p.records; items = p.items })
  part_by (Some action) ds h le later =
      let fewer : k ≤ length (records_from (after s e) (last + 1) rest) = omega (arith, le) in
      let p : UpTo (writes_after writes e) (after s e) (last + 1) rest k = later k fewer in
      let number : last + suc k ≡ last + 1 + k = omega arith in
      let below : last + 1 ≤ last + suc k = omega arith in
      record {
        steps = p.steps;
        end = p.end;
        run = p.run;
        records = ap (λ l. record { number = last + 1; action = action } ∷ l) p.records;
        items = up_to-append (last + suc k) (map (item_at last) ds) (items_from (writes_after writes e) (after s e) (last + 1) rest)
            ∙ ap (λ l. l ++ up_to (last + suc k) (items_from (writes_after writes e) (after s e) (last + 1) rest)) (up_here last (last + suc k) below ds)
            ∙ ap (λ l. map (item_at last) ds ++ l) (ap (λ n. up_to n (items_from (writes_after writes e) (after s e) (last + 1) rest)) number ∙ p.items);
      }

pub up_to_record : (s s' : State) (es : List MachineStep) → Runs s es s' → (writes : ℕ → List Write) (last n : ℕ) → n ≤ length (records_from s last es)
    → UpTo writes s last es n
up_to_record s s' es r writes last zero le = nothing_yet writes s last es
up_to_record s s' es no_step writes last (suc k) le = absurd (omega (arith, le))
up_to_record s s' es (one_step e rest a r) writes last (suc k) le =
    let p : Part s e rest a writes last k (action_of s e) (deeds_of writes e) =
    part_by s e rest a writes last k (action_of s e) (deeds_of writes e) (no_deeds s writes e) le (λ m l.
    up_to_record (after s e) s' rest r (writes_after writes e) (next_number last (action_of s e)) m l) in
    record { steps = e ∷ p.steps; end = p.end; run = one_step e p.steps a p.run; records = p.records; items = p.items }

-- ---- all of it
module _ (o : Opened) (can : CanOpen o) (es : List MachineStep) (s : State) (run : Runs (opened o) es s) where
  abbrev set_cells : Cells
  set_cells = cells_after (opening_cells o.given) (records_over o es)

  has_cells : HasCells s set_cells
  has_cells = run_cells (opened o) s es run (opened_holds o can) o.given.last (opening_cells o.given) (opened_cells o)

  abbrev now : Given
  now = given_after o.given (records_over o es)

  items_are : AreItemsOf (items_over o es) es
  items_are = items_deeds no_writes (opened o) o.given.last es

  now_recovered : IsRecovered s now
  now_recovered = recovers_state s (run_keeps _ s es run (opened_holds o can)) set_cells has_cells now.last

  now_table : now.table ≡ table_after o.given.table (items_over o es)
  now_table = now_recovered.table ∙ told_table o es s run (items_over o es) items_are

  pub now_opens : CanOpen (record o { given = now })
  now_opens =
      let v : SameStore (opened o) s = same_store (opened o) s es run in
      subst CanOpen (λ i. record { given = now; pages = v.pages i; places = v.places i }) now_recovered.opens

  now_life : now.life ≡ life_after o.given.life (items_over o es)
  now_life = has_cells.life ∙ told_life o es s run (items_over o es) items_are

  -- of all its records, up to a number that has all items
  pub now_begins : (items : List Item) (floor : ℕ) → floor ≤ now.last → up_to now.last items ≡ items_over o es → IsBeginning o.given items floor now
  now_begins items floor le e = record {
    has_floor = le;
    table = now_table ∙ ap (table_after o.given.table) (sym e);
    life = now_life ∙ ap (life_after o.given.life) (sym e);
    shown = now_opens.sound;
  }

-- of the cells of a state, wherever the run stops
pub stopped : (o : Opened) → CanOpen o → (es : List MachineStep) (s : State) → Runs (opened o) es s → (items : List Item) → AreItemsOf items es
    → (cells : Cells) → HasCells s cells → (last : ℕ)
    → ((recovered cells last).table ≡ table_after o.given.table items) × ((recovered cells last).life ≡ life_after o.given.life items)
    × CanOpen (record o { given = recovered cells last })
stopped o can es s run items h cells k last =
    let r : IsRecovered s (recovered cells last) = recovers_state s (run_keeps _ s es run (opened_holds o can)) cells k last in
    let v : SameStore (opened o) s = same_store (opened o) s es run in (
      r.table ∙ told_table o es s run items h,
      k.life ∙ told_life o es s run items h,
      subst CanOpen (λ i. record { given = recovered cells last; pages = v.pages i; places = v.places i }) r.opens,
    )

pub length_taken : (n : ℕ) (records : List RecordValue) → n ≤ length records → length (take n records) ≡ n
length_taken zero records le = refl
length_taken (suc n) [] le = absurd (omega (arith, le))
length_taken (suc n) (r ∷ records) le = let rest : length (take n records) ≡ n = length_taken n records (omega (arith, le)) in omega (arith, rest)

pub recovers : (o : Opened) → CanOpen o → (es : List MachineStep) (s : State) → Runs (opened o) es s → (n : ℕ) → n ≤ length (records_over o es)
    → RecoversPrefix o es n
recovers o can es s run n le =
    let p : UpTo no_writes (opened o) o.given.last es n = up_to_record (opened o) s es run no_writes o.given.last n le in
    let count : length (records_over o p.steps) ≡ n = ap length (sym p.records) ∙ length_taken n (records_over o es) le in
    let last : o.given.last + length (records_over o p.steps) ≡ o.given.last + n = ap (λ m. o.given.last + m) count in
    record {
      beginning = subst (λ (rs : List RecordValue). IsBeginning o.given (items_over o es) (o.given.last + n) (given_after o.given rs)) (sym p.records)
          (now_begins o can p.steps p.end p.run (items_over o es) (o.given.last + n) (omega (arith, last)) (ap (λ m. up_to m (items_over o es)) last
          ∙ p.items));
      opens = subst (λ (rs : List RecordValue). CanOpen (record o { given = given_after o.given rs })) (sym p.records) (now_opens o can p.steps p.end p.run);
    }

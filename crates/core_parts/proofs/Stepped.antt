-- A step of one transaction that sets a row or marks an entry: what the core shows after it.
use Rattle.std.proofs.Common.{List, Option, Some, [], ap, arith, cond, eqb, length, refl, sym, true, ℕ, ◌++◌, ◌+◌, ◌-◌, ◌∙◌, ◌∷◌, ◌≡◌, ◌≤◌}
use Rattle.std.specs.FinMap.{get, insert, len}
use Rattle.record_values.specs.Maps.{set_at}
use Rattle.records.specs.ChangeValue.{ChangeValue}
use Rattle.records.specs.RecordValue.{RecordValue}
use Rattle.record_values.specs.Values.{Place}
use Rattle.heap_pages.specs.Pages.{HeapValue}
use Rattle.record_values.specs.declared.pair.Mark.{Mark}
use Rattle.record_values.specs.declared.pair.Mark.TheVariants.{Live}
use Rattle.record_values.specs.declared.pair.Pair.{Pair}
use Rattle.records.specs.declared.record.Action.{Action}
use Rattle.records.specs.declared.record.Part.TheVariants.{OldEntry}
use Rattle.records.specs.declared.record.TxnAction.{TxnAction}
use Rattle.records.specs.declared.record.TxnAction.TheVariants.{Undo}
use Rattle.record_values.specs.declared.row.Row.{Row}
use Rattle.txn_table.specs.Table as table
use Rattle.txn_table.specs.Table.{TableValue, TxnState, change_noted, holder_of, put_at, without_last}
use Rattle.txn_table.specs.declared.progress.Progress.{Progress}
use Rattle.txn_table.specs.declared.progress.Progress.TheVariants.{Rolling}
use Rattle.txn_table.proofs.TableLaws.{holder_of-put_at, holder_of-without_last}
use Rattle.marked_index.specs.Index.{IndexValue, pledges_used}
use Rattle.core_model.specs.States.{Active, State}
use Rattle.core_model.specs.Steps.{reserved, with_places, with_txn}
use Rattle.core_model.specs.Events.{Standing}
use Rattle.core_parts.specs.View.{CoreValue, Shows, ShowsTxn}
use Rattle.core_parts.specs.Private.{change_begun, entry_restored, entry_stepped, newest_taken_off, row_stepped}
use Rattle.core_parts.proofs.Inserting.{some_is}
use Rattle.core_parts.proofs.Moved.{HasMoved, moved_shown, places_are, same_number}
use Rattle.core_parts.proofs.Started.{either, grown, long, state_set}

-- ---- the table after it

-- the transaction is in this state now, and all else is as before
pub record IsNow (before : List (ℕ × TxnState)) (t : ℕ) (x' : TxnState) (after : List (ℕ × TxnState)) : Type 0 where
  pub states : (u : ℕ) → table.state_of u after ≡ cond (eqb u t) (Some x') (table.state_of u before)
  pub holders : (q : Place) → holder_of q after ≡ holder_of q before
  pub many : length after ≡ length before

module _ (es : List (ℕ × TxnState)) (t : ℕ) (x : TxnState) (here : table.state_of t es ≡ Some x) where
  pub put_now : (p : Progress) (n : ℕ) → IsNow es t (put_at p n x) (table.with_state (put_at p n) t es)
  put_now p n = record {
    states = state_set es t x here (put_at p n);
    holders = λ q. holder_of-put_at p n t q es;
    many = long (put_at p n) t es;
  }

  pub popped_now : IsNow es t (without_last x) (table.with_state without_last t es)
  popped_now = record {
    states = state_set es t x here without_last;
    holders = λ q. holder_of-without_last t q es;
    many = long without_last t es;
  }

-- one after the other
pub now_then : (before : List (ℕ × TxnState)) (t : ℕ) (x y : TxnState) (between after : List (ℕ × TxnState)) → IsNow before t x between
    → IsNow between t y after → IsNow before t y after
now_then before t x y between after first second = record {
  states = λ u. second.states u ∙ ap (cond (eqb u t) (Some y)) (first.states u) ∙ either (eqb u t) (Some y) (Some x) (table.state_of u before);
  holders = λ q. second.holders q ∙ first.holders q;
  many = second.many ∙ first.many;
}

pub now_here : (before : List (ℕ × TxnState)) (t : ℕ) (x : TxnState) (after : List (ℕ × TxnState)) → IsNow before t x after → table.state_of t after ≡ Some x
now_here before t x after now = now.states t ∙ ap (λ b. cond b (Some x) (table.state_of t before)) (same_number t t refl)

-- ---- equal steps
pub row_as : (v : CoreValue) (t : ℕ) {f f' : Progress} {r r' : Place} {row row' : Option Row} {a a' : TxnAction} → f ≡ f' → r ≡ r' → row ≡ row' → a ≡ a'
    → row_stepped v t f r row a ≡ row_stepped v t f' r' row' a'
row_as v t e g h k = λ i. row_stepped v t (e i) (g i) (h i) (k i)

-- a core by the parts of it that steps of transactions change
pub changed : (v : CoreValue) {heap heap' : HeapValue} {txns txns' : TableValue} {index index' : IndexValue} {last last' : ℕ}
    {outbox outbox' : List RecordValue} → heap ≡ heap' → txns ≡ txns' → index ≡ index' → last ≡ last' → outbox ≡ outbox'
    → (◌≡◌ {A = CoreValue} (record v { heap = heap; txns = txns; index = index; last = last; outbox = outbox })
    (record v { heap = heap'; txns = txns'; index = index'; last = last'; outbox = outbox' }))
changed v rows active entries number records = λ i. record v { heap = rows i; txns = active i; index = entries i; last = number i; outbox = records i }

-- a transaction is so far, with so many places
pub put_as : (v : CoreValue) (t : ℕ) (p : Progress) (n m : ℕ) (txns : TableValue)
    → txns ≡ record v.txns { active = table.with_state (put_at p n) t v.txns.active } → n ≡ m
    → txns ≡ record v.txns { active = table.with_state (put_at p m) t v.txns.active }
put_as v t p n m txns put same = put ∙ ap (λ (k : ℕ). record v.txns { active = table.with_state (put_at p k) t v.txns.active }) same

-- a transaction has noted its change, is so far then, and has so many places
pub begun_as : (v : CoreValue) (t : ℕ) (c : ChangeValue) (p q : Progress) (n m : ℕ) (noted txns : TableValue)
    → noted ≡ record v.txns { active = table.with_state (change_noted c) t v.txns.active }
    → txns ≡ record noted { active = table.with_state (put_at p n) t noted.active } → p ≡ q → n ≡ m
    → txns ≡ record v.txns { active = change_begun v.txns.active t c q m }
begun_as v t c p q n m noted txns change put so many = put
    ∙ ap (λ (w : TableValue). record w { active = table.with_state (put_at p n) t w.active }) change
    ∙ (λ i. record v.txns { active = change_begun v.txns.active t c (so i) (many i) })

-- a record waits behind the others
pub told : (before after : List RecordValue) (made : RecordValue) (n m : ℕ) (a b : Action) → after ≡ before ++ made ∷ []
    → made ≡ record { number = n; action = a } → n ≡ m → a ≡ b → after ≡ before ++ record { number = m; action = b } ∷ []
told before after made n m a b pushed is same tells = pushed ∙ ap (λ (r : RecordValue). before ++ r ∷ []) (is ∙ numbered)
  where
    numbered : (◌≡◌ {A = RecordValue} (record { number = n; action = a }) (record { number = m; action = b }))
    numbered = λ i. record { number = same i; action = tells i }

-- the newest change goes off the list behind a step
pub taken_off_behind : (w target : CoreValue) (t : ℕ) (txns : TableValue) → txns ≡ record w.txns { active = table.with_state without_last t w.txns.active }
    → w ≡ target → record w { txns = txns } ≡ newest_taken_off target t
taken_off_behind w target t txns popped same = ap (λ (x : TableValue). record w { txns = x }) popped ∙ ap (λ (x : CoreValue). newest_taken_off x t) same

-- the old entry of a change is live again, and the change off the list
pub restored : (v w : CoreValue) (t : ℕ) (c : ChangeValue) (old : Option Pair) (m : Pair × TxnAction) → old ≡ Some m.0 → m.1 ≡ Undo OldEntry c true
    → (txns : TableValue) → w ≡ entry_stepped v t Rolling m.0 Live m.1 → txns ≡ record w.txns { active = table.with_state without_last t w.txns.active }
    → (p : Pair) → old ≡ Some p → record w { txns = txns } ≡ entry_restored v t c p
restored v w t c old m some action txns stepped popped p is =
    taken_off_behind w (entry_stepped v t Rolling p Live (Undo OldEntry c true)) t txns popped
    (stepped ∙ (λ i. entry_stepped v t Rolling (some_is m.0 p (sym some ∙ is) i) Live (action i)))

-- ---- what the core shows
module _ (v : CoreValue) (s : State) (k : Standing) (h : Shows v s k) (t : ℕ) (x : TxnState) (here : table.state_of t v.txns.active ≡ Some x) (x' : TxnState)
    (a : Active) (is : ShowsTxn x' a) (active : List (ℕ × TxnState)) (now : IsNow v.txns.active t x' active) (outbox : List RecordValue) where
  next_standing : record k { made = k.made + 1 } ≡ record k { made = v.last + 1 }
  next_standing = ap (λ n. record k { made = n + 1 }) h.made

  now_reserved : reserved s.pledges t ≡ x.reserved
  now_reserved = places_are v s k h t x here

  module _ (r : Place) (row : Option Row) (same : x'.reserved ≡ x.reserved) where
    abbrev row_value : CoreValue
    row_value = record v {
      heap = record v.heap { rows = set_at v.heap.rows r row };
      txns = record v.txns { active = active };
      last = v.last + 1;
      outbox = outbox;
    }

    abbrev row_state : State
    row_state = record s { rows = set_at s.rows r row; txns = with_txn s t a; pledges = with_places s t 0 s.entries }

    did_row : HasMoved v s k h t x here x' row_value row_state (record k { made = k.made + 1 })
    did_row = record {
      rows = ap (λ m. set_at m r row) h.rows;
      entries = h.entries;
      txn = a;
      txns = refl;
      is = is;
      holder = λ q. h.holder q ∙ sym (now.holders q);
      places = ap (insert s.pledges t) (sums _ (len s.entries) _ _ now_reserved same);
      pledged = ap (λ n. v.index.pledged + n) (sym same);
      states = now.states;
      rest = record {
        life = refl;
        pages = refl;
        capacity = refl;
        cleaned = refl;
        scan = refl;
        tried = refl;
        attempts = refl;
        commits = refl;
        begun = refl;
        many = now.many;
        same_life = refl;
        same_pages = refl;
        same_places = refl;
        same_cleaned = refl;
        same_bound = refl;
        same_given = refl;
        same_missed = refl;
        same_taken = refl;
      };
      standing = next_standing;
    }
      where
        sums : (r n r' r'' : ℕ) → r ≡ r' → r'' ≡ r' → r + 0 - (n - n) ≡ r''
        sums r n r' r'' e f = omega (arith, e, f)

    pub row_moved : Shows row_value row_state (record k { made = k.made + 1 })
    row_moved = moved_shown v s k h t x here x' row_value row_state (record k { made = k.made + 1 }) did_row

  module _ (p : Pair) (mark : Mark) (used : x'.reserved ≡ x.reserved - pledges_used (get v.index.entries p))
      (enough : pledges_used (get v.index.entries p) ≤ x.reserved) (within : x.reserved ≤ v.index.pledged) where
    abbrev entry_value : CoreValue
    entry_value = record v {
      txns = record v.txns { active = active };
      index = record v.index { entries = set_at v.index.entries p (Some mark); pledged = v.index.pledged - pledges_used (get v.index.entries p) };
      last =
          v.last + 1;
      outbox = outbox;
    }

    abbrev entry_state : State
    entry_state = record s { entries = set_at s.entries p (Some mark); txns = with_txn s t a; pledges = with_places s t 0 (set_at s.entries p (Some mark)) }

    did_entry : HasMoved v s k h t x here x' entry_value entry_state (record k { made = k.made + 1 })
    did_entry = record {
      rows = h.rows;
      entries = ap (λ m. set_at m p (Some mark)) h.entries;
      txn = a;
      txns = refl;
      is = is;
      holder = λ q. h.holder q ∙ sym (now.holders q);
      places = ap (insert s.pledges t) (sums _ _ _ _ _ now_reserved (grown s.entries p mark ∙ ap (λ m. pledges_used (get m p)) h.entries) used);
      pledged = paid_sums _ _ _ _ used enough within;
      states = now.states;
      rest = record {
        life = refl;
        pages = refl;
        capacity = refl;
        cleaned = refl;
        scan = refl;
        tried = refl;
        attempts = refl;
        commits = refl;
        begun = refl;
        many = now.many;
        same_life = refl;
        same_pages = refl;
        same_places = refl;
        same_cleaned = refl;
        same_bound = refl;
        same_given = refl;
        same_missed = refl;
        same_taken = refl;
      };
      standing = next_standing;
    }
      where
        sums : (r u r' u' m : ℕ) → r ≡ r' → u ≡ u' → m ≡ r' - u' → r + 0 - u ≡ m
        sums r u r' u' m e f g = omega (arith, e, f, g)

        paid_sums : (pledged u r m : ℕ) → m ≡ r - u → u ≤ r → r ≤ pledged → pledged - u + r ≡ pledged + m
        paid_sums pledged u r m e l n = omega (arith, e, l, n)

    pub entry_moved : Shows entry_value entry_state (record k { made = k.made + 1 })
    entry_moved = moved_shown v s k h t x here x' entry_value entry_state (record k { made = k.made + 1 }) did_entry

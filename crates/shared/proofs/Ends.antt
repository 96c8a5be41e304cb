-- What the end of a transaction finds, whose changes are taken back.
use Rattle.std.proofs.Common.{◌≡◌, ◌++◌, ◌∷◌, [], List, ℕ, true, Option, Some, None, refl, sym, ap, ◌∙◌}
use Rattle.std.proofs.Math.Logic.{∥∥₁_map}
use Rattle.std.specs.FinMap.{get}
use Rattle.std.specs.Prelude.{slice_get}
use Rattle.records.specs.ChangeValue.{ChangeValue}
use Rattle.records.specs.RecordValue.{RecordValue}
use Rattle.record_values.specs.Values.{Place}
use Rattle.record_values.specs.declared.row.Row.{Row}
use Rattle.model.specs.Cells.{cells_after}
use Rattle.model.specs.Given.{opening_cells}
use Rattle.model.specs.Table.{Table}
use Rattle.txn_table.specs.Table.{TxnState}
use Rattle.core_model.proofs.Laws.{faithful, made_cells, made_holds, same_some}
use Rattle.core_model.specs.Changes.{as_list, Changes, latest, Unchanged, ◌▹◌}
use Rattle.core_model.specs.Histories.{no_writes, Opened}
use Rattle.core_model.specs.Invariants.{applied_of, Invariant, IsHeld}
use Rattle.core_model.specs.Records.{HasCells}
use Rattle.core_model.specs.States.{Active, State}
use Rattle.core_model.specs.Steps.{is_applied}
use Rattle.core_model.proofs.ReplyLaws.{served_faithful}
use Rattle.core_model.specs.Events.{Event, Reply}
use Rattle.core_model.specs.Served.{items_of}
use Rattle.core_laws.proofs.Laws.{holds}
use Rattle.core_laws.specs.Calls.{HasReplied}
use Rattle.core_laws.specs.Holds.{committed_rows}
use Rattle.core_parts.specs.Moves.{HasNoChange, txn_shown}
use Rattle.core_parts.specs.View.{AreOne, CoreValue, Serves, Shows}
use Rattle.threads_sessions.specs.Values.{is_active, SessionValue}
use Rattle.threads_register.proofs.Laws.{rows_left}
use Rattle.locked_core.specs.Names.{IsShared}
use Rattle.shared.specs.Changed.{row_of}
use Rattle.shared.specs.Served.{WasTakenBack}
use Rattle.shared.proofs.Lookups.{held_by}

no_list : (cs : Changes) → as_list cs ≡ [] → cs ≡ Unchanged
no_list Unchanged e = refl
no_list (older ▹ c) e = absurd (never (as_list older) e)
  where
    never : (xs : List ChangeValue) → xs ++ c ∷ [] ≡ [] → ⊥
    never [] h = absurd cc
    never (x ∷ xs) h = absurd cc

module _ (o : Opened) (core : CoreValue) (pushed : List RecordValue) (book : List SessionValue) (all : IsShared o core pushed book) where
  abbrev calls : List (Event × Reply)
  calls = all.register.kept.calls

  abbrev replied : HasReplied o calls pushed core
  replied = all.register.kept.replied

  abbrev st : State
  st = replied.state

  abbrev shown : Shows core st replied.standing
  shown = replied.stands.shown

  holding : Invariant st
  holding = made_holds o all.opens (pushed ++ core.outbox) (items_of no_writes calls) _ st replied.served.log

  cells : HasCells st (cells_after (opening_cells o.given) (pushed ++ core.outbox))
  cells = made_cells o all.opens (pushed ++ core.outbox) (items_of no_writes calls) _ st replied.served.log

  -- the committed table of the state is that of the core
  committed_is : st.committed ≡ committed_rows core
  committed_is =
      sym ((faithful st holding).back _ cells)
      ∙ ((served_faithful o all.opens (pushed ++ core.outbox) calls st replied.standing replied.served).0.back _ cells
      ∙ sym (holds o all.opens calls pushed core replied).table)

  module _ (t : ℕ) (none_left : HasNoChange (txn_shown core t)) where
    unchanged : (x : Active) → st.txns t ≡ Some x → x.changes ≡ Unchanged
    unchanged x active = by (txn_shown core t) none_left (shown.txns t)
      where
        never : (◌≡◌ {A = Option Active} (Some x) None) → ⊥
        never e = absurd cc

        by : (m : Option TxnState) → HasNoChange m → AreOne m (st.txns t) → x.changes ≡ Unchanged
        by None none one = absurd (never (sym active ∙ one))
        by (Some y) none one = no_list x.changes (ap (λ (z : Active). as_list z.changes) (same_some active one.1) ∙ (one.2.changes ∙ none))

    committed_there : (q : Place) → st.holder q ≡ Some t → get core.heap.rows q ≡ get (committed_rows core) q
    committed_there q mine =
        let held : IsHeld st q t = holding.coherent.held q t mine in
        ap (λ (m : Table). get m q) (sym shown.rows)
        ∙ (held.row
        ∙ (ap (λ (cs : Changes). latest (applied_of cs (is_applied held.txn.phase)) q (get st.committed q)) (unchanged held.txn held.active)
        ∙ ap (λ (m : Table). get m q) committed_is))

    rows_back : (seat : ℕ) (p : SessionValue) → slice_get book seat ≡ Some p → is_active p t ≡ true → (q : Place) (row : Option Row) → row_of p t q ≡ Some row
        → row ≡ get (committed_rows core) q
    rows_back seat p there own q row is =
        let both = held_by t _ _ row (sym (rows_left o all.opens pushed core book all.register seat p there t own q) ∙ is) in
        sym both.1 ∙ committed_there q (shown.holder q ∙ both.0)

pub was_taken : (o : Opened) (core new : CoreValue) (pushed : List RecordValue) (book : List SessionValue) → ∥ IsShared o core pushed book ∥₁
    → (seat : ℕ) (p : SessionValue) → slice_get book seat ≡ Some p
    → (t : ℕ) → is_active p t ≡ true → HasNoChange (txn_shown core t) → Serves core (Event.End t) Reply.Ended new → ∥ WasTakenBack o seat p t ∥₁
was_taken o core new pushed book shared seat p there t own none_left serves = ∥∥₁_map shared (λ all. record {
  end = record { core = core; new = new; pushed = pushed; book = book; shared = all; here = there; serves = serves };
  none_left = none_left;
  rows = rows_back o core pushed book all t none_left seat p there own;
})

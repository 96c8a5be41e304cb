-- The cells that the records of a run leave are those of the core.
use Rattle.std.proofs.Common.{◌≡◌, ℕ, List, ◌++◌, Option, None, Some, refl, sym, subst, ◌∙◌}
use Rattle.records.specs.RecordValue.{RecordValue}
use Rattle.record_values.specs.GeometryValue.{GeometryValue}
use Rattle.records.specs.declared.record.Action.{Action}
use Rattle.model.specs.Cells.{Cells, cells_after}
use Rattle.model.specs.Given.{opening_cells}
use Rattle.model.specs.History.{Item}
use Rattle.model.specs.declared.write.Write.{Write}
use Rattle.txn_table.specs.Sound.{IsSoundTable}
use Rattle.core_model.proofs.Laws.{fit_step, made_cells, opened_fit, same_store}
use Rattle.core_model.specs.Histories.{CanOpen, Opened, opened}
use Rattle.core_model.specs.Invariants.{IsWellFormed, Runs, no_step, one_step}
use Rattle.core_model.specs.Logs.{HasMade, next_number, one_record, records_from}
use Rattle.core_model.specs.Records.{action_of, set_by_any}
use Rattle.core_model.specs.States.{State}
use Rattle.core_model.specs.Steps.{MachineStep, after}
use Rattle.core_model.specs.Events.{Event, Reply, Standing}
use Rattle.core_model.specs.Served.{HasServed}
use Rattle.core_parts.specs.View.{CoreValue, IsState}
use Rattle.core_copies.proofs.Listed.{lists_begin, lists_go_on}
use Rattle.core_copies.proofs.Owned.{cells_shown}
use Rattle.core_copies.specs.Lists.{HasLists}
use Rattle.core_copies.specs.Shown.{IsCellsOf, IsOfGeometry}

after_first : (cells : Cells) (last : ℕ) (o : Option Action) (records : List RecordValue)
    → cells_after cells (one_record last o ++ records) ≡ cells_after (set_by_any cells o) records
after_first cells last None records = refl
after_first cells last (Some action) records = refl

run_lists : (s new : State) (steps : List MachineStep) → Runs s steps new → IsWellFormed s → (last : ℕ) (cells : Cells) → HasLists s cells
    → HasLists new (cells_after cells (records_from s last steps))
run_lists s new steps no_step fit last cells h = h
run_lists s new steps (one_step e rest enabled run) fit last cells h =
    subst (HasLists new) (sym (after_first cells last (action_of s e) (records_from (after s e) (next_number last (action_of s e)) rest)))
    (run_lists (after s e) new rest run (fit_step s e fit enabled) (next_number last (action_of s e)) (set_by_any cells (action_of s e))
    (lists_go_on s e cells fit enabled h))

made_lists : (o : Opened) → CanOpen o → (made : List RecordValue) (items : List Item) (writes : ℕ → List Write) (s : State) → HasMade o made items writes s
    → HasLists s (cells_after (opening_cells o.given) made)
made_lists o can made items writes s h =
    subst (λ records. HasLists s (cells_after (opening_cells o.given) records)) (sym h.records)
    (run_lists (opened o) s h.steps h.run (opened_fit o can.fits) o.given.last (opening_cells o.given) (lists_begin o))

module _ (o : Opened) (made : List RecordValue) (pairs : List (Event × Reply)) (v : CoreValue) (s : State) (k : Standing) (h : HasServed o made pairs s k)
    (is : IsState v s k) where
  pub made_shown : CanOpen o → IsSoundTable v.txns → IsCellsOf v (cells_after (opening_cells o.given) made)
  made_shown can sound = cells_shown v s k (cells_after (opening_cells o.given) made) sound is (made_cells o can made _ _ s h.log)
      (made_lists o can made _ _ s h.log)

  pub store_kept : (g : GeometryValue) → g.pages ≡ o.pages → g.entries ≡ o.places → IsOfGeometry v g
  store_kept g pages entries =
      let same = same_store (opened o) s h.log.steps h.log.run in
      record { pages = sym is.shown.pages ∙ (same.pages ∙ sym pages); entries = sym is.shown.places ∙ (same.places ∙ sym entries) }

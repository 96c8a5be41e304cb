-- Where a step of the core leaves the records and the state that they made.
use Rattle.std.proofs.Common.{◌≡◌, ℕ, ◌+◌, ◌≤◌, List, [], ◌∷◌, ◌++◌, Option, None, Some, length, sym, ◌∙◌, ap, subst, arith, append-nil, append_assoc}
use Rattle.std.proofs.Common.{length-append}
use Rattle.std.specs.FinMap.{len}
use Rattle.records.specs.RecordValue.{RecordValue}
use Rattle.records.specs.declared.record.Action.{Action}
use Rattle.record_values.specs.declared.txn.TheConstants.{TXNS_MAX}
use Rattle.model.specs.Cells.{Cells, cells_after}
use Rattle.model.proofs.CellsLaws.{cells_after-append}
use Rattle.core_model.specs.Invariants.{IsWellFormed}
use Rattle.core_model.specs.Logs.{IsLogOf, next_number, one_record}
use Rattle.core_model.specs.Records.{action_of, set_by_any}
use Rattle.core_copies.specs.Lists.{HasLists}
use Rattle.core_model.specs.States.{State}
use Rattle.core_model.specs.Steps.{IsEnabled, MachineStep, after}
use Rattle.core_model.specs.Events as core
use Rattle.core_model.specs.Events.{Standing, standing_after}
use Rattle.core_model.specs.Replies.{after_any}
use Rattle.core_model.specs.Served.{IsEnabledAny, IsMove, number_after, records_by}
use Rattle.core_model.proofs.ReplyLaws.{is_move}
use Rattle.store_image_model.specs.Run.{IsRun, Run}
use Rattle.core_parts.specs.View.{Answers}
use Rattle.nsf_core.proofs.Offered.{stands}
use Rattle.sector_device.specs.DevicePast.{DevicePast}
use Rattle.store_writer.specs.Writer.{IsWriter, longer}
use Rattle.store_writer.specs.declared.writer.Writer.{Writer}
use Rattle.restart.specs.declared.parts.EngineParts.{EngineParts}
use Rattle.restart.specs.Parts.{core_of, unhanded, writer_of}
use Rattle.restart.specs.Store.{StandsAt}
use Rattle.restart.proofs.Numbers.{with_more}
use Rattle.restart.proofs.Sizes.{of_one_size}

-- what the layers below say of a step: its record can follow the log, and a writer stands as before where more is made
pub record Laws {D M : Type 0} (past_of : D → DevicePast) (w : Writer D M) : Type 0 where
  pub half : (base : ℕ) (cells : Cells) (log : List RecordValue) (s : State) → IsWellFormed s → IsLogOf s.pages base cells log s → (e : MachineStep)
      → IsEnabled s e → len s.pledges ≤ TXNS_MAX
      → IsLogOf s.pages base cells (log ++ one_record (base + length log) (action_of s e)) (after s e)
  pub lists : (s : State) (e : MachineStep) (cells : Cells) → IsWellFormed s → IsEnabled s e → HasLists s cells
      → HasLists (after s e) (set_by_any cells (action_of s e))
  pub goes : (run : Run) (handed : ℕ) (more : List RecordValue) → IsWriter past_of run handed w → IsRun (longer run more)
      → IsWriter past_of (longer run more) handed w

-- the cells after a step's record, if it makes one
cells_one : (cells : Cells) (log : List RecordValue) (last : ℕ) (action : Option Action)
    → set_by_any (cells_after cells log) action ≡ cells_after cells (log ++ one_record last action)
cells_one cells log last None = ap (cells_after cells) (sym (append-nil log))
cells_one cells log last (Some action) = sym (cells_after-append cells log (record { number = last + 1; action = action } ∷ []))

count_one : (last : ℕ) (action : Option Action) → next_number last action ≡ last + length (one_record last action)
count_one last None = omega arith
count_one last (Some action) = omega arith

count_any : (s : State) (last : ℕ) (step : Option MachineStep) → number_after s last step ≡ last + length (records_by s last step)
count_any s last None = omega arith
count_any s last (Some e) = count_one last (action_of s e)

module _ {D M : Type 0} (past_of : D → DevicePast) (run : Run) (handed : ℕ) (s : State) (k : Standing) (old : EngineParts D M)
    (is : StandsAt past_of run handed s k old)
    (laws : Laws past_of (writer_of old)) where
  log_any : (step : Option MachineStep) → IsEnabledAny s step
      → IsLogOf run.geometry.pages run.last run.cells (run.records ++ records_by s k.made step) (after_any s step)
  log_any None enabled = subst (λ (l : List RecordValue). IsLogOf run.geometry.pages run.last run.cells l s) (sym (append-nil run.records)) is.log
  log_any (Some e) enabled =
      subst (λ n. IsLogOf n run.last run.cells (run.records ++ one_record k.made (action_of s e)) (after s e)) (sym is.pages)
      (subst (λ n. IsLogOf s.pages run.last run.cells (run.records ++ one_record n (action_of s e)) (after s e)) is.made
      (laws.half run.last run.cells run.records s is.shown.fit (subst (λ n. IsLogOf n run.last run.cells run.records s) is.pages is.log) e enabled
      (omega (arith, is.shown.standing.counts.active, is.shown.standing.counts.few))))

  lists_any : (step : Option MachineStep) → IsEnabledAny s step → HasLists (after_any s step) (cells_after run.cells (run.records ++ records_by s k.made step))
  lists_any None enabled = subst (λ (l : List RecordValue). HasLists s (cells_after run.cells l)) (sym (append-nil run.records)) is.lists
  lists_any (Some e) enabled = subst (HasLists (after s e)) (cells_one run.cells run.records k.made (action_of s e))
      (laws.lists s e (cells_after run.cells run.records) is.shown.fit enabled is.lists)

  module _ (new : EngineParts D M) (e : core.Event) (reply : core.Reply) (a : Answers (core_of old) s k e reply (core_of new))
      (rest : new ≡ record old { core = new.core }) where
    move : IsMove s k a.step (standing_after k reply)
    move = is_move s k e reply a.step is.shown.fit is.shown.standing a.allowed

    abbrev more : List RecordValue
    more = records_by s k.made a.step

    log_then : IsLogOf run.geometry.pages run.last run.cells (run.records ++ more) (after_any s a.step)
    log_then = log_any a.step move.enabled

    writer_then : IsWriter past_of (longer run more) handed (writer_of new)
    writer_then = subst (IsWriter past_of (longer run more) handed) (sym (ap (λ (e : EngineParts D M). writer_of e) rest))
        (laws.goes run handed more is.writer (record { following = log_then.in_order; placed = is.writer.run-is.placed }))

    outbox_then : unhanded new ≡ unhanded old ++ more
    outbox_then =
        ap (λ (e : EngineParts D M). e.outgoing.items ++ (core_of new).outbox) rest ∙ ap (λ (l : List RecordValue). old.outgoing.items ++ l) a.outbox
        ∙ sym (append_assoc old.outgoing.items (core_of old).outbox (records_by s k.made a.step))

    pub stands_then : StandsAt past_of (longer run (records_by s k.made a.step)) handed (after_any s a.step) (standing_after k reply) new
    stands_then = record {
      writer = writer_then;
      rest = with_more run (records_by s k.made a.step) handed (omega (arith, is.writer.opened, is.writer.reached)) is.writer.made
          ∙ ap (λ (l : List RecordValue). l ++ records_by s k.made a.step) is.rest ∙ sym outbox_then;
      shown = stands (core_of old) (core_of new) s k e reply is.shown a;
      log = log_then;
      lists = lists_any a.step move.enabled;
      geometry = ap (λ (e : EngineParts D M). e.geometry) rest ∙ is.geometry;
      pages = is.pages ∙ sym (of_one_size s a.step).pages;
      places = is.places ∙ sym (of_one_size s a.step).places;
      made = omega (arith, is.made, move.made, count_any s k.made a.step, length-append run.records (records_by s k.made a.step));
    }

-- What is committed of a core that has replied to some calls.
use Rattle.std.proofs.Common.{List, None, Some, ap, sym, ◌++◌, ◌∙◌, ◌≡◌}
use Rattle.std.specs.FinMap.{get}
use Rattle.records.specs.RecordValue.{RecordValue}
use Rattle.record_values.specs.declared.pair.Mark.TheVariants.{Live}
use Rattle.record_values.specs.declared.pair.Pair.{Pair}
use Rattle.model.specs.Cells.{cells_after}
use Rattle.model.specs.Given.{opening_cells}
use Rattle.model.specs.History.{table_after}
use Rattle.model.specs.Table.{IsPairOf, Table}
use Rattle.model.specs.declared.life.Life.TheVariants.{Complete}
use Rattle.core_model.proofs.Laws.{faithful, made_cells, made_holds, opened_holds}
use Rattle.core_model.proofs.ReplyLaws.{served_faithful}
use Rattle.core_model.specs.Changes.{pair_of}
use Rattle.core_model.specs.Events.{Event, Reply}
use Rattle.core_model.specs.Histories.{CanOpen, Opened, no_writes}
use Rattle.core_model.specs.Invariants.{Invariant}
use Rattle.core_model.specs.Served.{items_of}
use Rattle.core_model.specs.States.{State}
use Rattle.core_parts.specs.View.{CoreValue}
use Rattle.core_laws.proofs.Laws.{holds}
use Rattle.core_laws.specs.Calls.{HasReplied}
use Rattle.core_laws.specs.Holds.{committed_rows}
use Rattle.core_committed.proofs.Entered.{opened_has}
use Rattle.core_committed.proofs.Held.{has_entry}
use Rattle.core_committed.proofs.Marks.{committed_live}
use Rattle.core_committed.specs.Committed.{committed_index}

module _ (o : Opened) (can : CanOpen o) (pairs : List (Event × Reply)) (handed : List RecordValue) (v : CoreValue) (so : HasReplied o pairs handed v) where
  abbrev s : State
  s = so.state

  pub table : committed_rows v ≡ table_after o.given.table (items_of no_writes pairs)
  table = (holds o can pairs handed v so).table

  invariant : Invariant s
  invariant = made_holds o can (handed ++ v.outbox) (items_of no_writes pairs) _ s so.served.log

  -- the machine's committed table is that of the core
  committed_is : s.committed ≡ committed_rows v
  committed_is =
      let cells = made_cells o can (handed ++ v.outbox) (items_of no_writes pairs) _ s so.served.log in
      let one = (faithful s invariant).back (cells_after (opening_cells o.given) (handed ++ v.outbox)) cells in
      let two = (served_faithful o can (handed ++ v.outbox) pairs s so.standing so.served).0.back
      (cells_after (opening_cells o.given) (handed ++ v.outbox)) cells in
      sym one ∙ two ∙ sym table

  module _ (complete : v.life ≡ Complete) (p : Pair) (pair : IsPairOf (committed_rows v) p) where
    entry : get s.entries (pair_of p.rid pair.row) ≡ None → ⊥
    entry = has_entry s invariant (so.stands.shown.life ∙ complete) p.rid pair.row (ap (λ (t : Table). get t p.rid) committed_is ∙ pair.is_there)
        (opened_has o s so.served.log.steps so.served.log.run (opened_holds o can))

    pub all_live : get (committed_index v) p ≡ Some Live
    all_live = committed_live v p pair (λ none. entry (ap (λ m. get m (pair_of p.rid pair.row)) so.stands.shown.entries ∙ ap (get v.index.entries) one ∙ none))
      where
        one : pair_of p.rid pair.row ≡ p
        one = λ i. record { key = pair.has_key i; rid = p.rid }

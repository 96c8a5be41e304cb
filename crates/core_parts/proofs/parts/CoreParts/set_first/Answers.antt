use Rattle.std.proofs.Common.{Bool, ap, refl, sym, ◌+◌, ◌∙◌}
use Rattle.std.proofs.lemmas.Result.{err_from_is_err_and}
use Rattle.records.specs.ChangeValue.{ChangeValue}
use Rattle.records.specs.Spelling.{new_row}
use Rattle.records.specs.declared.record.Action.TheVariants.{OfTxn}
use Rattle.record_values.specs.Maps.{set_at}
use Rattle.model.specs.Pairs.{new_pair}
use Rattle.core_model.specs.Steps.{places_of}
use Rattle.txn_table.specs.Table.{TableValue, holder_of}
use Rattle.core_parts.specs.Parts.{parts_of}
use Rattle.core_parts.specs.Private.{row_progress}
use Rattle.core_parts.proofs.Places.{places_and}
use Rattle.core_parts.proofs.Stepped.{begun_as, changed, told}
use Rattle.core_parts.proofs.parts.CoreParts.set_first.Goals as goal

pub reserved-reserved-requires : goal.reserved-reserved-requires
reserved-reserved-requires g c = c.requires.safe

pub note-requires : goal.note-requires
note-requires g c = c.requires.may.free

pub returns-in_err-note : goal.returns-in_err-note
returns-in_err-note g c =
    let p = err_from_is_err_and c.from_residual.result c.from_residual.ensures.1 in
    rw (p.1, p.2) (record {
      ok = tt;
      held = tt;
      unchanged = changed (parts_of c.args.self.now) refl c.in_err-note.ensures.unchanged.0 refl refl c.in_err-note.ensures.unchanged.1;
      no_memory = c.in_err-note.ensures.no_memory;
    })

pub reserve-requires : goal.reserve-requires
reserve-requires g c = record {
  room = λ indexed. c.requires.may.fits (sym c.indexed-indexed.ensures ∙ indexed);
  few = c.reserved-reserved.ensures.few;
}

pub returns : goal.returns
returns g c =
    let v = parts_of c.args.self.now in
    let rid = ap (λ (w : ChangeValue). w.rid) c.change.view_is in
    let row = c.new.ensures ∙ ap (λ (w : ChangeValue). new_row w.rows) c.change.view_is in
    let indexed = c.indexed-indexed.ensures in
    let progress = c.progress_after_row-progress.ensures ∙ ap (λ (b : Bool). row_progress (new_pair b c.args.change)) indexed in
    let begun = begun_as v c.args.txn c.args.change _ _ _ _ _ _ c.in_ok-note.ensures.txns c.reserve.ensures.txns progress
    (places_and _ _ _ _ c.reserved-reserved.ensures.number (ap places_of indexed)) in
    record {
      ok = changed v (c.set.ensures ∙ (λ i. record v.heap { rows = set_at v.heap.rows (rid i) (row i) })) begun
          (c.reserve.ensures.index ∙ ap (λ (b : Bool). record v.index { pledged = v.index.pledged + places_of b }) indexed) refl
          (told v.outbox _ _ _ _ _ _ c.in_ok-note.ensures.outbox c.record_of-made.ensures c.requires.number (ap (OfTxn c.args.txn) c.sets_new.ensures));
      held = ap (λ (w : TableValue). holder_of c.args.change.rid w.active) (sym begun)
          ∙ (c.reserve.ensures.holders c.args.change.rid ∙ c.in_ok-note.ensures.held);
      unchanged = tt;
      no_memory = tt;
    }

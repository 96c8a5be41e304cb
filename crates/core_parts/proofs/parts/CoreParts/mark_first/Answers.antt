use Rattle.std.proofs.Common.{ap, arith, refl, sym, ◌∙◌}
use Rattle.std.proofs.lemmas.Result.{err_from_is_err_and}
use Rattle.records.specs.declared.record.Action.TheVariants.{OfTxn}
use Rattle.txn_table.specs.Table.{TableValue, holder_of}
use Rattle.txn_table.specs.declared.progress.Progress.TheVariants.{OwesRow}
use Rattle.marked_index.specs.Index.{IndexValue}
use Rattle.core_parts.specs.Parts.{parts_of}
use Rattle.core_parts.proofs.Changing.{as_before, marked_there}
use Rattle.core_parts.proofs.Stepped.{begun_as, changed, told}
use Rattle.core_parts.proofs.Places.{places_and}
use Rattle.core_parts.proofs.parts.CoreParts.mark_first.Goals as goal

pub reserved-reserved-requires : goal.reserved-reserved-requires
reserved-reserved-requires g c = c.requires.safe

pub mark_in_new_places-requires : goal.mark_in_new_places-requires
mark_in_new_places-requires g c = c.requires.may.fits c.requires.indexed

pub record_of-made-requires : goal.record_of-made-requires
record_of-made-requires g c = c.requires.whole

pub note-requires : goal.note-requires
note-requires g c = c.requires.may.free

pub unmark-requires : goal.unmark-requires
unmark-requires g c = record {
  there = marked_there c.args.self.now.index _ c.args.marked.0 _ c.in_ok-left.ensures.ok;
  left = omega (arith, c.in_ok-left.ensures.left, ap (λ (i : IndexValue). i.pledged) c.in_ok-left.ensures.ok);
}

pub returns-in_err-left : goal.returns-in_err-left
returns-in_err-left g c =
    let p = err_from_is_err_and c.from_residual.result c.from_residual.ensures.1 in
    rw (p.1, p.2) (record {
      ok = tt;
      held = tt;
      unchanged = ap (λ (i : IndexValue). record (parts_of c.args.self.now) { index = i }) c.in_err-left.ensures.unchanged;
      no_memory = c.in_err-left.ensures.no_memory;
    })

pub returns-in-Err : goal.returns-in-Err
returns-in-Err g c =
    let back = as_before c.args.self.now.index _ c.unmark.new.index c.args.marked.0 _ _ c.get-before.ensures c.in_ok-left.ensures.left c.in_ok-left.ensures.ok
    c.unmark.ensures in
    record {
      ok = tt;
      held = tt;
      unchanged = changed (parts_of c.args.self.now) refl c.in-Err.ensures.unchanged.0 back refl c.in-Err.ensures.unchanged.1;
      no_memory = c.in-Err.ensures.no_memory;
    }

pub returns : goal.returns
returns g c =
    let v = parts_of c.args.self.now in
    let begun = begun_as v c.args.txn c.args.change OwesRow OwesRow _ _ _ _ c.in_default.ensures.txns c.put.ensures.rest refl
    (places_and _ _ _ _ c.reserved-reserved.ensures.number c.in_ok-left.ensures.left) in
    record {
      ok = changed v refl begun c.in_ok-left.ensures.ok refl (told v.outbox _ _ _ _ _ _ c.in_default.ensures.outbox c.record_of-made.ensures c.requires.number
          (ap (OfTxn c.args.txn) c.requires.action));
      held = ap (λ (w : TableValue). holder_of c.args.change.rid w.active) (sym begun) ∙ (c.put.ensures.holders c.args.change.rid ∙ c.in_default.ensures.held);
      unchanged = tt;
      no_memory = tt;
    }

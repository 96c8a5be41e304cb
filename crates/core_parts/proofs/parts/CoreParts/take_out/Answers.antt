use Rattle.std.proofs.Common.{Some, ap, inl, inr, refl, true, ◌∙◌}
use Rattle.std.proofs.lemmas.Result.{err_from_is_err_and}
use Rattle.record_values.specs.declared.key_action.KeyAction.TheVariants.{Clean}
use Rattle.marked_index.specs.Index.{IndexValue, entries_after}
use Rattle.core_parts.specs.Parts.{parts_of}
use Rattle.core_parts.specs.View.{CoreValue}
use Rattle.core_parts.proofs.parts.CoreParts.take_out.Goals as goal

pub returns-in_err-number : goal.returns-in_err-number
returns-in_err-number g c =
    let p = err_from_is_err_and c.from_residual.result c.from_residual.ensures.1 in
    rw (p.1, p.2) (record { ok = tt; left = tt; refused = inl c.in_err-number.ensures.exhausted; unchanged = refl })

pub record_index-requires : goal.record_index-requires
record_index-requires g c = record { number = c.in_ok-number.ensures.number; left = c.in_ok-number.ensures.left }

pub returns-in_err-record_index : goal.returns-in_err-record_index
returns-in_err-record_index g c =
    let p = err_from_is_err_and c.from_residual-in_err-record_index.result c.from_residual-in_err-record_index.ensures.1 in
    rw (p.1, p.2) (record {
      ok = tt;
      left = tt;
      refused = inr (c.in_err-record_index.ensures.no_memory, c.in_ok-number.ensures.left);
      unchanged = c.in_err-record_index.ensures.unchanged;
    })

pub returns : goal.returns
returns g c =
    let p = c.args.pair.now in
    record {
      ok = ap (λ (i : IndexValue). record (parts_of c.record_index.new.self) { index = i; cleaned = Some p }) c.clean.ensures.entries
          ∙ ap (λ (w : CoreValue). record w {
            index = record w.index { entries = entries_after w.index.entries (Clean true) p };
            cleaned = Some p;
          }) c.in_ok-record_index.ensures.ok;
      left = c.in_ok-number.ensures.left;
      refused = tt;
      unchanged = tt;
    }

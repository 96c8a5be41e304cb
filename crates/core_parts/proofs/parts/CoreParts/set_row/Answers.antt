use Rattle.std.proofs.Common.{List, ap, refl}
use Rattle.std.proofs.lemmas.Result.{err_from_is_err_and}
use Rattle.records.specs.RecordValue.{RecordValue}
use Rattle.core_parts.specs.Parts.{parts_of}
use Rattle.core_parts.proofs.Stepped.{changed, put_as, told}
use Rattle.core_parts.proofs.parts.CoreParts.set_row.Goals as goal

pub reserved-reserved-requires : goal.reserved-reserved-requires
reserved-reserved-requires g c = c.requires.safe

pub record_of-requires : goal.record_of-requires
record_of-requires g c = c.requires.whole

pub returns-in_err-push_back : goal.returns-in_err-push_back
returns-in_err-push_back g c =
    let p = err_from_is_err_and c.from_residual.result c.from_residual.ensures.1 in
    rw p.1 (record {
      ok = tt;
      unchanged = ap (λ (o : List RecordValue). record (parts_of c.args.self.now) { outbox = o }) c.in_err-push_back.ensures.items;
      no_memory = p.2;
    })

pub set-requires : goal.set-requires
set-requires g c = c.requires.inside

pub returns : goal.returns
returns g c =
    let v = parts_of c.args.self.now in
    record {
      ok = changed v c.set.ensures (put_as v c.args.txn c.args.progress _ _ _ c.put.ensures.rest c.reserved-reserved.ensures.number) refl refl
          (told v.outbox _ _ _ _ _ _ c.in_ok-push_back.ensures.items c.record_of.ensures c.requires.number refl);
      unchanged = tt;
      no_memory = tt;
    }

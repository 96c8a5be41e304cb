use Rattle.std.proofs.Common.{List, ap, refl}
use Rattle.std.proofs.lemmas.Result.{err_from_is_err_and}
use Rattle.records.specs.RecordValue.{RecordValue}
use Rattle.core_parts.specs.Parts.{parts_of}
use Rattle.core_parts.proofs.Stepped.{changed, told}
use Rattle.core_parts.proofs.parts.CoreParts.record_index.Goals as goal

pub returns-in_err-push_back : goal.returns-in_err-push_back
returns-in_err-push_back g c =
    let p = err_from_is_err_and c.from_residual.result c.from_residual.ensures.1 in
    rw p.1 (record {
      ok = tt;
      unchanged = ap (λ (o : List RecordValue). record (parts_of c.args.self.now) { outbox = o }) c.in_err-push_back.ensures.items;
      no_memory = p.2;
    })

pub returns : goal.returns
returns g c =
    let v = parts_of c.args.self.now in
    record {
      ok = changed v refl refl refl refl (told v.outbox _ _ _ _ _ _ c.in_ok-push_back.ensures.items refl c.requires.number refl);
      unchanged = tt;
      no_memory = tt;
    }

use Rattle.std.proofs.Common.{arith, refl}
use Rattle.std.proofs.lemmas.Result.{err_from_is_err_and}
use Rattle.core_parts.specs.Parts.{parts_of}
use Rattle.core_parts.proofs.Places.{places_left}
use Rattle.core_parts.proofs.Stepped.{changed, put_as, told}
use Rattle.core_parts.proofs.parts.CoreParts.set_entry.Goals as goal

pub reserved-reserved-requires : goal.reserved-reserved-requires
reserved-reserved-requires g c = c.requires.safe

pub record_of-made-requires : goal.record_of-made-requires
record_of-made-requires g c = c.requires.whole

pub mark_in_reserved_place-requires : goal.mark_in_reserved_place-requires
mark_in_reserved_place-requires g c = omega (arith, c.requires.places, c.reserved-reserved.ensures.within, c.reserved-reserved.ensures.number)

pub returns-in_err-used : goal.returns-in_err-used
returns-in_err-used g c =
    let p = err_from_is_err_and c.from_residual.result c.from_residual.ensures.1 in
    rw (p.1, p.2) (record {
      ok = tt;
      unchanged = changed (parts_of c.args.self.now) refl refl c.in_err-used.ensures.unchanged.0 refl c.in_err-used.ensures.unchanged.1;
      no_memory = c.in_err-used.ensures.no_memory;
    })

pub overflow_sub-reserved : goal.overflow_sub-reserved
overflow_sub-reserved g c = omega (arith, c.in_ok-used.ensures.used, c.requires.places, c.reserved-reserved.ensures.number)

pub returns : goal.returns
returns g c =
    let v = parts_of c.args.self.now in
    record {
      ok = changed v refl
          (put_as v c.args.txn c.args.progress _ _ _ c.put.ensures.rest (places_left _ _ _ _ c.reserved-reserved.ensures.number c.in_ok-used.ensures.used))
          c.in_ok-used.ensures.index refl (told v.outbox _ _ _ _ _ _ c.in_ok-used.ensures.outbox c.record_of-made.ensures c.requires.number refl);
      unchanged = tt;
      no_memory = tt;
    }

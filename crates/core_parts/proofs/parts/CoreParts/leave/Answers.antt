use Rattle.std.proofs.Common.{List, ap, refl, ℕ, ◌-◌, ◌∙◌}
use Rattle.std.proofs.lemmas.Result.{err_from_is_err_and}
use Rattle.records.specs.RecordValue.{RecordValue}
use Rattle.core_parts.specs.Parts.{parts_of}
use Rattle.core_parts.proofs.Stepped.{changed, told}
use Rattle.core_parts.proofs.parts.CoreParts.leave.Goals as goal

pub reserved-reserved-requires : goal.reserved-reserved-requires
reserved-reserved-requires g c = c.requires.safe

pub record_of-requires : goal.record_of-requires
record_of-requires g c = c.requires.whole

pub returns-in_err-push_back : goal.returns-in_err-push_back
returns-in_err-push_back g c =
    let p = err_from_is_err_and c.from_residual.result c.from_residual.ensures.1 in
    rw p.1 (record {
      ok = tt;
      sound = c.stands.ensures;
      unchanged = ap (λ (o : List RecordValue). record (parts_of c.args.self.now) { outbox = o }) c.in_err-push_back.ensures.items;
      no_memory = p.2;
    })

pub unreachable-requires : goal.unreachable-requires
unreachable-requires g c = c.requires.has.active (c.in_default.ensures.unknown.0 refl)

pub release-requires : goal.release-requires
release-requires g c = c.reserved-reserved.ensures.within

pub returns : goal.returns
returns g c =
    let v = parts_of c.args.self.now in
    record {
      ok = changed v refl c.in-Ok.ensures.ok
          (c.release.ensures ∙ ap (λ (n : ℕ). record v.index { pledged = v.index.pledged - n }) c.reserved-reserved.ensures.number) refl
          (told v.outbox _ _ _ _ _ _ c.in_ok-push_back.ensures.items c.record_of.ensures c.requires.number refl);
      sound = c.stands.ensures;
      unchanged = tt;
      no_memory = tt;
    }

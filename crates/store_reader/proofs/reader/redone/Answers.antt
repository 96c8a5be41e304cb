use Rattle.std.proofs.Common.{◌≡◌, ◌∙◌, ap}
use Rattle.model.specs.Given.{recovered}
use Rattle.store_reader.specs.Store.{StoreValue}
use Rattle.store_reader.specs.declared.refusal.Refusal.TheVariants.{NoMemory, Unfit}
use Rattle.store_reader.proofs.reader.redone.Goals as goal

memory_not_unfit : {P : Type 0} → NoMemory ≡ Unfit → P
memory_not_unfit is = absurd (cc)

pub returns-in-Err : goal.returns-in-Err
returns-in-Err g c = record {
  following = tt;
  given = tt;
  geometry = tt;
  unfit = λ why. (c.in-Err.ensures.inside, c.in-Err.ensures.unfit why);
}

pub returns-in-Ok : goal.returns-in-Ok
returns-in-Ok g c = record {
  following = c.in_default.ensures.following;
  given = c.in-Ok.ensures.given ∙ ap (λ (v : StoreValue). recovered v.cells v.last) c.in_default.ensures.ok;
  geometry = c.in-Ok.ensures.geometry ∙ ap (λ (v : StoreValue). v.geometry) c.in_default.ensures.ok;
  unfit = tt;
}

pub returns-in-Err-restore : goal.returns-in-Err-restore
returns-in-Err-restore g c = record { following = tt; given = tt; geometry = tt; unfit = memory_not_unfit }

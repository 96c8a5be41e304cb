use Rattle.std.proofs.Common.{◌⊎◌, inl, inr, refl, subst}
use Rattle.record_values.specs.declared.error.Error.{Error}
use Rattle.gate_log.specs.Area.{Refuses}
use Rattle.store_reader.specs.Contents.{IsUnreadable}
use Rattle.store_reader.specs.Restored.{given_in}
use Rattle.store_salvage.specs.Salvage.{NamesNone}
use Rattle.store_salvage.proofs.Parts.{found_gives, hindered, none_here, unreadable}
use Rattle.store_salvage.proofs.salvaging.next_damage.Goals as goal

pub returns-in-Ok-clause-whole : goal.returns-in-Ok-clause-whole
returns-in-Ok-clause-whole g c = (given_in c.in-Ok.field-0.restored, found_gives _ _ _ _ _ _ c.in-Ok.ensures.found c.requires.store)

pub returns-in_default : goal.returns-in_default
returns-in_default g c = record {
  whole = tt;
  fits = tt;
  damaged = tt;
  refused = inl (hindered _ _ _ _ _ _ c.requires.store c.in_default.not-Damaged c.in-Err.ensures.refused);
  reads = c.read_store.ensures.reads;
  quiet = tt;
}

pub returns-clause-damaged : goal.returns-clause-damaged
returns-clause-damaged g c =
    let f = g.D.Device.failures in
    let before = f c.args.device.now in
    let now = f c.read_store.new.device in
    let image = (g.D.Device.past_of c.args.device.now).disk.content in (
      c.in-Damaged.sector,
      c.in-Some.ensures.named,
      unreadable image before now c.in-Damaged.sector
          (subst (λ (e : Error). Refuses before now e ⊎ IsUnreadable image e) c.in-Damaged.is c.in-Err.ensures.refused),
    )

-- the reader names no part
pub returns-in_default-part_at-clause-refused : goal.returns-in_default-part_at-clause-refused
returns-in_default-part_at-clause-refused g c =
    let f = g.D.Device.failures in
    let before = f c.args.device.now in
    let now = f c.read_store.new.device in
    let image = (g.D.Device.past_of c.args.device.now).disk.content in
    let halves = c.args.halves.now in
    inr (
      c.in-Damaged.sector,
      refl,
      unreadable image before now c.in-Damaged.sector
          (subst (λ (e : Error). Refuses before now e ⊎ IsUnreadable image e) c.in-Damaged.is c.in-Err.ensures.refused),
      none_here c.part_at.result (NamesNone halves.geometry halves.current c.in-Damaged.sector) c.in_default-part_at.is c.part_at.ensures.none,
    )

use Rattle.std.proofs.Common.{◌≡◌, ℕ, ◌-◌, OnOk, ◌∙◌, ap, subst}
use Rattle.sector_device.specs.Disk.{SameOutside}
use Rattle.sector_device.specs.Values.{AreZeroSectors, InRow}
use Rattle.record_values.specs.GeometryValue.{GeometryValue}
use Rattle.store_salvage.proofs.blank.close_from.Goals as goal

pub returns : goal.returns
returns g c =
    let h = g.D.Device.past_of in
    let new = (h c.write_zeros.new.device).disk.content in
    let first = c.gate_of.ensures.value in
    let slots = c.args.halves.now.geometry.slots - c.args.slot in
    let count : c.from.result ≡ slots =
    c.from.ensures ∙ ap (λ (s : GeometryValue). s.slots - c.args.slot) (c.slots.view_is ∙ c.geometry.ensures) in
    record {
      blank = subst (λ (n : ℕ). OnOk c.write_zeros.result (AreZeroSectors new n 8 slots)) first
          (subst (λ (n : ℕ). OnOk c.write_zeros.result (AreZeroSectors new c.gate_of.result 8 n)) count c.write_zeros.ensures.zeros);
      others = subst (λ (n : ℕ). SameOutside (InRow n 8 slots) (h c.args.device.now).disk.content new) first
          (subst (λ (n : ℕ). SameOutside (InRow c.gate_of.result 8 n) (h c.args.device.now).disk.content new) count c.write_zeros.ensures.outside);
      counts = c.write_zeros.ensures.counts;
    }

use Rattle.std.proofs.Common.{ℕ, OnOk, subst, arith}
use Rattle.sector_device.specs.Disk.{SameOutside}
use Rattle.sector_device.specs.Values.{AreZeroSectors, InRow}
use Rattle.store_salvage.proofs.blank.blank_page.Goals as goal

pub write_zeros-requires : goal.write_zeros-requires
write_zeros-requires g c = record {
  step = omega arith;
  inside = omega (arith, c.page_of.ensures.inside, c.requires.room);
  number = omega (arith, c.page_of.ensures.number);
}

pub returns : goal.returns
returns g c =
    let h = g.D.Device.past_of in
    let new = (h c.write_zeros.new.device).disk.content in
    record {
      blank = subst (λ (n : ℕ). OnOk c.write_zeros.result (AreZeroSectors new n 1 16)) c.page_of.ensures.value c.write_zeros.ensures.zeros;
      others = subst (λ (n : ℕ). SameOutside (InRow n 1 16) (h c.args.device.now).disk.content new) c.page_of.ensures.value c.write_zeros.ensures.outside;
      counts = c.write_zeros.ensures.counts;
    }

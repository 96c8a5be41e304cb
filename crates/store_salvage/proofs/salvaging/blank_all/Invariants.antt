use Rattle.std.proofs.Common.{◌≡◌, length}
use Rattle.flip_image.specs.Store.{IsStore}
use Rattle.store_salvage.specs.Salvage.{AreBlanked}
use Rattle.store_salvage.proofs.salvaging.blank_all.Given as goal

abbrev pub invariant-loop-look : goal.invariant-loop-look
invariant-loop-look g l =
    let h = g.D.Device.past_of in
    record {
      blanked : AreBlanked l.halves.geometry l.halves.current l.lost.items (h l.initial.device).disk.content (h l.device).disk.content;
      store : IsStore l.halves.geometry l.halves.current (h l.device).disk.content;
      count : length l.lost.items ≡ l._look;
      quiet : g.D.Device.failures l.device ≡ g.D.Device.failures l.initial.device;
    }

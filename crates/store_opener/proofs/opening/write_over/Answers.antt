use Rattle.std.proofs.Common.{ap, subst}
use Rattle.sector_device.specs.Disk.{sector}
use Rattle.store_reader.specs.Restored.{given_in}
use Rattle.flip_image.specs.Layout.{HalvesValue}
use Rattle.flip_image.specs.Store.{Names}
use Rattle.store_opener.proofs.WrittenBack.{writing_over, flipping_over, gives_now, opened, room_of}
use Rattle.store_opener.proofs.opening.write_over.Goals as goal

pub returns-in_err-log-clause-images : goal.returns-in_err-log-clause-images
returns-in_err-log-clause-images g c =
    let h = g.D.Device.past_of in
    let halves = c.args.halves in
    writing_over halves.geometry halves.current (h c.args.device.now) (h c.write_restored.new.device) c.requires.store (given_in c.args.restored)
    (room_of halves.geometry (given_in c.args.restored) c.requires.fits) c.write_restored.ensures.any_moment

pub returns-in-Ok-clause-images : goal.returns-in-Ok-clause-images
returns-in-Ok-clause-images g c =
    let h = g.D.Device.past_of in
    let halves = c.args.halves in
    let written = c.in_ok-log in
    flipping_over halves.geometry halves.current (h c.args.device.now) (h c.write_restored.new.device) c.requires.store (given_in c.args.restored)
    (room_of halves.geometry (given_in c.args.restored) c.requires.fits) c.write_restored.ensures.any_moment
    (h c.flip.new.device) c.write_restored.ensures.outside written.ensures.loose written.ensures.imaged written.log written.ensures.area written.ensures.empty
    c.flip.ensures.any_moment

pub returns-in-Err-clause-images : goal.returns-in-Err-clause-images
returns-in-Err-clause-images g c =
    let h = g.D.Device.past_of in
    let halves = c.args.halves in
    let written = c.in_ok-log in
    flipping_over halves.geometry halves.current (h c.args.device.now) (h c.write_restored.new.device) c.requires.store (given_in c.args.restored)
    (room_of halves.geometry (given_in c.args.restored) c.requires.fits) c.write_restored.ensures.any_moment
    (h c.flip.new.device) c.write_restored.ensures.outside written.ensures.loose written.ensures.imaged written.log written.ensures.area written.ensures.empty
    c.flip.ensures.any_moment

pub returns-in-Ok-clause-opened : goal.returns-in-Ok-clause-opened
returns-in-Ok-clause-opened g c =
    let h = g.D.Device.past_of in
    let halves = c.args.halves in
    let written = c.in_ok-log in
    opened halves.geometry halves.current (h c.args.device.now) (h c.write_restored.new.device) c.requires.store (given_in c.args.restored)
    (room_of halves.geometry (given_in c.args.restored) c.requires.fits) c.write_restored.ensures.any_moment
    (h c.flip.new.device) c.write_restored.ensures.outside written.ensures.loose written.ensures.imaged written.log written.ensures.area written.ensures.empty
    c.flip.new.self c.in-Ok.ensures.flipped c.flip.ensures.outside
    (subst (Names (sector (h c.flip.new.device).disk.content 1)) (ap (λ (x : HalvesValue). x.current) c.in-Ok.ensures.flipped) c.in-Ok.ensures.named)
    c.in-Ok.ensures.synced c.args.restored.numbered

pub returns-in-Ok-clause-gives : goal.returns-in-Ok-clause-gives
returns-in-Ok-clause-gives g c =
    let h = g.D.Device.past_of in
    let halves = c.args.halves in
    let written = c.in_ok-log in
    gives_now halves.geometry halves.current (h c.args.device.now) (h c.write_restored.new.device) c.requires.store (given_in c.args.restored)
    (room_of halves.geometry (given_in c.args.restored) c.requires.fits) c.write_restored.ensures.any_moment
    (h c.flip.new.device) c.write_restored.ensures.outside written.ensures.loose written.ensures.imaged written.log written.ensures.area written.ensures.empty
    c.flip.new.self c.in-Ok.ensures.flipped c.flip.ensures.outside
    (subst (Names (sector (h c.flip.new.device).disk.content 1)) (ap (λ (x : HalvesValue). x.current) c.in-Ok.ensures.flipped) c.in-Ok.ensures.named)
    c.in-Ok.ensures.synced c.args.restored.numbered

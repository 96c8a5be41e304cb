use Rattle.sector_device.proofs.Moments.{content_at_end, weaker}
use Rattle.record_values.specs.declared.version.Version.TheVariants.{Two}
use Rattle.store_opener.specs.Reopening.{IsWrittenBack}
use Rattle.store_reader.specs.Restored.{given_in}
use Rattle.store_opener.proofs.WrittenBack.{back_of}
use Rattle.store_opener.proofs.opening.write_back.Goals as goal

pub write_over-requires-clause-fits : goal.write_over-requires-clause-fits
write_over-requires-clause-fits g c = c.room_for_given.ensures Two (g.D.Device.past_of c.args.device.now).disk.content c.args.halves.geometry
    (given_in c.args.restored) c.requires.gives

pub returns-clause-images : goal.returns-clause-images
returns-clause-images g c =
    let h = g.D.Device.past_of in
    let halves = c.args.halves in
    weaker (h c.args.device.now) (h c.write_over.new.device) _ _
    (back_of halves.geometry halves.current (h c.args.device.now).disk.content c.requires.store (given_in c.args.restored) c.requires.gives)
    c.write_over.ensures.images

pub returns-clause-written : goal.returns-clause-written
returns-clause-written g c =
    let h = g.D.Device.past_of in
    content_at_end (h c.args.device.now) (h c.write_over.new.device) (IsWrittenBack (h c.args.device.now).disk.content) (returns-clause-images g c)

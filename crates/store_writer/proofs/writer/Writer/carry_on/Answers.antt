use Rattle.std.proofs.Common.{◌≡◌, true, ◌+◌, Option, Some, IfSome, List, length, take, drop, length-take, refl, ap, subst, arith}
use Rattle.record_values.specs.GeometryValue.{GeometryValue}
use Rattle.records.specs.RecordValue.{RecordValue}
use Rattle.flip_image.specs.Layout.{other}
use Rattle.store_writer.specs.declared.image.NewImage.{NewImage}
use Rattle.store_writer.specs.declared.writer.Writer.{Writer}
use Rattle.store_writer.specs.Image.{IsUnderway, BecomesImage}
use Rattle.store_writer.proofs.CarryOn.{leaves_there, carried_one, failed_one, long, group_between}
use Rattle.store_writer.proofs.Carrying.{new_log_open, new_log_room}
use Rattle.store_writer.proofs.Logs.{carried_around}
use Rattle.store_writer.proofs.writer.Writer.carry_on.Goals as goal

pub carry-requires : goal.carry-requires
carry-requires g c =
    let w = c.args.self.now in
    let (run, handed, is) = c.requires.appended in
    let content = (g.D.Device.past_of w.device).disk.content in
    let there : (i : NewImage) → w.image ≡ Some i → IsUnderway run (other w.halves.current) content w.synced i = λ i it.
    subst (λ (t : Option NewImage). IfSome t (IsUnderway run (other w.halves.current) content w.synced)) it is.image in
    record {
      planned = (w.halves.geometry.slots, w.synced, take c.args.count w.waiting, c.requires.planned);
      inside = λ i it. new_log_room run (other w.halves.current) content w.synced i (there i it) is.store.room;
      room = λ i it. new_log_open run (other w.halves.current) content w.synced i (there i it);
      synced = is.all_synced;
      stands = λ i it. ((there i it).groups, (there i it).stands);
    }

pub take_first-requires : goal.take_first-requires
take_first-requires g c =
    let w = c.args.self.now in
    let (run, handed, is) = c.requires.appended in
    omega (arith, long g.D.Device.past_of run handed c.args.count w is, length-take c.args.count w.waiting)

pub returns-in-Ok : goal.returns-in-Ok
returns-in-Ok g c =
    let past_of = g.D.Device.past_of in
    let w = c.args.self.now in
    let count = c.args.count in
    let group : List RecordValue = take count w.waiting in
    let now = (past_of c.carry.new.device).disk.content in
    let new : Writer g.row.D.Denot g.row.A.Denot = record {
      device = c.carry.new.device;
      halves = w.halves;
      log = w.log;
      waiting = c.take_first.new.self;
      synced = w.synced + count;
      image = c.in-Ok.image;
      copying = w.copying;
      known = w.known;
      failed = w.failed;
    } in
    let kept : new.waiting ≡ drop count w.waiting =
    c.take_first.ensures in
    record {
      writer = λ run handed is.
          let image : IfSome c.in-Ok.image (IsUnderway run (other w.halves.current) now (w.synced + length group)) =
          c.in-Ok.ensures.carried w.halves.geometry.slots w.synced group c.requires.planned run (other w.halves.current) is.image
          (ap (λ (x : GeometryValue). x.slots) is.geometry-is) is.opened
          (omega (arith, long past_of run handed count w is, is.within, is.made)) (group_between past_of run handed count w is) in
          carried_one past_of run handed count w is new refl refl refl kept c.carry.ensures.outside c.in-Ok.ensures.synced image refl
          c.in-Ok.ensures.stage refl;
      images = λ run handed is. leaves_there past_of run handed count w is (past_of c.carry.new.device) c.carry.ensures.any_moment;
      flushed = (refl, refl, refl);
      rest = (refl, refl, kept);
      image = λ run handed slots is slots_is some planned.
          let there = long past_of run handed count w is in
          subst (λ n. BecomesImage slots w.synced n w.image c.in-Ok.image) there
          (c.in-Ok.ensures.becomes slots w.synced group planned run (other w.halves.current) is.image slots_is (omega (arith, there, some)));
      err = tt;
      copying-is = refl;
      known-is = refl;
      quiet = c.in-Ok.ensures.counts.none;
      later = c.carry.ensures.counts.later;
      around =
          let (run, handed, is) = c.requires.appended in
          carried_around past_of run handed count w is new refl refl c.in-Ok.ensures.none c.carry.ensures.outside c.carry.ensures.any_moment;
      slot = c.carry.ensures.slot;
      left = tt;
    }

pub returns-in-Err : goal.returns-in-Err
returns-in-Err g c =
    let past_of = g.D.Device.past_of in
    let w = c.args.self.now in
    let count = c.args.count in
    let new : Writer g.row.D.Denot g.row.A.Denot = record {
      device = c.carry.new.device;
      halves = w.halves;
      log = w.log;
      waiting = w.waiting;
      synced = w.synced;
      image = w.image;
      copying = w.copying;
      known = w.known;
      failed = true;
    } in
    record {
      writer = λ run handed is. failed_one past_of run handed count w is new refl refl refl refl
          (leaves_there past_of run handed count w is (past_of c.carry.new.device) c.carry.ensures.any_moment);
      images = λ run handed is. leaves_there past_of run handed count w is (past_of c.carry.new.device) c.carry.ensures.any_moment;
      flushed = tt;
      rest = tt;
      image = tt;
      err = (refl, refl, refl, c.in-Err.ensures.counts.failed);
      copying-is = refl;
      known-is = refl;
      quiet = tt;
      later = c.carry.ensures.counts.later;
      around =
          let (run, handed, is) = c.requires.appended in
          carried_around past_of run handed count w is new refl refl (λ none. none) c.carry.ensures.outside c.carry.ensures.any_moment;
      slot = c.carry.ensures.slot;
      left = ((λ none. c.in-Err.ensures.keeps none), refl);
    }

use Rattle.std.proofs.Common.{◌∙◌, ℕ, [], Err, refl, ap, subst, arith}
use Rattle.std.proofs.lemmas.Result.{err_from_is_err_and}
use Rattle.sector_device.specs.DevicePast.{Rises}
use Rattle.flip_image.specs.Layout.{other, header_sector}
use Rattle.store_reader.specs.Contents.{log_area}
use Rattle.store_writer.proofs.Idle.{still_named, closing, closed_outside, imaging, imaged_outside, imaged_loose, imaged_log}
use Rattle.store_writer.proofs.KnownPages.{no_gate, start_before}
use Rattle.store_writer.proofs.image.write_first.Goals as goal

pub closed_log-requires : goal.closed_log-requires
closed_log-requires g c = record { room = c.requires.room }

pub returns-in_err-log : goal.returns-in_err-log
returns-in_err-log g c =
    let halves = c.args.halves in
    let area = log_area halves.geometry (other halves.current) in
    let past_of = g.D.Device.past_of in
    let old = past_of c.args.device.now in
    let mid = past_of c.closed_log.new.device in
    let p = err_from_is_err_and c.from_residual.result c.from_residual.ensures.1 in
    rw (p.1 ∙ ap Err p.2) (record {
      written = tt;
      area = tt;
      empty = tt;
      loose = tt;
      outside = closed_outside halves.geometry (other halves.current) old mid area refl c.requires.loose c.closed_log.ensures.outside;
      pages = λ n inside. c.closed_log.ensures.outside.same n (no_gate halves.geometry (other halves.current) n inside);
      any_moment = closing halves.geometry (other halves.current) old mid area refl c.requires.loose c.closed_log.ensures.any_moment;
      counts = record { later = c.closed_log.ensures.counts.later; none = tt; failed = c.in_err-log.ensures.counts.failed };
    })

pub write_start-requires : goal.write_start-requires
write_start-requires g c =
    let halves = c.args.halves in
    let area = log_area halves.geometry (other halves.current) in
    record {
      inside = omega (arith, c.requires.room, c.closed_log.ensures.outside.sectors);
      current = still_named halves.geometry (other halves.current) (g.D.Device.past_of c.args.device.now)
          (g.D.Device.past_of c.closed_log.new.device) area refl c.requires.loose halves.current c.closed_log.ensures.outside c.requires.current;
      fits = c.requires.fits;
    }

pub returns-in_err-write_start : goal.returns-in_err-write_start
returns-in_err-write_start g c =
    let halves = c.args.halves in
    let area = log_area halves.geometry (other halves.current) in
    let past_of = g.D.Device.past_of in
    let old = past_of c.args.device.now in
    let mid = past_of c.closed_log.new.device in
    let new = past_of c.write_start.new.device in
    let p = err_from_is_err_and c.from_residual-in_err-write_start.result c.from_residual-in_err-write_start.ensures.1 in
    rw (p.1 ∙ ap Err p.2) (record {
      written = tt;
      area = tt;
      empty = tt;
      loose = tt;
      outside = imaged_outside halves.geometry (other halves.current) old mid area refl c.requires.loose new c.closed_log.ensures.any_moment
          c.closed_log.ensures.outside c.in_ok-log.ensures.synced c.write_start.ensures.within;
      pages = λ n inside. c.write_start.ensures.outside.same n (λ start.
          omega (arith, inside.0, start_before halves.geometry (header_sector halves.geometry (other halves.current)) _ c.requires.fits n start))
          ∙ c.closed_log.ensures.outside.same n (no_gate halves.geometry (other halves.current) n inside);
      any_moment = imaging halves.geometry (other halves.current) old mid area refl c.requires.loose new c.closed_log.ensures.any_moment
          c.closed_log.ensures.outside c.in_ok-log.ensures.synced c.write_start.ensures.within;
      counts = record {
        later = omega (arith, c.closed_log.ensures.counts.later, c.write_start.ensures.counts.later);
        none = tt;
        failed = subst (λ (n : ℕ). Rises n (g.D.Device.failures c.write_start.new.device)) c.in_ok-log.ensures.counts.none
            c.in_err-write_start.ensures.counts.failed;
      };
    })

pub returns : goal.returns
returns g c =
    let halves = c.args.halves in
    let area = log_area halves.geometry (other halves.current) in
    let past_of = g.D.Device.past_of in
    let old = past_of c.args.device.now in
    let mid = past_of c.closed_log.new.device in
    let new = past_of c.write_start.new.device in
    record {
      written = c.in_ok-write_start.ensures.written;
      area = c.in_ok-log.ensures.area;
      empty = imaged_log halves.geometry (other halves.current) old mid area refl c.requires.loose new c.closed_log.ensures.any_moment
          c.closed_log.ensures.outside c.in_ok-log.ensures.synced c.write_start.ensures.within _ [] c.in_ok-log.ensures.area c.in_ok-log.ensures.empty;
      loose = imaged_loose halves.geometry (other halves.current) old mid area refl c.requires.loose new c.closed_log.ensures.any_moment
          c.closed_log.ensures.outside c.in_ok-log.ensures.synced c.write_start.ensures.within;
      outside = imaged_outside halves.geometry (other halves.current) old mid area refl c.requires.loose new c.closed_log.ensures.any_moment
          c.closed_log.ensures.outside c.in_ok-log.ensures.synced c.write_start.ensures.within;
      pages = λ n inside. c.write_start.ensures.outside.same n (λ start.
          omega (arith, inside.0, start_before halves.geometry (header_sector halves.geometry (other halves.current)) _ c.requires.fits n start))
          ∙ c.closed_log.ensures.outside.same n (no_gate halves.geometry (other halves.current) n inside);
      any_moment = imaging halves.geometry (other halves.current) old mid area refl c.requires.loose new c.closed_log.ensures.any_moment
          c.closed_log.ensures.outside c.in_ok-log.ensures.synced c.write_start.ensures.within;
      counts = record {
        later = omega (arith, c.closed_log.ensures.counts.later, c.write_start.ensures.counts.later);
        none = c.in_ok-write_start.ensures.counts.none ∙ c.in_ok-log.ensures.counts.none;
        failed = tt;
      };
    }

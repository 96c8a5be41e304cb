use Rattle.std.proofs.Common.{ℕ, ap, arith, subst, sym, ◌∙◌}
use Rattle.core_model.specs.Histories.{Opened}
use Rattle.board.specs.Views.{FlusherCount}
use Rattle.locked_core.specs.Names.{Names}
use Rattle.shared.specs.Openings.{IsOpening}
use Rattle.store_writer.specs.Parts.{device_of}
use Rattle.threads_flusher.specs.Part.{FlushValue}
use Rattle.threads_lifetime.specs.Openings.{IsNewWriter, StoreValue}
use Rattle.threads_lifetime.proofs.Opened.{new_flusher}
use Rattle.threads_lifetime.proofs.store.OpenStore.start.Goals as goal

pub returns-in-Ok : goal.returns-in-Ok
returns-in-Ok g c =
    let past_of = g.D.Device.past_of in
    let made = c.new-flush.ensures in
    let same = ap (λ (s : StoreValue _). s.site.opened) c.self.view_is ∙ ap (λ (n : Names). n.opened) c.requires.names in
    let writer = c.self.inside.writer in
    let is = subst (λ (o : Opened). IsNewWriter past_of o writer) same c.self.invariant.2 in
    record {
      seats = c.in-Ok.ensures.seats;
      flush = new_flusher past_of g.D.Device.marks g.B.Group.site.board g.B.Group.site.opened writer is c.in-Ok.parts.ends.published c.in-Ok.ensures.flush
          made.0 made.1 c.new-flush.result made.2;
      device = ap (λ (f : FlushValue _ _). device_of f.writer) made.2 ∙ ap (λ (s : StoreValue _). s.device) c.self.view_is;
      build = c.in-Ok.ensures.build;
      clean = c.in-Ok.ensures.clean;
      no_memory = tt;
      back = tt;
    }

pub returns-in-Err : goal.returns-in-Err
returns-in-Err g c = record {
  seats = tt;
  flush = tt;
  device = tt;
  build = tt;
  clean = tt;
  no_memory = c.in-Err.ensures.no_memory;
  back = c.into_device.ensures.device ∙ ap (λ (s : StoreValue _). s.device) c.self.view_is;
}

pub start-requires : goal.start-requires
start-requires g c =
    let names = ap (λ (s : StoreValue _). s.site) c.self.view_is ∙ c.requires.names in
    let opening = c.self.inside.opening in
    record {
      names = names;
      made = subst (λ (n : ℕ). IsOpening n opening) (ap (λ (n : Names). n.seats) names) c.self.invariant.0;
      opened = c.self.invariant.1;
    }

pub new-flush-requires : goal.new-flush-requires
new-flush-requires g c =
    let same = ap (λ (s : StoreValue _). s.site.opened) c.self.view_is ∙ ap (λ (n : Names). n.opened) c.requires.names in
    let is = subst (λ (o : Opened). IsNewWriter g.D.Device.past_of o c.self.inside.writer) same c.self.invariant.2 in
    let flush = c.in-Ok.ensures.flush in
    record {
      site = c.board.ensures;
      popper = c.in-Ok.ensures.popper;
      board = ap (λ (f : FlusherCount). f.board) flush;
      writer = is.writer;
      pages = is.pages;
      places = is.places;
      fits = is.fits;
      horizon = omega (arith, ap (λ (f : FlusherCount). f.horizon) flush);
      failed = ap (λ (f : FlusherCount). f.failed) flush ∙ sym is.sound;
    }

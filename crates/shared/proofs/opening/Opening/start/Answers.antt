use Rattle.std.proofs.Common.{[], false, ◌∙◌, ap, subst, sym}
use Rattle.board.specs.Views.{BuilderCount, Sighting}
use Rattle.core_laws.specs.Calls.{BeginsWith}
use Rattle.core_model.specs.Histories.{CanOpen}
use Rattle.nsf_core.specs.Value.{value_of}
use Rattle.threads_flusher.specs.Part.{EndsValue}
use Rattle.threads_sessions.specs.Halves.{IsNew}
use Rattle.locked_core.specs.Names.{Names}
use Rattle.shared.proofs.Seats.{sees_nothing, stays_blind}
use Rattle.shared.specs.Seats.{HasSeenNothing}
use Rattle.shared.proofs.opening.Opening.start.Goals as goal

pub another-clean_view-requires : goal.another-clean_view-requires
another-clean_view-requires g c = ap (λ (v : Sighting). v.board) c.requires.made.view

pub new-clean-requires : goal.new-clean-requires
new-clean-requires g c = ap (λ (v : Sighting). v.board) c.another-clean_view.ensures.leaves
    ∙ (ap (λ (v : Sighting). v.board) c.requires.made.view ∙ ap (λ (n : Names). n.board) c.requires.names)

pub seats_of-requires : goal.seats_of-requires
seats_of-requires g c =
    let nothing = subst (λ z. HasSeenNothing z c.args.self.view) (ap (λ (n : Names). n.board) c.requires.names)
    (ap (λ (v : Sighting). record v { name = [] }) c.requires.made.view) in
    record {
      board = ap (λ (n : Names). n.board) c.requires.names;
      view = stays_blind g.B.Group.site.board c.args.self.view _ _ nothing c.another-clean_view.ensures.stays;
      counted = c.requires.made.counted.1;
      halves = subst (λ z. IsNew z c.args.self.halves.items) (ap (λ (n : Names). n.table) c.requires.names) c.requires.made.halves;
    }

pub returns-in-Err : goal.returns-in-Err
returns-in-Err g c = record {
  seats = tt;
  popper = tt;
  flush = tt;
  build = tt;
  clean = tt;
  no_memory = c.in-Err.ensures.no_memory;
}

pub new-locked-requires : goal.new-locked-requires
new-locked-requires g c =
    let core = value_of c.args.self.core in
    let opened = ap (λ (n : Names). n.opened) c.requires.names in
    record {
      opens = subst CanOpen opened c.requires.opened.opens;
      core = subst (λ o. BeginsWith o core) opened c.requires.opened.begins;
      pusher = c.requires.made.pusher ∙ ap (λ (n : Names). record { queue = n.queue; records = [] }) c.requires.names;
      seats = c.requires.made.counted.0;
      book = subst (λ z. IsNew z c.args.self.book.items) (ap (λ (n : Names). n.table) c.requires.names) c.requires.made.book;
    }

pub new-requires-3 : goal.new-requires-3
new-requires-3 g c = ap (λ (v : BuilderCount). v.board) c.requires.made.build ∙ ap (λ (n : Names). n.board) c.requires.names

pub invariant_of-shared : goal.invariant_of-shared
invariant_of-shared g c = record {
  queue_is = ap (λ (n : Names). n.queue) c.requires.names;
  registry_is = ap (λ (n : Names). n.table) c.requires.names;
  board_is = ap (λ (n : Names). n.board) c.requires.names;
}

pub returns : goal.returns
returns g c =
    let made = c.requires.made in
    let nothing = subst (λ z. HasSeenNothing z c.args.self.view) (ap (λ (n : Names). n.board) c.requires.names)
    (ap (λ (v : Sighting). record v { name = [] }) made.view) in
    record {
      seats = c.in-Ok.ensures.seats;
      popper = ap (λ (e : EndsValue). e.popper) c.new-2.ensures
          ∙ (made.popper ∙ ap (λ (n : Names). record { queue = n.queue; records = [] }) c.requires.names);
      flush = ap (λ (e : EndsValue). e.published) c.new-2.ensures
          ∙ (made.flush ∙ ap (λ (n : Names). record { board = n.board; horizon = 0; failed = false; stopped = false; notes = [] }) c.requires.names);
      build = c.new-3.ensures ∙ ap (λ (v : BuilderCount). record { progress = v.progress; stopped = v.stopped }) made.build;
      clean = subst (λ v. HasSeenNothing g.B.Group.site.board v) (sym c.new-clean.ensures)
          (sees_nothing g.B.Group.site.board c.args.self.view _ _ nothing c.another-clean_view.ensures.leaves);
      no_memory = tt;
    }

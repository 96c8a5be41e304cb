use Rattle.std.proofs.Common.{refl, ap, ◌∙◌}
use Rattle.std.proofs.lemmas.List.{length-map}
use Rattle.nsf_core.specs.Value.{value_of}
use Rattle.threads_queue.specs.Ends.{Handed}
use Rattle.threads_sessions.specs.Halves.{shown}
use Rattle.locked_core.proofs.Kept.{all_new, new_book, new_shared}
use Rattle.locked_core.proofs.locked.Locked.new.Goals as goal

pub invariant_of-result : goal.invariant_of-result
invariant_of-result g c =
    let z = g.B.Group.site in
    record {
      queue = ap (λ (h : Handed). h.queue) c.requires.pusher;
      seats = c.requires.seats;
      halves = new_book z.table c.args.book.items c.requires.book;
      shared = ∣ new_shared z.opened (value_of c.args.core) c.args.pusher.records z.table c.args.book.items c.requires.opens c.requires.core
          (ap (λ (h : Handed). h.records) c.requires.pusher) c.requires.book ∣₁;
    }

pub returns : goal.returns
returns g c = record {
  core = refl;
  pushed = ap (λ (h : Handed). h.records) c.requires.pusher;
  book = all_new g.B.Group.site.table c.args.book.items c.requires.book;
  seats = length-map c.args.book.items shown ∙ c.requires.seats;
}

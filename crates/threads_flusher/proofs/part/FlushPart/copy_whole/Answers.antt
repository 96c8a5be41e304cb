use Rattle.std.proofs.Common.{Err, ◌≡◌, ◌++◌, ◌∙◌, ap, refl, arith}
use Rattle.std.proofs.lemmas.Result.{err_from_is_err_and}
use Rattle.locked_core.specs.Locked.{locked_of}
use Rattle.store_writer.specs.Parts.{halves_of}
use Rattle.threads_flusher.proofs.Pieces.{all_made, number_is, whole_chunk}
use Rattle.threads_flusher.proofs.part.FlushPart.copy_whole.Goals as goal

pub returns-in_err-look : goal.returns-in_err-look
returns-in_err-look g c =
    let p = err_from_is_err_and c.from_residual.result c.from_residual.ensures.1 in
    rw (p.1 ∙ ap Err p.2) (record {
      takes = c.look.ensures.takes;
      published = c.look.ensures.published;
      number = tt;
      last = tt;
      chunk = tt;
      whole = tt;
      no_memory = c.in_err-look.ensures.no_memory;
      pushed = c.look.ensures.pushed;
      book = c.look.ensures.book;
    })

pub returns-in_err-chunk : goal.returns-in_err-chunk
returns-in_err-chunk g c =
    let p = err_from_is_err_and c.from_residual-in_err-chunk.result c.from_residual-in_err-chunk.ensures.1 in
    rw (p.1 ∙ ap Err p.2) (record {
      takes = c.look.ensures.takes;
      published = c.look.ensures.published;
      number = tt;
      last = tt;
      chunk = tt;
      whole = tt;
      no_memory = c.in_err-chunk.ensures.no_memory;
      pushed = c.look.ensures.pushed;
      book = c.look.ensures.book;
    })

pub returns-then-last_handed-chunk : goal.returns-then-last_handed-chunk
returns-then-last_handed-chunk g c = record {
  takes = c.look.ensures.takes;
  published = c.look.ensures.published;
  number = tt;
  last = tt;
  chunk = tt;
  whole = tt;
  no_memory = refl;
  pushed = c.look.ensures.pushed;
  book = c.look.ensures.book;
}

pub returns : goal.returns
returns g c =
    let now = locked_of c.look.new.locked in
    let f = c.look.new.self in
    let told = c.in_ok-chunk.ensures.number in
    let last = c.each_hold.ensures.last in
    let all : now.pushed ++ now.core.outbox ≡ f.handed =
    all_made f.handed now.pushed now.core.outbox c.in_ok-look.ensures.beginning
    (omega (arith, told, last (halves_of f.writer).geometry, c.if-last_handed-chunk.false, c.last_handed.ensures)) in
    record {
      takes = c.look.ensures.takes;
      published = c.look.ensures.published;
      number = number_is g.D.Device.past_of g.B.Group.site.opened f c.stands.ensures now all last c.each_hold.ensures.store c.in_ok-chunk.chunk.number told;
      last = told;
      chunk = whole_chunk g.D.Device.past_of g.B.Group.site.opened f c.stands.ensures now all last c.each_hold.ensures.store
          c.in_ok-chunk.chunk.number told c.in_ok-chunk.chunk.piece (c.in_ok-chunk.ensures.whole (halves_of f.writer).geometry);
      whole = c.in_ok-chunk.ensures.whole;
      no_memory = tt;
      pushed = c.look.ensures.pushed;
      book = c.look.ensures.book;
    }

use Rattle.std.proofs.Common.{◌∙◌, ap}
use Rattle.board.specs.Views.{FlusherCount}
use Rattle.threads_queue.specs.Ends.{Handed}
use Rattle.threads_flusher.proofs.Keeping.{first_is, first_noted, kept_at_first}
use Rattle.threads_flusher.proofs.Notes.{same_board, told_over}
use Rattle.threads_flusher.specs.Part.{EndsValue}
use Rattle.threads_flusher.proofs.part.FlushPart.new.Goals as goal

pub invariant_of-result : goal.invariant_of-result
invariant_of-result g c =
    let is = c.requires in
    let same = c.ends.view_is in
    let begins = c.begin-view.ensures in
    let told = c.publish.ensures.published in
    let noted = first_noted g.D.Device.past_of c.new-publications.result.items c.publish.new.publications.items c.args.writer c.new-publications.ensures
    c.publish.ensures.noted in
    let queue = ap (λ (e : EndsValue). e.popper.queue) same ∙ ap (λ (p : Handed). p.queue) is.popper in
    let records = ap (λ (e : EndsValue). e.popper.records) same ∙ ap (λ (p : Handed). p.records) is.popper in
    let kept =
    kept_at_first g.D.Device.past_of g.D.Device.marks g.B.Group.site.opened _ _ c.args.writer c.begin-view.result c.publish.new.view _ told.0
    records c.new.ensures.items told.2 noted c.synced-last.result is.writer
    is.pages is.places is.fits (ap (λ (n : FlusherCount). n.notes) begins.nothing) told.1
    c.synced-last.ensures in
    let board = same_board c.begin-view.result c.publish.new.view c.args.writer told.0 told.2
    ∙ (ap (λ (n : FlusherCount). n.board) begins.same ∙ (ap (λ (e : EndsValue). e.published.board) same ∙ is.board)) in
    (queue, kept.0, kept.1, kept.2, board)

pub returns : goal.returns
returns g c =
    let same = c.ends.view_is in
    let told = c.publish.ensures.published in
    let noted = first_noted g.D.Device.past_of c.new-publications.result.items c.publish.new.publications.items c.args.writer c.new-publications.ensures
    c.publish.ensures.noted in
    let records = ap (λ (e : EndsValue). e.popper.records) same ∙ ap (λ (p : Handed). p.records) c.requires.popper in
    let view = told_over c.begin-view.result c.publish.new.view c.args.writer told.0 told.2 c.args.ends.published
    (c.begin-view.ensures.same ∙ ap (λ (e : EndsValue). e.published) same) in (
      told.0,
      told.1,
      first_is g.D.Device.past_of g.D.Device.marks g.B.Group.site.opened _ _ c.args.writer c.args.ends.published c.publish.new.view _ told.0
          records c.new.ensures.items view noted,
    )

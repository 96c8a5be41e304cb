use Rattle.std.proofs.Common.{◌≡◌, List, [], ◌∷◌, ◌++◌, sym, ap, ◌∙◌}
use Rattle.std.proofs.lemmas.Result.{err_from_is_err_and}
use Rattle.records.specs.RecordValue.{RecordValue}
use Rattle.threads_queue.specs.Ends.{Handed}
use Rattle.threads_flusher.specs.Part.{FlushValue, last_handed}
use Rattle.threads_flusher.proofs.Keeping.{begins_popping, held_more, kept_by_popping, popped_more, value_is}
use Rattle.threads_flusher.proofs.part.FlushPart.take.Goals as goal

pub loop-init : goal.loop-init
loop-init g c =
    let begun = begins_popping g.D.Device.past_of g.D.Device.marks g.B.Group.site.opened _ _ _ _ _ _ c.self.view_is
    (c.self.invariant.1, c.self.invariant.2) in (
      c.self.invariant.0,
      c.self.invariant.4,
      begun.0,
      begun.1,
      begun.2,
      begun.3,
      c.self.invariant.3 ∙ ap (last_handed g.B.Group.site.opened) c.self.view_is,
      begun.4,
    )

pub pop-requires : goal.pop-requires
pop-requires g c = c.loop.invariant.0 ∙ sym c.requires

pub loop-preserved : goal.loop-preserved
loop-preserved g c =
    let (queue, board, same, told, noted, stands, last, some) = c.loop.invariant in
    let (more, popped, held) = some in
    let old : FlushValue g.row.D.Denot g.row.A.Denot = c.args.self.now in
    let item = c.in-Some-pop.record in
    let was : Handed = c.loop.self-inside.popper in
    let now : c.pop.new.self ≡ record was { records = was.records ++ item ∷ [] } = c.in-Some-pop.ensures in
    let kept : c.reserve.new.self.items ≡ old.held ++ more =
    ◌∙◌ {A = List RecordValue} {c = old.held ++ more} c.reserve.ensures.items held in (
      ◌∙◌ {c = g.B.Group.site.queue} (ap (λ (p : Handed). p.queue) {y = record was { records = was.records ++ item ∷ [] }} now) queue,
      board,
      same,
      told,
      noted,
      stands,
      last,
      (
        more ++ item ∷ [],
        popped_more old.handed old.held more was.records c.pop.new.self.records item popped
            (ap (λ (p : Handed). p.records) {y = record was { records = was.records ++ item ∷ [] }} now),
        held_more old.held more c.reserve.new.self.items c.push_reserved.new.self.items item kept c.push_reserved.ensures.items,
      ),
    )

pub returns-in_err-reserve : goal.returns-in_err-reserve
returns-in_err-reserve g c =
    let (queue, board, same, told, noted, stands, last, some) = c.loop.invariant in
    let (more, popped, held) = some in
    let old : FlushValue g.row.D.Denot g.row.A.Denot = c.args.self.now in
    let kept : c.reserve.new.self.items ≡ old.held ++ more =
    ◌∙◌ {A = List RecordValue} {c = old.held ++ more} c.reserve.ensures.items held in
    let p = err_from_is_err_and c.from_residual.result c.from_residual.ensures.1 in
    rw p.1 (record {
      takes = (more, value_is g.D.Device.past_of g.D.Device.marks g.B.Group.site.opened old more _ _ _ _ _ popped kept same told noted);
      no_memory = p.2;
    })

pub invariant_of-self : goal.invariant_of-self
invariant_of-self g c =
    let (queue, board, same, told, noted, stands, last, some) = c.loop.invariant in
    let (more, popped, held) = some in
    let old : FlushValue g.row.D.Denot g.row.A.Denot = c.args.self.now in
    let kept : c.reserve.new.self.items ≡ old.held ++ more =
    ◌∙◌ {A = List RecordValue} {c = old.held ++ more} c.reserve.ensures.items held in
    let is = kept_by_popping g.D.Device.past_of g.D.Device.marks g.B.Group.site.opened old more _ _ _ _ _ _ popped kept same told noted stands last in
    (queue, is.0, is.1, is.2, board)

pub returns-in-None-pop : goal.returns-in-None-pop
returns-in-None-pop g c =
    let (queue, board, same, told, noted, stands, last, some) = c.loop.invariant in
    let (more, popped, held) = some in
    let old : FlushValue g.row.D.Denot g.row.A.Denot = c.args.self.now in
    let all : c.pop.new.self.records ≡ old.handed ++ (old.held ++ more) =
    ◌∙◌ {A = List RecordValue} {c = old.handed ++ (old.held ++ more)} (ap (λ (p : Handed). p.records) c.in-None-pop.ensures) popped in
    let kept : c.reserve.new.self.items ≡ old.held ++ more =
    ◌∙◌ {A = List RecordValue} {c = old.held ++ more} c.reserve.ensures.items held in
    record {
      takes = (more, value_is g.D.Device.past_of g.D.Device.marks g.B.Group.site.opened old more _ _ _ _ _ all kept same told noted);
      no_memory = tt;
    }

pub invariant_of-self-in-None-pop : goal.invariant_of-self-in-None-pop
invariant_of-self-in-None-pop g c =
    let (queue, board, same, told, noted, stands, last, some) = c.loop.invariant in
    let (more, popped, held) = some in
    let old : FlushValue g.row.D.Denot g.row.A.Denot = c.args.self.now in
    let all : c.pop.new.self.records ≡ old.handed ++ (old.held ++ more) =
    ◌∙◌ {A = List RecordValue} {c = old.handed ++ (old.held ++ more)} (ap (λ (p : Handed). p.records) c.in-None-pop.ensures) popped in
    let kept : c.reserve.new.self.items ≡ old.held ++ more =
    ◌∙◌ {A = List RecordValue} {c = old.held ++ more} c.reserve.ensures.items held in
    let is = kept_by_popping g.D.Device.past_of g.D.Device.marks g.B.Group.site.opened old more _ _ _ _ _ _ all kept same told noted stands last in
    (◌∙◌ {c = g.B.Group.site.queue} (ap (λ (p : Handed). p.queue) c.in-None-pop.ensures) queue, is.0, is.1, is.2, board)

use Rattle.std.proofs.Common.{◌≡◌, ◌∙◌, refl, sym, ap, arith, subst}
use Rattle.std.proofs.lemmas.Bool.{false≢true}
use Rattle.record_values.specs.GeometryValue.{GeometryValue}
use Rattle.sector_device.proofs.Moments.{started}
use Rattle.sector_device.specs.DevicePast.{LeavesOnly}
use Rattle.store_image_model.specs.Places.{place_behind}
use Rattle.store_image_model.specs.declared.chunk.CopyPlace.TheVariants as at
use Rattle.store_image_model.specs.declared.chunk.Piece.{Piece}
use Rattle.store_image_model.specs.declared.chunk.Piece.TheVariants.{Page}
use Rattle.store_writer.specs.Contents.{LeftBy}
use Rattle.store_writer.specs.Copying.{next_place}
use Rattle.store_writer.specs.Parts as writer
use Rattle.store_writer.specs.declared.copying.Copying.TheVariants.{Steps}
use Rattle.store_writer.specs.declared.writer.Writer.{Writer}
use Rattle.restart.specs.Copies.{IsCopyAnswer}
use Rattle.restart.specs.Handing.{MovesOn}
use Rattle.restart.specs.declared.parts.EngineParts.{EngineParts}
use Rattle.restart.specs.Parts.{device_of, horizon_of, writer_of}
use Rattle.restart.specs.Store.{CanRun, CopiesAround}
use Rattle.restart.proofs.Copied.{CopyLaws, fewer_now, takes_piece}
use Rattle.restart.proofs.CopiesAround.{device_copied}
use Rattle.restart.proofs.CopyAnswers.{all_well}
use Rattle.restart.proofs.Moving.{moves_at}
use Rattle.restart.proofs.Passed.{last_handed, page_now}
use Rattle.restart.proofs.parts.EngineParts.copy_piece.Goals as goal

-- ---- where the page was passed over

pub returns-then-pass_page-clause-moves : goal.returns-then-pass_page-clause-moves
returns-then-pass_page-clause-moves g c =
    let past_of = g.D.Device.past_of in
    let old = c.args.self.now in
    let passed = c.pass_page.ensures.passed c.if-pass_page.true in
    let new : EngineParts g.row.D.Denot g.row.A.Denot = record old { writer = c.pass_page.new.self } in
    let device_is : device_of new ≡ device_of old = ap (λ w. writer.device_of w) passed.9 in
    moves_at past_of old new refl refl
    (λ run handed s k is. c.pass_page.ensures.writer run handed is.writer)
    (λ run handed is. subst (λ d. LeavesOnly (past_of (device_of old)) (past_of d) (LeftBy run (horizon_of old) handed)) (sym device_is)
    (started (past_of (device_of old)) (LeftBy run (horizon_of old) handed) is.images))
    (omega (arith, ap (λ w. writer.synced_of w) passed.9))
    refl

pub returns-then-pass_page-clause-answer : goal.returns-then-pass_page-clause-answer
returns-then-pass_page-clause-answer g c =
    let past_of = g.D.Device.past_of in
    let old = c.args.self.now in
    let new : EngineParts g.row.D.Denot g.row.A.Denot = record old { writer = c.pass_page.new.self } in
    let laws : CopyLaws past_of old = record {
      txns = c.stands.ensures.sound;
      shown = c.each_list.ensures.shown;
      one = c.one_copy.ensures;
      page = c.next_pieces.ensures.page;
      entries = c.next_pieces.ensures.entries;
    } in
    let can = c.requires.runs in
    let passed = c.pass_page.ensures.passed c.if-pass_page.true in
    let (page, rows, next, chunk, told) = c.pass_page.ensures.taken c.if-pass_page.true can.0 can.1 can.4.writer in
    let piece : Piece g.row.A.Denot = Page page rows in
    let last = last_handed past_of can.0 can.1 can.2 can.3 old can.4 c.requires.all in
    let of = page_now past_of can.0 can.1 can.2 can.3 old can.4 c.requires.all laws c.requires.sound page rows passed.0 (chunk passed.0 passed.5) in
    let behind : new.writer.copying ≡ Steps (place_behind old.geometry.pages piece) =
    told.1.3 ∙ ap (λ (x : GeometryValue). Steps (place_behind x.pages piece)) (can.4.writer.geometry-is ∙ sym can.4.geometry) in
    let device_is : device_of new ≡ device_of old = ap (λ w. writer.device_of w) passed.9 in
    let level : horizon_of new ≡ horizon_of old = ap (λ w. writer.synced_of w) passed.9 in
    let still : writer.has_failed (writer_of new) ≡ writer.has_failed (writer_of old) = ap (λ w. writer.has_failed w) passed.9 in (
      all_well past_of g.D.Device.failures old new c.requires.all can refl refl (c.pass_page.ensures.writer can.0 can.1 can.4.writer) (omega (arith, level))
          (omega (arith, ap g.D.Device.failures device_is)) c.requires.sound (still ∙ c.requires.sound) (ap g.D.Device.failures device_is),
      takes_piece old new can.1 (at.Page page) piece last next of told behind level,
      fewer_now past_of old new laws c.requires.sound can.1 (at.Page page) piece last of next can told behind refl refl,
    )

pub returns-then-pass_page-clause-around : goal.returns-then-pass_page-clause-around
returns-then-pass_page-clause-around g c =
    let passed = c.pass_page.ensures.passed c.if-pass_page.true in
    let old = c.args.self.now in
    device_copied g.D.Device.past_of old (record old { writer = c.pass_page.new.self }) (ap (λ w. writer.device_of w) passed.9)

pub returns-then-pass_page-clause-spares : goal.returns-then-pass_page-clause-spares
returns-then-pass_page-clause-spares g c = λ _. ap (λ w. writer.device_of w) (c.pass_page.ensures.passed c.if-pass_page.true).9

-- ---- where it wasn't

pub take_piece-requires-clause-runs : goal.take_piece-requires-clause-runs
take_piece-requires-clause-runs g c =
    let old = c.args.self.now in
    subst (λ (w : Writer _ _). CanRun g.D.Device.past_of (record old { writer = w })) (sym (c.pass_page.ensures.still c.if-pass_page.false)) c.requires.runs

pub take_piece-requires-clause-sound : goal.take_piece-requires-clause-sound
take_piece-requires-clause-sound g c = ap (λ w. writer.has_failed w) (c.pass_page.ensures.still c.if-pass_page.false) ∙ c.requires.sound

pub take_piece-requires-clause-next : goal.take_piece-requires-clause-next
take_piece-requires-clause-next g c =
    ap (λ w. next_place (writer.copying_of w)) (c.pass_page.ensures.still c.if-pass_page.false) ∙ c.requires.next

pub returns-clause-moves : goal.returns-clause-moves
returns-clause-moves g c =
    let old = c.args.self.now in
    subst (λ (w : Writer _ _). MovesOn g.D.Device.past_of (record old { writer = w }) c.take_piece.new.self)
    (c.pass_page.ensures.still c.if-pass_page.false) c.take_piece.ensures.moves

pub returns-clause-answer : goal.returns-clause-answer
returns-clause-answer g c =
    let old = c.args.self.now in
    subst (λ (w : Writer _ _). IsCopyAnswer g.D.Device.failures c.take_piece.result (record old { writer = w }) c.take_piece.new.self)
    (c.pass_page.ensures.still c.if-pass_page.false) c.take_piece.ensures.answer

pub returns-clause-around : goal.returns-clause-around
returns-clause-around g c =
    let old = c.args.self.now in
    subst (λ (w : Writer _ _). CopiesAround g.D.Device.past_of (record old { writer = w }) c.take_piece.new.self)
    (c.pass_page.ensures.still c.if-pass_page.false) c.take_piece.ensures.around

pub returns-clause-spares : goal.returns-clause-spares
returns-clause-spares g c = λ may. absurd (false≢true (sym c.if-pass_page.false ∙ c.pass_page.ensures.when.1 may))

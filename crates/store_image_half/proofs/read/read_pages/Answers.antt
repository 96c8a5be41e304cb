use Rattle.std.proofs.Common.{◌≡◌, inl, ◌+◌, ◌<◌, ◌≤◌, List, length, Err, refl, sym, ap, ◌∙◌, subst, arith}
use Rattle.std.proofs.lemmas.Result.{err_from_is_err_and}
use Rattle.record_values.specs.GeometryValue.{GeometryValue}
use Rattle.record_values.specs.Values.{Place}
use Rattle.record_values.specs.declared.row.Row.{Row}
use Rattle.model.specs.Table.{Table}
use Rattle.model.specs.Cells.{Cells}
use Rattle.model.specs.Extended.{extended, table_of}
use Rattle.sector_device.specs.Disk.{Disk, CrashState}
use Rattle.sector_device.proofs.Within.{reads_none, reads_then}
use Rattle.store_image_half.specs.Layout.{entries_at_in}
use Rattle.store_image_half.specs.Steps.{HoldsPages}
use Rattle.store_image_half.proofs.Growing.{no_pages}
use Rattle.store_image_half.proofs.Refusing.{page_refused, later_than, not_fewer}
use Rattle.store_image_half.proofs.read.read_pages.Goals as goal

pub loop-page-init : goal.loop-page-init
loop-page-init g c =
    let h = g.D.Device.past_of in
    let content = (h c.args.device.now).disk.content in
    record {
      held = subst (λ (rows : List (Place × Row)). HoldsPages c.args.version c.args.geometry c.args.first content 0 (table_of rows))
          (sym c.in_ok-rows.ensures.items) (no_pages c.args.version c.args.geometry c.args.first content);
      reads = reads_none (h c.args.device.now);
      quiet = refl;
    }

pub read_page-requires : goal.read_page-requires
read_page-requires g c =
    let so_far = c.loop-page.invariant in
    record {
      page = subst (λ k. c.loop-page.page < k) (ap (λ (x : GeometryValue). x.pages) c.geometry.view_is) c.loop-page-test.true;
      inside = subst (λ (d : Disk). entries_at_in c.args.version c.args.geometry c.args.first ≤ length d.content) (sym so_far.reads.disk) c.requires.inside;
      number = c.requires.number;
      held = subst (λ (d : Disk). HoldsPages c.args.version c.args.geometry c.args.first d.content c.loop-page.page (table_of c.loop-page.rows.items))
          (sym so_far.reads.disk) so_far.held;
    }

pub loop-page-preserved : goal.loop-page-preserved
loop-page-preserved g c =
    let so_far = c.loop-page.invariant in
    record {
      held = subst (λ (d : Disk). HoldsPages c.args.version c.args.geometry c.args.first d.content (c.loop-page.page + 1) (table_of c.read_page.new.rows.items))
          so_far.reads.disk c.in_ok-read_page.ensures.held;
      reads = reads_then _ _ _ so_far.reads c.read_page.ensures.reads;
      quiet = c.in_ok-read_page.ensures.quiet ∙ so_far.quiet;
    }

pub returns-in_err-rows : goal.returns-in_err-rows
returns-in_err-rows g c =
    let p = err_from_is_err_and c.from_residual.result c.from_residual.ensures.1 in
    rw p.1 (record {
      held = tt;
      rest = tt;
      refused = inl (inl p.2);
      reads = reads_none (g.D.Device.past_of c.args.device.now);
      quiet = tt;
      told = λ _. refl;
      later = omega arith;
    })

pub returns-in_err-read_page : goal.returns-in_err-read_page
returns-in_err-read_page g c =
    let h = g.D.Device.past_of in
    let image : CrashState = (h c.args.device.now).disk.content in
    let so_far = c.loop-page.invariant in
    let below : c.loop-page.page < c.args.geometry.pages =
    subst (λ k. c.loop-page.page < k) (ap (λ (x : GeometryValue). x.pages) c.geometry.view_is) c.loop-page-test.true in
    let p = err_from_is_err_and c.from_residual-in_err-read_page.result c.from_residual-in_err-read_page.ensures.1 in
    rw (p.1 ∙ ap Err p.2) (record {
      held = tt;
      rest = tt;
      refused = page_refused c.args.version c.args.geometry c.args.first image (h c.loop-page.device).disk.content _ _ _ c.in_err-read_page.field-0.0
          (ap (λ (d : Disk). d.content) so_far.reads.disk) so_far.quiet
          c.loop-page.page (table_of c.loop-page.rows.items) below so_far.held c.in_err-read_page.ensures.refused;
      reads = reads_then _ _ _ so_far.reads c.read_page.ensures.reads;
      quiet = tt;
      told = λ other. c.in_err-read_page.ensures.told other ∙ so_far.quiet;
      later = later_than _ _ _ so_far.quiet c.read_page.ensures.later;
    })

pub returns-in_err-set_rows : goal.returns-in_err-set_rows
returns-in_err-set_rows g c =
    let p = err_from_is_err_and c.from_residual-in_err-set_rows.result c.from_residual-in_err-set_rows.ensures.1 in
    rw p.1 (record {
      held = tt;
      rest = tt;
      refused = inl (inl p.2);
      reads = c.loop-page.invariant.reads;
      quiet = tt;
      told = λ _. c.loop-page.invariant.quiet;
      later = not_fewer _ _ c.loop-page.invariant.quiet;
    })

pub returns : goal.returns
returns g c =
    let content = (g.D.Device.past_of c.args.device.now).disk.content in
    let new : Cells = g.S.CellSink.cells c.set_rows.new.self in
    let pages : c.geometry.inside.pages ≡ c.args.geometry.pages = ap (λ (x : GeometryValue). x.pages) c.geometry.view_is in
    let all : c.loop-page.page ≡ c.args.geometry.pages = omega (arith, c.loop-page-test.false, c.loop-page.auto.page-end, pages) in
    let set = c.in_ok-set_rows.ensures in
    let rows : new.rows ≡ table_of c.loop-page.rows.items = ap (λ (x : Cells). x.rows) set
    ∙ (λ i. extended (c.requires.empty i) (c.deref.ensures.value i)) in
    record {
      held = subst (λ n. HoldsPages c.args.version c.args.geometry c.args.first content n new.rows) all
          (subst (λ (m : Table). HoldsPages c.args.version c.args.geometry c.args.first content c.loop-page.page m) (sym rows) c.loop-page.invariant.held);
      rest = set
          ∙ ap (λ (m : Table). let x : Cells = record (g.S.CellSink.cells c.args.sink.now) { rows = m } in x) (sym (ap (λ (x : Cells). x.rows) set));
      refused = tt;
      reads = c.loop-page.invariant.reads;
      quiet = c.loop-page.invariant.quiet;
      told = tt;
      later = not_fewer _ _ c.loop-page.invariant.quiet;
    }

use Rattle.std.proofs.Common.{◌≡◌, inl, ◌+◌, ◌≤◌, List, [], length, take, Err, refl, sym, ap, ◌∙◌, subst, arith}
use Rattle.std.specs.FinMap.{insert}
use Rattle.std.proofs.lemmas.List.{take_all}
use Rattle.std.proofs.lemmas.Option.{slice_get_read}
use Rattle.std.proofs.lemmas.Result.{err_from_is_err_and}
use Rattle.records.specs.ChangeValue.{ChangeValue}
use Rattle.model.specs.Cells.{Cells, Pending}
use Rattle.sector_device.specs.Disk.{Disk, CrashState, sector}
use Rattle.sector_device.proofs.Within.{reads_none, reads_then}
use Rattle.store_image_parts.specs.declared.head.Head.{Head}
use Rattle.store_image_half.specs.Layout.{heads_at, page_at_in}
use Rattle.store_image_half.specs.Image.{HoldsListIn}
use Rattle.store_image_half.specs.Steps.{HoldsLists}
use Rattle.store_image_half.proofs.Growing.{no_lists, lists_more}
use Rattle.store_image_half.proofs.Refusing.{list_refused, only_lists, later_than, not_fewer}
use Rattle.store_image_half.proofs.read.read_lists.Goals as goal

pub loop-h-init : goal.loop-h-init
loop-h-init g c =
    let h = g.D.Device.past_of in
    let content = (h c.args.device.now).disk.content in
    record {
      held = subst (λ (p : Pending). HoldsLists c.args.version c.args.geometry c.args.first content [] p) (sym c.requires.empty)
          (no_lists c.args.version c.args.geometry c.args.first content);
      rest = refl;
      reads = reads_none (h c.args.device.now);
      quiet = refl;
    }

pub read_list-requires : goal.read_list-requires
read_list-requires g c =
    let heads = c.args.heads.now in
    record {
      head = omega (arith, c.loop-h-test.true, c.requires.heads.count);
      count = (c.requires.heads.fits c.loop-h.h c.index-heads-h.result
          (slice_get_read heads (length heads) c.loop-h.h c.index-heads-h.result refl c.loop-h-test.true c.index-heads-h.is)).changes;
      inside = subst (λ (d : Disk). page_at_in c.args.version c.args.first 0 ≤ length d.content) (sym c.loop-h.invariant.reads.disk) c.requires.inside;
      number = c.requires.number;
    }

pub returns-in_err-changes : goal.returns-in_err-changes
returns-in_err-changes g c =
    let h = g.D.Device.past_of in
    let image : CrashState = (h c.args.device.now).disk.content in
    let heads = c.args.heads.now in
    let so_far = c.loop-h.invariant in
    let at = slice_get_read heads (length heads) c.loop-h.h c.index-heads-h.result refl c.loop-h-test.true c.index-heads-h.is in
    let p = err_from_is_err_and c.from_residual.result c.from_residual.ensures.1 in
    rw (p.1 ∙ ap Err p.2) (record {
      held = tt;
      rest = tt;
      refused = list_refused c.args.version c.args.geometry c.args.first image (h c.loop-h.device).disk.content _ _ _ c.in_err-changes.field-0.0
          (ap (λ (d : Disk). d.content) so_far.reads.disk) so_far.quiet
          heads (g.S.CellSink.cells c.loop-h.sink).pending c.loop-h.h c.index-heads-h.result at so_far.held c.in_err-changes.ensures.refused;
      reads = reads_then _ _ _ so_far.reads c.read_list.ensures.reads;
      quiet = tt;
      told = λ other. c.in_err-changes.ensures.told other ∙ so_far.quiet;
      later = later_than _ _ _ so_far.quiet c.read_list.ensures.later;
    })

pub returns-in_err-set_list : goal.returns-in_err-set_list
returns-in_err-set_list g c =
    let quiet = c.in_ok-changes.ensures.quiet ∙ c.loop-h.invariant.quiet in
    let p = err_from_is_err_and c.from_residual-in_err-set_list.result c.from_residual-in_err-set_list.ensures.1 in
    rw p.1 (record {
      held = tt;
      rest = tt;
      refused = inl (inl p.2);
      reads = reads_then _ _ _ c.loop-h.invariant.reads c.read_list.ensures.reads;
      quiet = tt;
      told = λ _. quiet;
      later = not_fewer _ _ quiet;
    })

pub loop-h-preserved : goal.loop-h-preserved
loop-h-preserved g c =
    let h = g.D.Device.past_of in
    let image : CrashState = (h c.args.device.now).disk.content in
    let start : Cells = g.S.CellSink.cells c.args.sink.now in
    let old : Cells = g.S.CellSink.cells c.loop-h.sink in
    let new : Cells = g.S.CellSink.cells c.set_list.new.self in
    let heads = c.args.heads.now in
    let head = c.index-heads-h.result in
    let n = c.loop-h.h in
    let at = slice_get_read heads (length heads) n head refl c.loop-h-test.true c.index-heads-h.is in
    let list : List ChangeValue = c.in_ok-changes.changes.items in
    let is = subst (λ (x : CrashState). HoldsListIn c.args.version c.args.geometry c.args.first x n list)
    (ap (λ (d : Disk). d.content) c.loop-h.invariant.reads.disk) c.in_ok-changes.ensures.held in
    let pending : new.pending ≡ insert old.pending head.txn list = ap (λ (x : Cells). x.pending) c.in_ok-set_list.ensures
    ∙ ap (λ (l : List ChangeValue). insert old.pending head.txn l) c.deref.ensures.value in
    record {
      held = subst (λ (p : Pending). HoldsLists c.args.version c.args.geometry c.args.first image (take (n + 1) heads) p) (sym pending)
          (lists_more c.args.version c.args.geometry c.args.first image
          (sector image (heads_at c.args.first)) heads c.requires.heads old.pending n head at c.loop-h.invariant.held list c.in_ok-changes.ensures.count
          is);
      rest = only_lists start old new _ c.in_ok-set_list.ensures c.loop-h.invariant.rest;
      reads = reads_then _ _ _ c.loop-h.invariant.reads c.read_list.ensures.reads;
      quiet = c.in_ok-changes.ensures.quiet ∙ c.loop-h.invariant.quiet;
    }

pub returns : goal.returns
returns g c =
    let so_far = c.loop-h.invariant in
    let heads : List Head = c.args.heads.now in
    let content = (g.D.Device.past_of c.args.device.now).disk.content in
    let now : Cells = g.S.CellSink.cells c.loop-h.sink in
    record {
      held = subst (λ (l : List Head). HoldsLists c.args.version c.args.geometry c.args.first content l now.pending)
          (take_all c.loop-h.h heads c.loop-h-test.false) so_far.held;
      rest = so_far.rest;
      refused = tt;
      reads = so_far.reads;
      quiet = so_far.quiet;
      told = tt;
      later = not_fewer _ _ so_far.quiet;
    }

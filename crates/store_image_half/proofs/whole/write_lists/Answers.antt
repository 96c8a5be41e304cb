use Rattle.std.proofs.Common.{◌≡◌, ⊎_elim, ℕ, List, length, Some, None, Err, refl, sym, ap, ◌∙◌, subst, arith}
use Rattle.std.specs.Prelude.{slice_get}
use Rattle.std.specs.Option.{option_map}
use Rattle.std.specs.FinMap.{entries}
use Rattle.std.proofs.lemmas.Bool.{cases_eq}
use Rattle.std.proofs.lemmas.Option.{same_Some, slice_get_within}
use Rattle.std.proofs.lemmas.Result.{err_from_is_err_and}
use Rattle.records.specs.ChangeValue.{ChangeValue}
use Rattle.sector_device.proofs.Counts.{counts_later}
use Rattle.store_image_half.specs.Layout.{InList}
use Rattle.store_image_half.specs.Image.{HoldsList, InLists}
use Rattle.store_image_half.proofs.Joined.{counts_none, writes_none, writes_then}
use Rattle.store_image_half.proofs.Kept.{list_kept}
use Rattle.store_image_half.proofs.Walk.{reached_next, before_end}
use Rattle.store_image_half.proofs.Writing.{change_at, list_short, list_placed}
use Rattle.store_image_half.proofs.whole.write_lists.Goals as goal

pub loop-h-init : goal.loop-h-init
loop-h-init g c = record {
  reached = λ next is. is;
  written = λ k list less at_k. absurd (omega (arith, less));
  part = writes_none (InLists c.args.first (g.S.CellSource.cells c.args.source.now)) (g.D.Device.past_of c.args.device.now);
  failures = refl;
}

pub returns-in_default : goal.returns-in_default
returns-in_default g c =
    let lists = entries (g.S.CellSource.cells c.args.source.now).pending in
    let so_far = c.loop-h.invariant in
    record {
      written = λ h list at_h.
          let none : slice_get lists c.loop-h.h ≡ None = sym (so_far.reached _ c.list_behind.ensures)
          ∙ ap (option_map (λ l. (l.0, l.1.now))) c.in_default.is in
          so_far.written h list (before_end lists c.loop-h.h h list none at_h) at_h;
      part = so_far.part;
      counts = counts_none _ _ _ so_far.failures;
    }

pub write_list-requires : goal.write_list-requires
write_list-requires g c =
    let cells = g.S.CellSource.cells c.args.source.now in
    let there : slice_get (entries cells.pending) c.loop-h.h ≡ Some (c.in-Some.list.0, c.in-Some.list.1.now) =
    sym (c.loop-h.invariant.reached _ c.list_behind.ensures) ∙ ap (option_map (λ l. (l.0, l.1.now))) c.in-Some.is in
    let at = λ (p : ℕ) (d : ChangeValue) (at_p : slice_get c.in-Some.list.1.now p ≡ Some d).
    change_at c.args.geometry.pages 0 p _ d (list_placed c.args.geometry cells c.requires.fits c.loop-h.h _ there) at_p in
    record {
      head = omega (arith, c.loop-h-test.true);
      count = list_short c.args.geometry cells c.requires.fits c.loop-h.h _ there;
      positions = λ p d at_p. omega (arith, (at p d at_p).0);
      pages = λ p d at_p. (at p d at_p).1;
      inside = omega (arith, c.requires.inside, c.loop-h.invariant.part.outside.sectors);
      number = c.requires.number;
    }

pub returns-in_err-write_list : goal.returns-in_err-write_list
returns-in_err-write_list g c =
    let hist = g.D.Device.past_of in
    let cells = g.S.CellSource.cells c.args.source.now in
    let first = c.args.first in
    let list : ℕ × List ChangeValue = (c.in-Some.list.0, c.in-Some.list.1.now) in
    let there : slice_get (entries cells.pending) c.loop-h.h ≡ Some list = sym (c.loop-h.invariant.reached _ c.list_behind.ensures)
    ∙ ap (option_map (λ l. (l.0, l.1.now))) c.in-Some.is in
    let p = err_from_is_err_and c.from_residual.result c.from_residual.ensures.1 in
    rw (p.1 ∙ ap Err p.2) (record {
      written = tt;
      part = writes_then (InLists first cells) (InList first c.loop-h.h (length list.1)) (hist c.args.device.now) (hist c.loop-h.device)
          (hist c.write_list.new.device) (λ n is. (c.loop-h.h, list, there, is)) c.loop-h.invariant.part
          (record { outside = c.write_list.ensures.outside; within = c.write_list.ensures.within });
      counts = counts_later _ _ _ _ c.loop-h.invariant.failures c.in_err-write_list.ensures.counts;
    })

pub loop-h-preserved : goal.loop-h-preserved
loop-h-preserved g c =
    let hist = g.D.Device.past_of in
    let cells = g.S.CellSource.cells c.args.source.now in
    let lists = entries cells.pending in
    let first = c.args.first in
    let h = c.loop-h.h in
    let list : ℕ × List ChangeValue = (c.in-Some.list.0, c.in-Some.list.1.now) in
    let found : option_map (λ l. (l.0, l.1.now)) c.list_behind.result ≡ Some list = ap (option_map (λ l. (l.0, l.1.now))) c.in-Some.is in
    let there : slice_get lists h ≡ Some list = sym (c.loop-h.invariant.reached _ c.list_behind.ensures) ∙ found in
    record {
      reached = reached_next lists h c.loop-h.last _ list.0 list.1 c.loop-h.invariant.reached c.list_behind.ensures found;
      written = λ k l less at_k. ⊎_elim
          (λ (same : k ≡ h).
          let this : list ≡ l = same_Some list l (sym there ∙ subst (λ n. slice_get lists n ≡ Some l) same at_k) in
          subst (λ n. HoldsList c.args.geometry first (hist c.write_list.new.device).disk.content n l.1) (sym same)
          (subst (λ (x : ℕ × List ChangeValue). HoldsList c.args.geometry first (hist c.write_list.new.device).disk.content h x.1) this
          c.in_ok-write_list.ensures.written))
          (λ other. list_kept (InList first h (length list.1)) _ _ c.write_list.ensures.outside c.args.geometry first k l.1 (λ p low is.
          omega (arith, is.0, less, other, low))
          (list_short c.args.geometry cells c.requires.fits k l at_k) (c.loop-h.invariant.written k l (omega (arith, less, other)) at_k))
          (cases_eq k h);
      part = writes_then (InLists first cells) (InList first h (length list.1)) (hist c.args.device.now) (hist c.loop-h.device) (hist c.write_list.new.device)
          (λ n is. (h, list, there, is)) c.loop-h.invariant.part (record { outside = c.write_list.ensures.outside; within = c.write_list.ensures.within });
      failures = c.in_ok-write_list.ensures.counts.none ∙ c.loop-h.invariant.failures;
    }

pub returns : goal.returns
returns g c =
    let so_far = c.loop-h.invariant in
    record {
      written = λ h list at_h. so_far.written h list (omega (arith, slice_get_within _ h list at_h, c.requires.fits.txns, c.loop-h-test.false)) at_h;
      part = so_far.part;
      counts = counts_none _ _ _ so_far.failures;
    }

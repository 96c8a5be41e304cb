use Rattle.std.proofs.Common.{◌≡◌, ⊎_elim, inl, ℕ, ◌+◌, ◌*◌, ◌/◌, ◌%◌, ◌<◌, List, Some, length, Err, refl, sym, ap, ◌∙◌, subst, arith}
use Rattle.std.specs.Prelude.{slice_get}
use Rattle.std.proofs.lemmas.Bool.{cases_eq}
use Rattle.std.proofs.lemmas.Option.{slice_get_within, slice_get_read, same_Some}
use Rattle.std.proofs.lemmas.Result.{err_from_is_err_and}
use Rattle.sector_device.specs.Disk.{Disk, sector, after_write}
use Rattle.sector_device.proofs.Sectors.{sector_written, sector_other, content_after}
use Rattle.sector_device.proofs.Within.{within_write}
use Rattle.records.specs.ChangeValue.{ChangeValue}
use Rattle.sector_device.proofs.Counts.{counts_later}
use Rattle.store_image_half.specs.Layout.{cut, undo_at, InList}
use Rattle.store_image_half.specs.Image.{IsItem, item_bytes, item_of}
use Rattle.store_image_half.proofs.Cut.{cut_whole}
use Rattle.store_image_half.proofs.Joined.{counts_none, writes_none}
use Rattle.store_image_half.proofs.write.write_list.Goals as goal

pub loop-position-init : goal.loop-position-init
loop-position-init g c =
    let none = writes_none (InList c.args.first c.args.h (length c.args.changes.now)) (g.D.Device.past_of c.args.device.now) in
    record {
      placed = λ p d less at_p. absurd (omega (arith, less));
      outside = none.outside;
      within = none.within;
      failures = refl;
    }

pub overflow_add-at-in-loop-position : goal.overflow_add-at-in-loop-position
overflow_add-at-in-loop-position g c = omega (arith, c.loop-position-test.true, c.requires.count, c.requires.head, c.requires.number)

pub write-requires : goal.write-requires
write-requires g c = omega (
  arith,
  c.loop-position-test.true,
  c.requires.count,
  c.requires.head,
  c.requires.inside,
  c.loop-position.invariant.outside.sectors,
)

pub returns-in_err-write : goal.returns-in_err-write
returns-in_err-write g c =
    let at = undo_at c.args.first + 64 * c.args.h + c.loop-position.position in
    let inside : InList c.args.first c.args.h (length c.args.changes.now) at = (omega arith, omega (arith, c.loop-position-test.true)) in
    let so_far = c.loop-position.invariant in
    let p = err_from_is_err_and c.from_residual.result c.from_residual.ensures.1 in
    rw (p.1 ∙ ap Err p.2) (record {
      written = tt;
      outside = content_after _ _ (g.D.Device.past_of c.loop-position.device).disk at _ _ c.write.result c.write.ensures.ok c.write.ensures.err inside
          so_far.outside;
      within = within_write _ _ _ _ _ so_far.within c.write.ensures.time at _ c.write.result (inl inside) c.write.ensures.ok c.write.ensures.err;
      counts = counts_later _ _ _ _ so_far.failures c.in_err-write.ensures.counts;
    })

pub loop-position-preserved : goal.loop-position-preserved
loop-position-preserved g c =
    let hist = g.D.Device.past_of in
    let mid : Disk = (hist c.loop-position.device).disk in
    let new : Disk = (hist c.write.new.self).disk in
    let k = c.loop-position.position in
    let h = c.args.h in
    let changes : List ChangeValue = c.args.changes.now in
    let start = undo_at c.args.first in
    let at = start + 64 * h + k in
    let bytes : List ℕ = c.spell_item-bytes.result in
    let inside : InList c.args.first h (length changes) at = (omega arith, omega (arith, c.loop-position-test.true)) in
    let so_far = c.loop-position.invariant in
    let ok : new ≡ after_write mid at bytes = c.in_ok-write.ensures.ok in
    let room : at < length mid.content = omega (arith, inside.1, c.requires.inside, c.requires.count, c.requires.head, so_far.outside.sectors) in
    let change : ChangeValue = c.index-changes-position.result in
    let here : slice_get changes k ≡ Some change = slice_get_read changes
    (length changes) k change refl c.loop-position-test.true c.index-changes-position.is in
    record {
      placed = λ p d less at_p.
          let n = start + (64 * h + p) / 1 in
          ⊎_elim
          (λ (same : p ≡ k).
          let which : n ≡ at = omega (arith, same) in
          let there : sector new.content n ≡ bytes = ap (λ m. sector new.content m) which ∙ ap (λ (e : Disk). sector e.content at) ok
          ∙ sector_written mid at bytes room in
          let whole : item_bytes new.content c.args.first h p ≡ bytes = ap (λ (b : List ℕ). cut b 512 ((64 * h + p) % 1)) there
          ∙ cut_whole bytes 512 ((64 * h + p) % 1) (omega arith) (omega arith) in
          let this : change ≡ d = same_Some change d (sym here ∙ subst (λ m. slice_get changes m ≡ Some d) same at_p) in
          subst (λ (e : ChangeValue). IsItem c.args.geometry (item_bytes new.content c.args.first h p) (item_of e)) (c.change.view_is ∙ this)
          (record {
            spelled = whole ∙ c.spell_item-bytes.ensures.spelled;
            fits = c.spell_item-bytes.ensures.fits;
            inside = subst (λ (e : ChangeValue). e.rid.page < c.args.geometry.pages) (sym c.change.view_is) (c.requires.pages k change here);
          }))
          (λ other.
          let same : sector new.content n ≡ sector mid.content n = ap (λ (e : Disk). sector e.content n) ok
          ∙ sector_other mid at n bytes (omega (arith, other)) in
          subst (λ (b : List ℕ). IsItem c.args.geometry (cut b 512 ((64 * h + p) % 1)) (item_of d)) (sym same)
          (so_far.placed p d (omega (arith, less, other)) at_p))
          (cases_eq p k);
      outside = content_after _ _ mid at _ _ c.write.result c.write.ensures.ok c.write.ensures.err inside so_far.outside;
      within = within_write _ _ _ _ _ so_far.within c.write.ensures.time at _ c.write.result (inl inside) c.write.ensures.ok c.write.ensures.err;
      failures = c.in_ok-write.ensures.counts.none ∙ so_far.failures;
    }

pub returns : goal.returns
returns g c =
    let so_far = c.loop-position.invariant in
    record {
      written = record {
        positions = c.requires.positions;
        items = λ p e at_p. so_far.placed p e (omega (arith, slice_get_within c.args.changes.now p e at_p, c.loop-position-test.false)) at_p;
      };
      outside = so_far.outside;
      within = so_far.within;
      counts = counts_none _ _ _ so_far.failures;
    }

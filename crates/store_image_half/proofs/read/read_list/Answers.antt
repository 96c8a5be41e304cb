use Rattle.std.proofs.Common.{◌≡◌, inl, inr, ℕ, ◌+◌, ◌*◌, ◌/◌, ◌%◌, ◌<◌, ◌≤◌, List, [], ◌∷◌, ◌++◌, length, Err, refl, sym, ap, ◌∙◌, subst, arith, length-append}
use Rattle.std.proofs.lemmas.Option.{none-some}
use Rattle.std.proofs.lemmas.Result.{err_from_is_err_and}
use Rattle.record_values.specs.declared.error.Error.TheVariants.{Damaged}
use Rattle.records.specs.ChangeValue.{ChangeValue}
use Rattle.sector_device.specs.Disk.{Disk, sector}
use Rattle.sector_device.proofs.Within.{reads_none, reads_then}
use Rattle.store_image_parts.specs.Spelling.{item_size}
use Rattle.store_image_half.specs.Layout.{undo_at, items_per_sector, sector_of_piece}
use Rattle.store_image_half.specs.Image.{IsItemIn, HoldsListIn, item_of}
use Rattle.store_image_half.proofs.Growing.{no_list, list_more}
use Rattle.store_image_half.proofs.Sound.{at_index}
use Rattle.store_image_half.proofs.Bytes.{cut_at, still_held}
use Rattle.store_image_half.proofs.Places.{first_begins, same_item_sector}
use Rattle.store_image_half.proofs.Refusing.{later_than, not_fewer, refuses_later}
use Rattle.store_image_half.proofs.read.read_list.Goals as goal

pub returns-in_err-changes : goal.returns-in_err-changes
returns-in_err-changes g c =
    let p = err_from_is_err_and c.from_residual.result c.from_residual.ensures.1 in
    rw p.1 (record {
      count = tt;
      held = tt;
      refused = inl (inl p.2);
      reads = reads_none _;
      quiet = tt;
      told = λ _. refl;
      later = not_fewer _ _ refl;
    })

pub loop-position-init : goal.loop-position-init
loop-position-init g c =
    let h = g.D.Device.past_of in
    let content = (h c.args.device.now).disk.content in
    record {
      held = subst (λ (changes : List ChangeValue). HoldsListIn c.args.version c.args.geometry c.args.first content c.args.h changes)
          (sym c.in_ok-changes.ensures.items) (no_list c.args.version c.args.geometry c.args.first content c.args.h);
      count = ap length c.in_ok-changes.ensures.items;
      buffered = λ within. absurd (first_begins c.args.version c.args.h within);
      reads = reads_none (h c.args.device.now);
      quiet = refl;
    }

pub item_place-place-requires : goal.item_place-place-requires
item_place-place-requires g c = record {
  head = c.requires.head;
  position = omega (arith, c.loop-position-test.true, c.requires.count);
  number = c.requires.number;
}

pub load-requires-clause-inside : goal.load-requires-clause-inside
load-requires-clause-inside g c = omega (
  arith,
  c.item_place-place.ensures.inside,
  c.requires.inside,
  ap (λ (d : Disk). length d.content) c.loop-position.invariant.reads.disk,
)

pub load-requires-clause-held : goal.load-requires-clause-held
load-requires-clause-held g c = λ within.
    let place = c.item_place-place in
    let old = (g.D.Device.past_of c.args.device.now).disk in
    c.loop-position.invariant.buffered (subst (λ n. 0 < n) place.ensures.index within)
    ∙ ap (sector old.content) (sym place.ensures.sector) ∙ ap (λ (d : Disk). sector d.content place.result.sector) (sym c.loop-position.invariant.reads.disk)

pub piece_in-bytes-requires : goal.piece_in-bytes-requires
piece_in-bytes-requires g c = subst (λ n. n * c.item_place-place.result.index + n ≤ 512) (sym c.item_size.ensures) c.item_place-place.ensures.room

pub returns-in_err-load : goal.returns-in_err-load
returns-in_err-load g c =
    let so_far = c.loop-position.invariant in
    let p = err_from_is_err_and c.from_residual-in_err-load.result c.from_residual-in_err-load.ensures.1 in
    rw (p.1 ∙ ap Err p.2) (record {
      count = tt;
      held = tt;
      refused = inl (refuses_later _ _ _ _ so_far.quiet c.in_err-load.ensures.refused);
      reads = reads_then _ _ _ so_far.reads c.load.ensures.reads;
      quiet = tt;
      told = λ other. c.in_err-load.ensures.told other ∙ so_far.quiet;
      later = later_than _ _ _ so_far.quiet c.load.ensures.later;
    })

pub returns-in_default : goal.returns-in_default
returns-in_default g c =
    let h = g.D.Device.past_of in
    let v = c.args.version in
    let old = (h c.args.device.now).disk in
    let p = c.loop-position.position in
    let i = 64 * c.args.h + p in
    let place = c.item_place-place in
    let bytes = cut_at old (h c.loop-position.device).disk c.piece_in-bytes.result.now c.load.new.buffer c.item_size.result
    (item_size c.args.version) place.result.sector place.result.index (sector_of_piece (undo_at c.args.first) (items_per_sector v) i)
    (i % items_per_sector v)
    c.loop-position.invariant.reads.disk c.piece_in-bytes.ensures.piece c.in_ok-load.ensures.loaded c.item_size.ensures place.ensures.sector place.ensures.index
    in
    let so_far = c.loop-position.invariant in
    let quiet = c.in_ok-load.ensures.quiet ∙ so_far.quiet in
    record {
      count = tt;
      held = tt;
      refused = inr (
        p,
        c.loop-position-test.true,
        ap (λ n. Damaged n) place.ensures.sector,
        (λ sound. none-some sound.0 (c.in_default.ensures.again sound.0 (subst (λ (b : List ℕ). IsItemIn v c.args.geometry b sound.0) (sym bytes) sound.1))),
        (λ q less. let found = at_index c.loop-position.changes.items q (omega (arith, so_far.count, less)) in
            (item_of found.0, so_far.held.items q found.0 found.1)),
      );
      reads = reads_then _ _ _ so_far.reads c.load.ensures.reads;
      quiet = tt;
      told = λ _. quiet;
      later = not_fewer _ _ quiet;
    }

pub returns-in_err-push : goal.returns-in_err-push
returns-in_err-push g c =
    let quiet = c.in_ok-load.ensures.quiet ∙ c.loop-position.invariant.quiet in
    let p = err_from_is_err_and c.from_residual-in_err-push.result c.from_residual-in_err-push.ensures.1 in
    rw p.1 (record {
      count = tt;
      held = tt;
      refused = inl (inl p.2);
      reads = reads_then _ _ _ c.loop-position.invariant.reads c.load.ensures.reads;
      quiet = tt;
      told = λ _. quiet;
      later = not_fewer _ _ quiet;
    })

pub loop-position-preserved : goal.loop-position-preserved
loop-position-preserved g c =
    let h = g.D.Device.past_of in
    let v = c.args.version in
    let old = (h c.args.device.now).disk in
    let p = c.loop-position.position in
    let first = c.args.first in
    let i = 64 * c.args.h + p in
    let per = items_per_sector v in
    let place = c.item_place-place in
    let bytes = cut_at old (h c.loop-position.device).disk c.piece_in-bytes.result.now c.load.new.buffer c.item_size.result
    (item_size c.args.version) place.result.sector place.result.index (sector_of_piece (undo_at first) per i) (i % per)
    c.loop-position.invariant.reads.disk c.piece_in-bytes.ensures.piece c.in_ok-load.ensures.loaded c.item_size.ensures place.ensures.sector place.ensures.index
    in
    let before = c.loop-position.changes.items in
    let change : ChangeValue = record { position = p; rid = c.in-Some.item.rid; rows = c.in-Some.item.rows } in
    let items : c.push.new.self.items ≡ before ++ change ∷ [] = c.in_ok-push.ensures.items in
    let is = subst (λ (b : List ℕ). IsItemIn v c.args.geometry b c.in-Some.item) bytes c.in-Some.ensures.found in
    let next : i + 1 ≡ 64 * c.args.h + (p + 1) = omega arith in
    record {
      held = subst (HoldsListIn v c.args.geometry first old.content c.args.h) (sym items)
          (list_more v c.args.geometry first old.content c.args.h p before change c.loop-position.invariant.held c.loop-position.invariant.count refl is);
      count = ap length items ∙ length-append {A = ChangeValue} before (change ∷ []) ∙ ap (λ k. k + 1) c.loop-position.invariant.count;
      buffered = λ within. still_held old (h c.loop-position.device).disk c.load.new.buffer place.result.sector
          (sector_of_piece (undo_at first) per (64 * c.args.h + (p + 1))) c.loop-position.invariant.reads.disk c.in_ok-load.ensures.loaded
          (place.ensures.sector ∙ ap (λ n. undo_at first + n) (same_item_sector v i (subst (λ n. 0 < n % per) (sym next) within))
          ∙ ap (λ n. undo_at first + n / per) next);
      reads = reads_then _ _ _ c.loop-position.invariant.reads c.load.ensures.reads;
      quiet = c.in_ok-load.ensures.quiet ∙ c.loop-position.invariant.quiet;
    }

pub returns : goal.returns
returns g c =
    let so_far = c.loop-position.invariant in
    let all : c.loop-position.position ≡ c.args.count = omega (arith, c.loop-position-test.false, c.loop-position.auto.position-end) in
    record {
      count = so_far.count ∙ all;
      held = so_far.held;
      refused = tt;
      reads = so_far.reads;
      quiet = so_far.quiet;
      told = tt;
      later = not_fewer _ _ so_far.quiet;
    }

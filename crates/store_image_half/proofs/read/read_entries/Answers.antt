use Rattle.std.proofs.Common.{◌≡◌, inl, inr, ℕ, ◌+◌, ◌*◌, ◌%◌, ◌<◌, ◌≤◌, List, length, Some, Err, refl, sym, ap, ◌∙◌, subst, arith}
use Rattle.std.specs.FinMap.{insert, empty}
use Rattle.std.proofs.lemmas.Bool.{iff_false}
use Rattle.std.proofs.lemmas.Result.{err_from_is_err_and}
use Rattle.std.specs.declared.cmp.Ordering.TheVariants.{Less}
use Rattle.std.proofs.lemmas.Option.{none-some, same_Some}
use Rattle.record_values.specs.Orders.{pair_cmp}
use Rattle.record_values.specs.declared.pair.Pair.{Pair}
use Rattle.record_values.specs.declared.pair.Mark.{Mark}
use Rattle.record_values.specs.declared.error.Error.TheVariants.{Damaged}
use Rattle.record_values.specs.Entries.{Index}
use Rattle.model.specs.Cells.{Cells}
use Rattle.model.specs.Extended.{extended, index_of}
use Rattle.model.proofs.ExtendedLaws.{extended_more}
use Rattle.sector_device.specs.Disk.{Disk, sector}
use Rattle.sector_device.proofs.Within.{reads_none, reads_then}
use Rattle.record_values.specs.Version.{entries_per_sector}
use Rattle.store_image_parts.specs.Spelling.{entry_size}
use Rattle.store_image_half.specs.Layout.{entries_at_in, sector_of_piece}
use Rattle.store_image_half.specs.Image.{IsEntryIn}
use Rattle.store_image_half.specs.Steps.{HoldsEntries, IsLastPair}
use Rattle.store_image_half.proofs.Growing.{no_entry, entries_more, last_more}
use Rattle.store_image_half.proofs.Sound.{entries_sound}
use Rattle.store_image_half.proofs.Refusing.{later_than, not_fewer, refuses_later}
use Rattle.store_image_half.proofs.Bytes.{cut_at, still_held}
use Rattle.store_image_half.proofs.Places.{same_entry_sector}
use Rattle.store_image_half.proofs.read.read_entries.Goals as goal

pub loop-n-init : goal.loop-n-init
loop-n-init g c =
    let h = g.D.Device.past_of in
    let content = (h c.args.device.now).disk.content in
    record {
      held = subst (λ (es : List (Pair × Mark)). HoldsEntries c.args.version c.args.geometry c.args.first content 0 (index_of es))
          (sym c.in_ok-entries.ensures.items) (no_entry c.args.version c.args.geometry c.args.first content);
      last = refl;
      buffered = λ none. absurd (omega (arith, none));
      reads = reads_none (h c.args.device.now);
      quiet = refl;
    }

pub entry_place-place-requires-clause-entry : goal.entry_place-place-requires-clause-entry
entry_place-place-requires-clause-entry g c = omega (arith, c.loop-n-test.true, c.requires.count)

pub load-requires-clause-inside : goal.load-requires-clause-inside
load-requires-clause-inside g c = omega (
  arith,
  c.entry_place-place.ensures.inside,
  c.requires.inside,
  ap (λ (d : Disk). length d.content) c.loop-n.invariant.reads.disk,
)

pub load-requires-clause-held : goal.load-requires-clause-held
load-requires-clause-held g c = λ within.
    let place = c.entry_place-place in
    let old = (g.D.Device.past_of c.args.device.now).disk in
    c.loop-n.invariant.buffered (subst (λ n. 0 < n) place.ensures.index within)
    ∙ ap (sector old.content) (sym place.ensures.sector) ∙ ap (λ (d : Disk). sector d.content place.result.sector) (sym c.loop-n.invariant.reads.disk)

pub piece_in-bytes-requires : goal.piece_in-bytes-requires
piece_in-bytes-requires g c = subst (λ n. n * c.entry_place-place.result.index + n ≤ 512) (sym c.entry_size.ensures) c.entry_place-place.ensures.room

pub loop-n-preserved : goal.loop-n-preserved
loop-n-preserved g c =
    let h = g.D.Device.past_of in
    let old = (h c.args.device.now).disk in
    let n = c.loop-n.n in
    let v = c.args.version in
    let per = entries_per_sector v in
    let place = c.entry_place-place in
    let bytes = cut_at old (h c.loop-n.device).disk c.piece_in-bytes.result.now c.load.new.buffer c.entry_size.result
    (entry_size c.args.version) place.result.sector place.result.index (sector_of_piece (entries_at_in v c.args.geometry c.args.first) per n) (n % per)
    c.loop-n.invariant.reads.disk c.piece_in-bytes.ensures.piece c.in_ok-load.ensures.loaded c.entry_size.ensures place.ensures.sector place.ensures.index in
    let m : Index = index_of c.loop-n.entries.items in
    let pair = c.in-Some.pair in
    let mark = c.in-Some.mark in
    let above = c.is_above.ensures.0 c.if-not-is_above.false in
    let is = subst (λ (b : List ℕ). IsEntryIn c.args.version c.args.geometry b (pair, mark)) bytes c.in-Some.ensures.found in
    let entries : index_of c.push.new.self.items ≡ insert m pair mark = ap index_of c.in_ok-push.ensures.items
    ∙ extended_more (empty {R = pair_cmp}) c.loop-n.entries.items pair mark in
    let held = c.loop-n.invariant.held in
    let last = c.loop-n.invariant.last in
    record {
      held = subst (λ (x : Index). HoldsEntries c.args.version c.args.geometry c.args.first old.content (n + 1) x) (sym entries)
          (entries_more c.args.version c.args.geometry c.args.first old.content n m c.loop-n.last pair mark held last above is);
      last = subst (λ (x : Index). IsLastPair x (n + 1) (Some pair)) (sym entries)
          (last_more c.args.version c.args.geometry c.args.first old.content n m c.loop-n.last pair mark held last above);
      buffered = λ within. still_held old (h c.loop-n.device).disk c.load.new.buffer place.result.sector
          (sector_of_piece (entries_at_in v c.args.geometry c.args.first) per (n + 1)) c.loop-n.invariant.reads.disk c.in_ok-load.ensures.loaded
          (place.ensures.sector ∙ ap (λ k. entries_at_in v c.args.geometry c.args.first + k) (same_entry_sector v n within));
      reads = reads_then _ _ _ c.loop-n.invariant.reads c.load.ensures.reads;
      quiet = c.in_ok-load.ensures.quiet ∙ c.loop-n.invariant.quiet;
    }

pub returns-in_err-entries : goal.returns-in_err-entries
returns-in_err-entries g c =
    let p = err_from_is_err_and c.from_residual.result c.from_residual.ensures.1 in
    rw p.1 (record {
      held = tt;
      rest = tt;
      refused = inl (inl p.2);
      reads = reads_none _;
      quiet = tt;
      told = λ _. refl;
      later = not_fewer _ _ refl;
    })

pub returns-in_err-load : goal.returns-in_err-load
returns-in_err-load g c =
    let p = err_from_is_err_and c.from_residual-in_err-load.result c.from_residual-in_err-load.ensures.1 in
    rw (p.1 ∙ ap Err p.2) (record {
      held = tt;
      rest = tt;
      refused = inl (refuses_later _ _ _ _ c.loop-n.invariant.quiet c.in_err-load.ensures.refused);
      reads = reads_then _ _ _ c.loop-n.invariant.reads c.load.ensures.reads;
      quiet = tt;
      told = λ other. c.in_err-load.ensures.told other ∙ c.loop-n.invariant.quiet;
      later = later_than _ _ _ c.loop-n.invariant.quiet c.load.ensures.later;
    })

pub returns-in_default : goal.returns-in_default
returns-in_default g c =
    let h = g.D.Device.past_of in
    let old = (h c.args.device.now).disk in
    let n = c.loop-n.n in
    let v = c.args.version in
    let per = entries_per_sector v in
    let place = c.entry_place-place in
    let bytes = cut_at old (h c.loop-n.device).disk c.piece_in-bytes.result.now c.load.new.buffer c.entry_size.result
    (entry_size c.args.version) place.result.sector place.result.index (sector_of_piece (entries_at_in v c.args.geometry c.args.first) per n) (n % per)
    c.loop-n.invariant.reads.disk c.piece_in-bytes.ensures.piece c.in_ok-load.ensures.loaded c.entry_size.ensures place.ensures.sector place.ensures.index in
    let quiet = c.in_ok-load.ensures.quiet ∙ c.loop-n.invariant.quiet in
    record {
      held = tt;
      rest = tt;
      refused = inr (
        n,
        c.loop-n-test.true,
        ap (λ k. Damaged k) place.ensures.sector,
        (λ sound. none-some sound.0 (c.in_default.ensures.again sound.0
            (subst (λ (b : List ℕ). IsEntryIn c.args.version c.args.geometry b sound.0) (sym bytes) sound.1))),
        (λ j less. entries_sound c.args.version c.args.geometry c.args.first old.content n (index_of c.loop-n.entries.items) c.loop-n.invariant.held j less),
      );
      reads = reads_then _ _ _ c.loop-n.invariant.reads c.load.ensures.reads;
      quiet = tt;
      told = λ _. quiet;
      later = not_fewer _ _ quiet;
    }

pub returns-then-not-is_above : goal.returns-then-not-is_above
returns-then-not-is_above g c =
    let h = g.D.Device.past_of in
    let old = (h c.args.device.now).disk in
    let n = c.loop-n.n in
    let m : Index = index_of c.loop-n.entries.items in
    let e : Pair × Mark = (c.in-Some.pair, c.in-Some.mark) in
    let v = c.args.version in
    let per = entries_per_sector v in
    let place = c.entry_place-place in
    let bytes = cut_at old (h c.loop-n.device).disk c.piece_in-bytes.result.now c.load.new.buffer c.entry_size.result
    (entry_size c.args.version) place.result.sector place.result.index (sector_of_piece (entries_at_in v c.args.geometry c.args.first) per n) (n % per)
    c.loop-n.invariant.reads.disk c.piece_in-bytes.ensures.piece c.in_ok-load.ensures.loaded c.entry_size.ensures place.ensures.sector place.ensures.index in
    let held = c.loop-n.invariant.held in
    let quiet = c.in_ok-load.ensures.quiet ∙ c.loop-n.invariant.quiet in
    record {
      held = tt;
      rest = tt;
      refused = inr (
        n,
        c.loop-n-test.true,
        ap (λ k. Damaged k) place.ensures.sector,
        (λ sound.
            let same : e ≡ sound.0 = same_Some e sound.0 (c.in-Some.ensures.again sound.0
            (subst (λ (b : List ℕ). IsEntryIn c.args.version c.args.geometry b sound.0) (sym bytes) sound.1)) in
            iff_false c.is_above.ensures c.if-not-is_above.true (λ p is.
            let last = subst (IsLastPair m n) is c.loop-n.invariant.last in
            let there = held.each last.0 last.1 last.3 in
            subst (λ (d : Pair × Mark). pair_cmp p d.0 ≡ Less) (sym same)
            (subst (λ (q : Pair). pair_cmp q sound.0.0 ≡ Less) last.4 (sound.2 last.0 last.1 last.2 there)))),
        (λ j less. entries_sound c.args.version c.args.geometry c.args.first old.content n m held j less),
      );
      reads = reads_then _ _ _ c.loop-n.invariant.reads c.load.ensures.reads;
      quiet = tt;
      told = λ _. quiet;
      later = not_fewer _ _ quiet;
    }

pub returns-in_err-push : goal.returns-in_err-push
returns-in_err-push g c =
    let quiet = c.in_ok-load.ensures.quiet ∙ c.loop-n.invariant.quiet in
    let p = err_from_is_err_and c.from_residual-in_err-push.result c.from_residual-in_err-push.ensures.1 in
    rw p.1 (record {
      held = tt;
      rest = tt;
      refused = inl (inl p.2);
      reads = reads_then _ _ _ c.loop-n.invariant.reads c.load.ensures.reads;
      quiet = tt;
      told = λ _. quiet;
      later = not_fewer _ _ quiet;
    })

pub returns-in_err-set_entries : goal.returns-in_err-set_entries
returns-in_err-set_entries g c =
    let p = err_from_is_err_and c.from_residual-in_err-set_entries.result c.from_residual-in_err-set_entries.ensures.1 in
    rw p.1 (record {
      held = tt;
      rest = tt;
      refused = inl (inl p.2);
      reads = c.loop-n.invariant.reads;
      quiet = tt;
      told = λ _. c.loop-n.invariant.quiet;
      later = not_fewer _ _ c.loop-n.invariant.quiet;
    })

pub returns : goal.returns
returns g c =
    let content = (g.D.Device.past_of c.args.device.now).disk.content in
    let new : Cells = g.S.CellSink.cells c.set_entries.new.self in
    let all : c.loop-n.n ≡ c.args.count = omega (arith, c.loop-n-test.false, c.loop-n.auto.n-end) in
    let index : new.entries ≡ index_of c.loop-n.entries.items = ap (λ (x : Cells). x.entries) c.in_ok-set_entries.ensures
    ∙ (λ i. extended (c.requires.empty i) (c.deref.ensures.value i)) in
    let set = c.in_ok-set_entries.ensures in
    record {
      held = subst (λ n. HoldsEntries c.args.version c.args.geometry c.args.first content n new.entries) all
          (subst (λ (m : Index). HoldsEntries c.args.version c.args.geometry c.args.first content c.loop-n.n m) (sym index) c.loop-n.invariant.held);
      rest = set
          ∙ ap (λ (m : Index). let x : Cells = record (g.S.CellSink.cells c.args.sink.now) { entries = m } in x) (sym (ap (λ (x : Cells). x.entries) set));
      refused = tt;
      reads = c.loop-n.invariant.reads;
      quiet = c.loop-n.invariant.quiet;
      told = tt;
      later = not_fewer _ _ c.loop-n.invariant.quiet;
    }

use Rattle.std.proofs.Common.{rules, ◌≡◌, ℕ, ◌+◌, ◌<◌, ◌++◌, length, take, drop, slice_index, refl, sym, ◌∙◌, ap, arith, length-take}
use Rattle.std.proofs.lemmas.List.{get_or-take}
use Rattle.block_device.specs.Blocks.{CrashFile, block}
use Rattle.block_device.proofs.CrashFiles.{written_back}
use Rattle.block_batch.specs.Batch.{block_digest}
use Rattle.block_journal.proofs.Buffers.{now_sealed, sealed_buffer}
use Rattle.block_journal.specs.Entries.{entries_in}
use Rattle.block_journal.proofs.Loading.{entries_stay}
use Rattle.block_journal.proofs.gathered.Gathered.seal.Goals as goal

pub seal-requires : goal.seal-requires
seal-requires g c =
    let b = c.args.self.now in
    let area : CrashFile = c.deref_mut.result.now in
    let of_places : length (take b.count b.places) ≡ b.count = omega (
      arith,
      length-take b.count b.places,
      c.requires.count,
      c.requires.few,
      c.requires.places,
    ) in
    let digests = c.digests_of-digests.result in
    let of_digests : length (take b.count digests) ≡ b.count = omega (
      arith,
      length-take b.count digests,
      c.requires.count,
      c.requires.few,
      c.digests_of-digests.ensures.size,
    ) in
    record {
      few = omega (arith, of_places, c.requires.count, c.requires.few);
      room = omega (arith, of_places, c.requires.count, ap length c.deref_mut.ensures.value);
      size = of_digests ∙ sym of_places;
      digests = λ i below.
          let low : i < b.count = omega (arith, below, of_places) in
          get_or-take b.count digests i 0 low
          ∙ c.digests_of-digests.ensures.digests i low
          ∙ ap (λ (l : CrashFile). block_digest (slice_index b.places i) (block l (1 + i))) c.deref.ensures.value
          ∙ ap (λ (p : ℕ). block_digest p (block b.area.items (1 + i))) (sym (get_or-take b.count b.places i 0 low))
          ∙ ap (λ (l : CrashFile). block_digest (slice_index (take b.count b.places) i) (block l (1 + i))) (sym c.deref_mut.ensures.value);
    }

pub returns : goal.returns
returns g c =
    let b = c.args.self.now in
    let image : CrashFile = c.seal.new.area in
    let done = c.seal.ensures in
    let size : length image ≡ length b.area.items = search rules in
    let back : take b.area.len (image ++ drop (length image) b.area.items) ≡ image = written_back image b.area.items b.area.len size b.area.ok.0 in
    let stays : (n : ℕ) → 0 < n → block image n ≡ block b.area.items n = search rules in
    record {
      sealed = now_sealed b _ c.requires c.args.number image back refl refl size done.batch done.number done.count done.places stays;
      entries = ap (λ (l : CrashFile). entries_in l b.places b.count) back ∙ entries_stay b.area.items image b.count b.places stays;
      buffer = sealed_buffer b _ c.requires c.args.number image back refl refl size done.batch done.number done.count done.places stays;
      size = ap length back ∙ size;
      count = refl;
    }

use Rattle.std.proofs.Common.{rules, ◌≡◌, ℕ, ◌+◌, ◌<◌, ◌++◌, length, take, drop, slice_set, refl, ◌∙◌, ap, arith, length-set}
use Rattle.block_device.specs.Blocks.{CrashFile}
use Rattle.block_device.proofs.CrashFiles.{written_back}
use Rattle.block_batch.specs.Batch.{replayed}
use Rattle.block_journal.specs.Entries.{entries_in}
use Rattle.block_journal.proofs.Buffers.{put_buffer}
use Rattle.block_journal.proofs.Entries.{places_still, places_then, put_in_place, put_is}
use Rattle.block_journal.proofs.gathered.Gathered.put.Goals as goal

pub put_block-requires : goal.put_block-requires
put_block-requires g c = omega (arith, c.slot-i.ensures.low, c.requires.room, ap length c.deref_mut.ensures.value)

pub returns : goal.returns
returns g c =
    let b = c.args.self.now in
    let bytes = c.args.bytes.now in
    let place = c.args.place in
    let i = c.slot-i.result in
    let image : CrashFile = c.put_block.new.area in
    let stored : image ≡ slice_set b.area.items (i + 1) bytes = search rules in
    let size : length image ≡ length b.area.items = ap length stored ∙ length-set b.area.items (i + 1) bytes in
    let back : take b.area.len (image ++ drop (length image) b.area.items) ≡ slice_set b.area.items (i + 1) bytes =
    written_back image b.area.items b.area.len size b.area.ok.0 ∙ stored in
    let low = c.slot-i.ensures.low in
    let slot = c.slot-i.ensures.slot in
    let few : i < length b.places = omega (arith, low, c.requires.room, c.requires.buffer.few, c.requires.buffer.places) in
    record {
      put = λ l.
          ap (λ (a : CrashFile). replayed (entries_in a (slice_set b.places i place) c.max-self.result) l) back
          ∙ ap (λ (m : ℕ). replayed (entries_in (slice_set b.area.items (i + 1) bytes) (slice_set b.places i place) m) l) c.max-self.ensures
          ∙ put_is b.area.items b.places i place bytes (omega (arith, low, c.requires.room))
          few l b.count slot;
      count = omega (arith, low, c.max-self.ensures);
      in_place = λ there. c.max-self.ensures ∙ put_in_place b.area.items b.places b.count place i slot there;
      places = λ m. (
        places_then b.area.items _ b.places b.count place i c.max-self.result few c.max-self.ensures slot m,
        places_still b.area.items _ b.places b.count place i c.max-self.result few c.max-self.ensures slot m,
      );
      buffer = put_buffer b _ c.requires.buffer i place bytes c.requires.room low slot back refl c.max-self.ensures;
      size = ap length back ∙ length-set b.area.items (i + 1) bytes;
    }

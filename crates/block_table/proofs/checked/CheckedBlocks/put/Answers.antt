use Rattle.std.proofs.Common.{◌≡◌, ◌≢◌, ℕ, ◌+◌, ◌/◌, ◌%◌, ◌<◌, List, [], ◌++◌, length, take, drop, slice_index, slice_index_or, slice_set}
use Rattle.std.proofs.Common.{inl, inr, ⊎_elim, Some, sym, ◌∙◌, ap, subst, arith}
use Rattle.std.proofs.lemmas.Bool.{cases_eq}
use Rattle.block_device.specs.Blocks.{CrashFile, block}
use Rattle.block_device.proofs.CrashFiles.{written_back}
use Rattle.block_batch.specs.Batch.{IsPlace, block_digest}
use Rattle.block_journal.specs.Value.{JournalValue, content_of}
use Rattle.block_device.specs.Words.{word}
use Rattle.block_table.specs.Rows.{AreNumbers, IsSeen}
use Rattle.block_table.specs.Table.{IsFit, data_of, kept_count, place_of, table_count}
use Rattle.block_table.proofs.Contents.{content_put, length-content, two_puts}
use Rattle.block_table.proofs.Seen.{at_seen, seen_then}
use Rattle.block_table.proofs.Table.{after_put, data_here, fits_after, fits_before, put_data, put_fits, put_numbers}
use Rattle.block_table.proofs.checked.CheckedBlocks.put.Goals as goal

-- what both puts leave
pub returns : goal.returns
returns g c =
    rw (← c.self.view_is) (
    let h = g.B.Blocks.past_of in
    let n = c.args.n in
    let bytes : List ℕ = c.args.bytes.now in
    let blocks = c.self.inside.blocks in
    let v : JournalValue g.row.B.Denot = c.self.inside.journal in
    let m : JournalValue g.row.B.Denot = c.put-digest.new.self in
    let now : JournalValue g.row.B.Denot = c.gather.new.self in
    let row : List ℕ = c.set_digest-row.result in
    let step = c.self.invariant.0 in
    let low : n < blocks = rw (← c.self.view_is) at c.requires.inside in
    let size : length (content_of h v) ≡ kept_count blocks = length-content h v c.stands.ensures.inside ∙ step.kept in
    let place : c.len.result + n ≡ place_of blocks n = ap (λ (k : ℕ). k + n) (c.len.ensures ∙ c.self.inside.rows.ok.0 ∙ step.count) in
    let first : content_of h m ≡ slice_set (content_of h v) (place_of blocks n) bytes =
    content_put h v m (c.len.result + n) bytes c.put-digest.ensures.rest c.put-digest.ensures.put
    ∙ ap (λ (k : ℕ). slice_set (content_of h v) k bytes) place in
    let at : content_of h now ≡ after_put blocks (content_of h v) n bytes row =
    content_put h m now (n / 512) row c.gather.ensures.rest c.gather.ensures.put ∙ ap (λ (l : CrashFile). slice_set l (n / 512) row) first in
    let rest = two_puts v m now c.put-digest.ensures.rest c.gather.ensures.rest in
    let digest = c.put-digest.result in
    let is : digest ≡ block_digest (place_of blocks n) bytes = c.put-digest.ensures.digest ∙ ap (λ (k : ℕ). block_digest k bytes) place in
    let set = c.set_digest-row.ensures in
    let rows = c.self.inside.rows.items in
    let value : c.deref_mut.result.now ≡ rows = c.deref_mut.ensures.value in
    let others : (i : ℕ) → i < 512 → i ≢ n % 512 → word row i ≡ slice_index (slice_index_or rows (n / 512) []) i =
    λ i below apart. set.others i below apart ∙ ap (λ (l : List (List ℕ)). slice_index (slice_index_or l (n / 512) []) i) value in
    record {
      put = ap (data_of blocks) at ∙ put_data blocks (content_of h v) n bytes row digest rows low size step.numbers set.digest others is;
      fits = subst (λ (l : CrashFile). IsFit blocks l n) (sym at)
          (put_fits blocks (content_of h v) n bytes row digest rows low size step.numbers set.digest others is);
      others = λ k below apart. (
        (λ fits. fits_before blocks (content_of h v) n bytes row digest rows low size step.numbers set.digest others is k below apart
            (subst (λ (l : CrashFile). IsFit blocks l k) at fits)),
        (λ fits. subst (λ (l : CrashFile). IsFit blocks l k) (sym at)
            (fits_after blocks (content_of h v) n bytes row digest rows low size step.numbers set.digest others is k below apart fits)),
      );
      rest = ap (λ (w : JournalValue g.row.B.Denot). record { journal = w; blocks = blocks }) rest;
      room = omega (arith, c.put-digest.ensures.room, c.gather.ensures.room);
      in_place = λ here row. c.gather.ensures.in_place ((c.put-digest.ensures.places (n / 512)).1 (inr row))
          ∙ c.put-digest.ensures.in_place (subst (IsPlace v.next) (sym place) here);
      places = λ k. (
        (λ there. ⊎_elim
            (λ is. inr (inl is))
            (λ before. ⊎_elim (λ is. inl (is ∙ place)) (λ was. inr (inr was)) ((c.put-digest.ensures.places k).0 before))
            ((c.gather.ensures.places k).0 there)),
        (λ here. (c.gather.ensures.places k).1 (⊎_elim
            (λ is. inr ((c.put-digest.ensures.places k).1 (inl (is ∙ sym place))))
            (⊎_elim (λ is. inl is) (λ was. inr ((c.put-digest.ensures.places k).1 (inr was))))
            here)),
      );
    })

pub invariant_of-self : goal.invariant_of-self
invariant_of-self g c =
    let h = g.B.Blocks.past_of in
    let n = c.args.n in
    let bytes : List ℕ = c.args.bytes.now in
    let blocks = c.self.inside.blocks in
    let v : JournalValue g.row.B.Denot = c.self.inside.journal in
    let m : JournalValue g.row.B.Denot = c.put-digest.new.self in
    let now : JournalValue g.row.B.Denot = c.gather.new.self in
    let row : List ℕ = c.set_digest-row.result in
    let rows = c.self.inside.rows.items in
    let step = c.self.invariant.0 in
    let low : n < blocks = rw (← c.self.view_is) at c.requires.inside in
    let size : length (content_of h v) ≡ kept_count blocks = length-content h v c.stands.ensures.inside ∙ step.kept in
    let place : c.len.result + n ≡ place_of blocks n = ap (λ (k : ℕ). k + n) (c.len.ensures ∙ c.self.inside.rows.ok.0 ∙ step.count) in
    let first : content_of h m ≡ slice_set (content_of h v) (place_of blocks n) bytes =
    content_put h v m (c.len.result + n) bytes c.put-digest.ensures.rest c.put-digest.ensures.put
    ∙ ap (λ (k : ℕ). slice_set (content_of h v) k bytes) place in
    let at : content_of h now ≡ after_put blocks (content_of h v) n bytes row =
    content_put h m now (n / 512) row c.gather.ensures.rest c.gather.ensures.put ∙ ap (λ (l : CrashFile). slice_set l (n / 512) row) first in
    let set = c.set_digest-row.ensures in
    let new : List (List ℕ) = c.set_digest-row.new.rows in
    let value : c.deref_mut.result.now ≡ rows = c.deref_mut.ensures.value in
    let others : (i : ℕ) → i < 512 → i ≢ n % 512 → word row i ≡ slice_index (slice_index_or rows (n / 512) []) i =
    λ i below apart. set.others i below apart ∙ ap (λ (l : List (List ℕ)). slice_index (slice_index_or l (n / 512) []) i) value in
    let long : length new ≡ length rows = set.size ∙ ap length value in
    let digest = c.put-digest.result in
    let is : digest ≡ block_digest (place_of blocks n) bytes = c.put-digest.ensures.digest ∙ ap (λ (k : ℕ). block_digest k bytes) place in
    let back : take c.self.inside.rows.len (new ++ drop (length new) rows) ≡ new = written_back new rows c.self.inside.rows.len long c.self.inside.rows.ok.0 in
    let numbers : AreNumbers (content_of h now) new (table_count blocks) =
    subst (λ (l : CrashFile). AreNumbers l new (table_count blocks)) (sym at)
    (put_numbers blocks (content_of h v) n bytes row digest rows low size step.numbers set.digest others is new set.row
    (λ t apart. set.rest t apart ∙ ap (λ (l : List (List ℕ)). slice_index_or l t []) value)) in
    let kept = c.kept_at-self-inside in
    let here : IsSeen h v blocks c.self.inside.bytes n → IsSeen h now blocks bytes n = λ was. record {
      low = low;
      good = ap (λ (w : JournalValue g.row.B.Denot). w.has_failed) (two_puts v m now c.put-digest.ensures.rest c.gather.ensures.rest) ∙ was.good;
      same = sym (ap (λ (l : CrashFile). block l (place_of blocks n)) at
          ∙ data_here blocks (content_of h v) n bytes row digest rows low size step.numbers set.digest others is);
      fits = subst (λ (l : CrashFile). IsFit blocks l n) (sym at)
          (put_fits blocks (content_of h v) n bytes row digest rows low size step.numbers set.digest others is);
    } in (
      record {
        kept = ap (λ (w : JournalValue g.row.B.Denot). w.shape.kept) (two_puts v m now c.put-digest.ensures.rest c.gather.ensures.rest) ∙ step.kept;
        small = step.small;
        count = ap length back ∙ long ∙ step.count;
        numbers = subst (λ (l : List (List ℕ)). AreNumbers (content_of h now) l (table_count blocks)) (sym back) numbers;
        low = step.low;
        fitting = λ k below. subst (λ (l : CrashFile). IsFit blocks l k) (sym at) (elim (cases_eq k n) [
          | inl same ↦
              subst (IsFit blocks (after_put blocks (content_of h v) n bytes row)) (sym same)
              (put_fits blocks (content_of h v) n bytes row digest rows low size step.numbers set.digest others is)
          | inr apart ↦
              fits_after blocks (content_of h v) n bytes row digest rows low size step.numbers set.digest others is k
              (omega (arith, below, step.low)) apart (step.fitting k below)
        ]);
      },
      seen_then (λ m. (m ≡ n) × (c.self.inside.seen ≡ Some n)) (IsSeen h now blocks bytes) kept.result kept.ensures
          (λ m is. subst (IsSeen h now blocks bytes) (sym is.0)
          (here (at_seen (IsSeen h v blocks c.self.inside.bytes) c.self.inside.seen n is.1 c.self.invariant.1))),
    )

-- The parts of a journal after each of its calls.
use Rattle.std.proofs.Common.{◌≡◌, ℕ, ◌+◌, ◌%◌, ◌<◌, true, false, List, [], ◌∷◌, ◌++◌, ◌^◌, length, Option, Vec, refl, sym, ◌∙◌, ap, subst, arith}
use Rattle.std.proofs.lemmas.Bool.{true≢false}
use Rattle.std.proofs.lemmas.List.{map_push}
use Rattle.block_device.specs.Blocks.{BlockFile, IsSynced, SameOutside}
use Rattle.block_device.specs.BlocksPast.{BlocksPast, RunsWithin}
use Rattle.block_batch.specs.Batch.{Entry, Batch, IsPlace, batch_in, replayed}
use Rattle.block_journal.specs.declared.gathered.Gathered.{Gathered}
use Rattle.block_journal.specs.declared.parts.JournalParts.{JournalParts}
use Rattle.block_journal.specs.Layout.{IsHonest, IsInside, area_of, kept_of, kept_start, recovered}
use Rattle.block_journal.specs.Journal.{AreKnown, IsWritten, MayWrite, StandsFor}
use Rattle.block_journal.specs.Gathered.{IsBuffer, IsSealed, batches_of, entries_of}
use Rattle.block_journal.specs.Opening.{AreFound, first_entries, found_batches}
use Rattle.block_journal.specs.JournalParts.{IsSound, value_of}
use Rattle.block_journal.specs.Value.{JournalValue, IsReady, content_of, next_batch, settled_of}
use Rattle.block_journal.proofs.Committing.{ready_next, settled_next}
use Rattle.block_journal.proofs.Honest.{honest_same}
use Rattle.block_journal.proofs.Opening.{found_honest, opened_known, opened_settled, opened_stands}
use Rattle.block_journal.proofs.Placing.{inside_same}

module _ {B : Type 0} (past_of : B → BlocksPast) where
  -- the file is as it was
  pub ready_same : (v : JournalValue B) (below : B) → (past_of below).file ≡ (past_of v.below).file → IsReady past_of v
      → IsReady past_of (record v { below = below })
  ready_same v below same ready = record {
    stands = subst (λ (f : BlockFile). StandsFor v.shape f.content v.last (replayed v.last.entries (kept_of v.shape f.content))) (sym same) ready.stands;
    known = subst (λ (f : BlockFile). AreKnown v.offered v.last (replayed v.last.entries (kept_of v.shape f.content))) (sym same) ready.known;
    honest = subst (λ (f : BlockFile). IsHonest v.offered v.shape f.content) (sym same) ready.honest;
    synced = subst IsSynced (sym same) ready.synced;
  }

module _ {B A : Type 0} (past_of : B → BlocksPast) (p : JournalParts B A) (sound : IsSound past_of p) where
  -- after a read
  pub sound_read : (below : B) → (past_of below).file ≡ (past_of p.below).file → IsSound past_of (record p { below = below })
  sound_read below same = record {
    last = sound.last;
    last_size = sound.last_size;
    next = sound.next;
    next_size = sound.next_size;
    small = sound.small;
    inside = subst (λ (f : BlockFile). IsInside p.shape f.content) (sym same) sound.inside;
    ready = λ good. ready_same past_of (value_of p) below same (sound.ready good);
  }

  -- after a read that was refused
  pub sound_counted : (refused : ℕ) → IsSound past_of (record p { refused = refused })
  sound_counted refused = record {
    last = sound.last;
    last_size = sound.last_size;
    next = sound.next;
    next_size = sound.next_size;
    small = sound.small;
    inside = sound.inside;
    ready = λ good. let ready = sound.ready good in record {
      stands = ready.stands;
      known = ready.known;
      honest = ready.honest;
      synced = ready.synced;
    };
  }

  -- after a commit that was refused
  pub sound_refused : (refused : ℕ) → IsSound past_of (record p { has_failed = true; refused = refused })
  sound_refused refused = record {
    last = sound.last;
    last_size = sound.last_size;
    next = sound.next;
    next_size = sound.next_size;
    small = sound.small;
    inside = sound.inside;
    ready = λ good. absurd (true≢false good);
  }

  -- after a block was put
  pub sound_put : (next : Gathered A) → IsBuffer next → length next.area.items ≡ length p.next.area.items → IsSound past_of (record p { next = next })
  sound_put next buffer size = record {
    last = sound.last;
    last_size = sound.last_size;
    next = buffer;
    next_size = size ∙ sound.next_size;
    small = sound.small;
    inside = sound.inside;
    ready = λ good. let ready = sound.ready good in record {
      stands = ready.stands;
      known = ready.known;
      honest = ready.honest;
      synced = ready.synced;
    };
  }

  -- after a commit
  module _ (good : p.has_failed ≡ false) (sealed : Gathered A) (seals : IsSealed (p.number + 1) sealed) (entries : entries_of sealed ≡ entries_of p.next)
      (buffer : IsBuffer sealed) (size : length sealed.area.items ≡ length p.next.area.items) (below : B)
      (within : RunsWithin (MayWrite p.shape ((p.number + 1) % 2) (entries_of p.last)) (past_of p.below).file.content (past_of p.below) (past_of below))
      (n : JournalParts B A) (items : n.offered.items ≡ p.offered.items ++ sealed.area ∷ []) where
    inside_now : IsInside p.shape (past_of below).file.content
    inside_now = inside_same p.shape (past_of p.below).file.content (past_of below).file.content sound.inside within.now.content.size

    batch_of_next : batch_in sealed.area.items ≡ next_batch (value_of p)
    batch_of_next = seals.same ∙ ap (λ (l : List Entry). record { number = p.number + 1; entries = l }) entries

    pub offered_more : batches_of n.offered.items ≡ (value_of p).offered ++ next_batch (value_of p) ∷ []
    offered_more =
        ap (λ (l : List (Vec (List ℕ) A)). batches_of l) items
        ∙ map_push (λ (area : Vec (List ℕ) A). batch_in area.items) p.offered.items sealed.area
        ∙ ap (λ (b : Batch). (value_of p).offered ++ b ∷ []) batch_of_next

    -- that failed
    module _ (is : n ≡ record p { below = below; next = sealed; offered = n.offered; has_failed = true }) where
      pub failed_value : value_of n ≡ record (value_of p) {
        below = n.below;
        offered = (value_of p).offered ++ next_batch (value_of p) ∷ [];
        has_failed = true;
      }
      failed_value = ap value_of is ∙ (λ i. record (value_of p) {
        below = is_below i;
        next = entries i;
        offered = offered_more i;
        has_failed = true;
      })
        where
          is_below : below ≡ n.below
          is_below = sym (ap (λ (q : JournalParts B A). q.below) is)

      pub failed_sound : IsSound past_of n
      failed_sound = subst (IsSound past_of) (sym is) (record {
        last = sound.last;
        last_size = sound.last_size;
        next = buffer;
        next_size = size ∙ sound.next_size;
        small = sound.small;
        inside = inside_now;
        ready = λ never. absurd (true≢false never);
      })

    -- that succeeded
    module _ (last next : Gathered A) (is : n ≡ record p { below = below; number = p.number + 1; last = last; next = next; offered = n.offered })
        (moved : last ≡ sealed) (freed : next ≡ record p.last { count = 0 })
        (written : IsWritten p.shape (past_of below).file.content (record { number = p.number + 1; entries = entries_of sealed })
        (replayed (entries_of p.last) (kept_of p.shape (past_of p.below).file.content))) where
      abbrev pub goal_value : JournalValue B
      goal_value = record (value_of p) {
        below = below;
        last = next_batch (value_of p);
        next = [];
        offered = (value_of p).offered ++ next_batch (value_of p) ∷ [];
      }

      pub committed_value : value_of n ≡ record (value_of p) {
        below = n.below;
        last = next_batch (value_of p);
        next = [];
        offered = (value_of p).offered ++ next_batch (value_of p) ∷ [];
      }
      committed_value = ap value_of is ∙ (λ i. record (value_of p) {
        below = is_below i;
        last = record { number = p.number + 1; entries = its_entries i };
        next = none i;
        offered = offered_more i;
      })
        where
          is_below : below ≡ n.below
          is_below = sym (ap (λ (q : JournalParts B A). q.below) is)

          its_entries : entries_of last ≡ entries_of p.next
          its_entries = ap (λ (b : Gathered A). entries_of b) moved ∙ entries

          none : entries_of next ≡ []
          none = ap (λ (b : Gathered A). entries_of b) freed

      abbrev pub its_next : Batch
      its_next = next_batch (value_of p)

      now_written : IsWritten p.shape (past_of below).file.content its_next (settled_of past_of (value_of p))
      now_written = subst (λ (l : List Entry). IsWritten p.shape (past_of below).file.content (record { number = p.number + 1; entries = l })
          (settled_of past_of (value_of p))) entries written

      at_goal : value_of n ≡ goal_value
      at_goal = committed_value ∙ (λ i. record goal_value { below = (ap (λ (q : JournalParts B A). q.below) is) i })

      pub committed_settled : settled_of past_of (value_of n) ≡ content_of past_of (value_of p)
      committed_settled = ap (settled_of past_of) at_goal
          ∙ settled_next past_of (value_of p) (sound.ready good) goal_value refl within now_written refl refl

      pub committed_sound : IsSynced (past_of below).file → IsSound past_of n
      committed_sound synced = subst (IsSound past_of) (sym is) (record {
        last = subst IsBuffer (sym moved) buffer;
        last_size = ap (λ (b : Gathered A). length b.area.items) moved ∙ size ∙ sound.next_size;
        next = subst IsBuffer (sym freed) (record {
          places = sound.last.places;
          few = sound.last.few;
          count = omega (arith, sound.last.count);
        });
        next_size = ap (λ (b : Gathered A). length b.area.items) freed ∙ sound.last_size;
        small = sound.small;
        inside = inside_now;
        ready = λ _. subst (IsReady past_of) (sym at_goal ∙ ap value_of is)
            (ready_next past_of (value_of p) (sound.ready good) goal_value refl within now_written refl refl synced);
      })

-- ---- a journal that is opened

module _ {B A : Type 0} (past_of : B → BlocksPast) (p n : JournalParts B A) (number : ℕ) (before : Option ℕ) (below : B)
    (inside : IsInside p.shape (past_of p.below).file.content) (small : kept_start p.shape + p.shape.kept < 2 ^ 64)
    (last : IsBuffer p.last) (last_size : length p.last.area.items ≡ p.shape.area) (next : IsBuffer p.next)
    (next_size : length p.next.area.items ≡ p.shape.area)
    (finds : AreFound p.shape (past_of p.below).file.content (record { number = number; entries = entries_of p.last }) before (entries_of p.next))
    (size : length (past_of below).file.content ≡ length (past_of p.below).file.content)
    (areas : (a : ℕ) → a < 2 → area_of p.shape (past_of below).file.content a ≡ area_of p.shape (past_of p.below).file.content a)
    (placed : SameOutside (IsPlace (entries_of p.last)) (replayed (first_entries number before (entries_of p.next))
    (kept_of p.shape (past_of p.below).file.content)) (kept_of p.shape (past_of below).file.content))
    (synced : IsSynced (past_of below).file)
    (offers : batches_of n.offered.items ≡ found_batches (record { number = number; entries = entries_of p.last }) before (entries_of p.next))
    (is : n ≡ record p { below = below; number = number; next = record p.next { count = 0 }; offered = n.offered; has_failed = false }) where
  abbrev pub its_last : Batch
  its_last = record { number = number; entries = entries_of p.last }

  abbrev pub opened_value : JournalValue B
  opened_value = record {
    below = below;
    shape = p.shape;
    last = its_last;
    next = [];
    offered = found_batches its_last before (entries_of p.next);
    has_failed = false;
    refused = p.refused;
  }

  pub value_opened : value_of n ≡ opened_value
  value_opened = ap value_of is ∙ (λ i. record opened_value { offered = offers i })

  pub settled_opened : settled_of past_of (value_of n) ≡ recovered p.shape (past_of p.below).file.content
  settled_opened = ap (settled_of past_of) value_opened
      ∙ opened_settled p.shape (past_of p.below).file.content its_last before (entries_of p.next) inside finds (past_of below).file.content size areas placed

  pub sound_opened : IsSound past_of n
  sound_opened = subst (IsSound past_of) (sym is) (record {
    last = last;
    last_size = last_size;
    next = record {
      places = next.places;
      few = next.few;
      count = omega (arith, next.count);
    };
    next_size = next_size;
    small = small;
    inside = inside_same p.shape (past_of p.below).file.content (past_of below).file.content inside size;
    ready = λ _. subst (IsReady past_of) (sym value_opened ∙ ap value_of is) (record {
      stands = opened_stands p.shape (past_of p.below).file.content its_last before (entries_of p.next) inside finds (past_of below).file.content size areas
          placed;
      known = opened_known p.shape (past_of p.below).file.content its_last before (entries_of p.next) inside finds (past_of below).file.content size areas
          placed;
      honest = honest_same p.shape (past_of p.below).file.content (past_of below).file.content (found_batches its_last before (entries_of p.next)) areas
          (found_honest p.shape (past_of p.below).file.content its_last before (entries_of p.next) finds);
      synced = synced;
    });
  })

-- ---- what a journal shows after a read

pub as_read : {B : Type 0} (v n : JournalValue B) → n ≡ record v { below = n.below } → n ≡ record v { below = n.below; refused = n.refused }
as_read {B} v n is = is ∙ (λ i. record v { below = n.below; refused = same i })
  where
    same : v.refused ≡ n.refused
    same = sym (ap (λ (w : JournalValue B). w.refused) is)

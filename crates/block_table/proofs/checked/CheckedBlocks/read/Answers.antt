use Rattle.std.proofs.Common.{◌≡◌, inl, inr, ℕ, ◌+◌, ◌/◌, ◌%◌, ◌<◌, List, [], length, refl, sym, ◌∙◌, ap, subst, arith, le_refl}
use Rattle.std.proofs.lemmas.Bool.{false≢true}
use Rattle.std.proofs.lemmas.List.{get_or-drop}
use Rattle.block_device.specs.Blocks.{CrashFile, block}
use Rattle.block_batch.specs.Batch.{block_digest}
use Rattle.block_journal.specs.Value.{JournalValue, content_of}
use Rattle.block_journal.proofs.OnlyReading.{reads_none}
use Rattle.block_journal.proofs.Results.{from_err, from_ok}
use Rattle.block_table.specs.Rows.{IsSeen, digest_in}
use Rattle.block_table.specs.Table.{IsFit, digest_of, place_of, table_count}
use Rattle.block_table.proofs.Contents.{content_read, step_same}
use Rattle.block_table.proofs.Errors.{ok_not_err, failed_not_damaged, damaged_not_failed}
use Rattle.block_table.proofs.Seen.{at_seen}
use Rattle.block_table.proofs.Table.{in_table}
use Rattle.block_table.proofs.checked.CheckedBlocks.read.Goals as goal

in_row : (n : ℕ) → n % 512 < 512
in_row n = omega arith

pub returns-then-is_at : goal.returns-then-is_at
returns-then-is_at g c =
    rw (← c.self.view_is) (
    let h = g.B.Blocks.past_of in
    let v : JournalValue g.row.B.Denot = c.self.inside.journal in
    let blocks = c.self.inside.blocks in
    let n = c.args.n in
    let seen : IsSeen h v blocks c.self.inside.bytes n =
    at_seen (IsSeen h v blocks c.self.inside.bytes) c.self.inside.seen n (c.if-is_at.ensures refl) c.self.invariant.1 in
    record {
      ok = seen.same ∙ sym (get_or-drop (table_count blocks) (content_of h v) n []);
      fits = seen.fits;
      damaged = λ is. absurd (ok_not_err is);
      sound = λ _. seen.good;
      err = tt;
      failed = λ is. absurd (ok_not_err is);
      rest = refl;
      good = λ _. refl;
      refused = λ failed. absurd (false≢true (sym seen.good ∙ failed));
      reads = reads_none (h v.below);
      back = refl;
      counts = record { later = le_refl _; quiet = λ _. refl; rises = λ is. absurd (ok_not_err is) };
    })

pub returns-then-is_err : goal.returns-then-is_err
returns-then-is_err g c =
    rw (← c.self.view_is) (
    let failed = sym c.is_err.ensures.value ∙ c.if-is_err.true in
    let done = c.read.ensures in
    record {
      ok = tt;
      fits = tt;
      damaged = λ is. absurd (failed_not_damaged is);
      sound = λ other. absurd (other refl);
      err = refl;
      failed = λ _. from_err _ _ failed done.fails;
      rest = λ i. record { journal = done.rest i; blocks = c.self.inside.blocks };
      good = λ sound i. record { journal = done.good sound i; blocks = c.self.inside.blocks };
      refused = done.refused;
      reads = done.reads;
      back = done.back;
      counts = record {
        later = done.counts.later;
        quiet = λ other. absurd (other refl);
        rises = λ _. from_err _ _ failed done.counts.failed;
      };
    })

pub is_fit-requires : goal.is_fit-requires
is_fit-requires g c =
    let h = g.B.Blocks.past_of in
    let good = sym c.is_err.ensures.value ∙ c.if-is_err.false in
    let done = c.read.ensures in
    let v : JournalValue g.row.B.Denot = c.self.inside.journal in
    let blocks = c.self.inside.blocks in
    let n = c.args.n in
    let low : n < blocks = rw (← c.self.view_is) at c.requires in
    let step = c.self.invariant.0 in
    let place : c.len.result + n ≡ place_of blocks n = ap (λ (k : ℕ). k + n) (c.len.ensures ∙ c.self.inside.rows.ok.0 ∙ step.count) in
    let told : digest_in c.deref.result.now n ≡ digest_of (content_of h v) n =
    ap (λ (l : List (List ℕ)). digest_in l n) c.deref.ensures.value ∙ step.numbers (n / 512) (n % 512) (in_table blocks n low) (in_row n) in
    let found : block_digest (c.len.result + n) c.read.new.bytes ≡ block_digest (place_of blocks n) (block (content_of h v) (place_of blocks n)) =
    ap (block_digest (c.len.result + n)) (from_ok _ _ good done.ok) ∙ ap (λ (k : ℕ). block_digest k (block (content_of h v) k)) place in
    record {
      row = omega (arith, ap length c.deref.ensures.value, step.count, in_table blocks n low);
      known = λ below. told ∙ step.fitting n below ∙ sym found;
    }

pub returns-then-not-is_fit : goal.returns-then-not-is_fit
returns-then-not-is_fit g c =
    rw (← c.self.view_is) (
    let h = g.B.Blocks.past_of in
    let good = sym c.is_err.ensures.value ∙ c.if-is_err.false in
    let done = c.read.ensures in
    let v : JournalValue g.row.B.Denot = c.self.inside.journal in
    let blocks = c.self.inside.blocks in
    let n = c.args.n in
    let low : n < blocks = rw (← c.self.view_is) at c.requires in
    let step = c.self.invariant.0 in
    let place : c.len.result + n ≡ place_of blocks n = ap (λ (k : ℕ). k + n) (c.len.ensures ∙ c.self.inside.rows.ok.0 ∙ step.count) in
    let told : digest_in c.deref.result.now n ≡ digest_of (content_of h v) n =
    ap (λ (l : List (List ℕ)). digest_in l n) c.deref.ensures.value ∙ step.numbers (n / 512) (n % 512) (in_table blocks n low) (in_row n) in
    let found : block_digest (c.len.result + n) c.read.new.bytes ≡ block_digest (place_of blocks n) (block (content_of h v) (place_of blocks n)) =
    ap (block_digest (c.len.result + n)) (from_ok _ _ good done.ok) ∙ ap (λ (k : ℕ). block_digest k (block (content_of h v) k)) place in
    record {
      ok = tt;
      fits = tt;
      damaged = λ _ fits. c.is_fit.ensures.unfit c.if-not-is_fit.true (told ∙ fits ∙ sym found);
      sound = λ _. from_ok _ _ good done.sound;
      err = refl;
      failed = λ is. absurd (damaged_not_failed is);
      rest = λ i. record { journal = done.rest i; blocks = blocks };
      good = λ sound i. record { journal = done.good sound i; blocks = c.self.inside.blocks };
      refused = done.refused;
      reads = done.reads;
      back = done.back;
      counts = record {
        later = done.counts.later;
        quiet = λ _. from_ok _ _ good done.counts.none;
        rises = λ is. absurd (damaged_not_failed is);
      };
    })

pub returns : goal.returns
returns g c =
    rw (← c.self.view_is) (
    let h = g.B.Blocks.past_of in
    let good = sym c.is_err.ensures.value ∙ c.if-is_err.false in
    let done = c.read.ensures in
    let v : JournalValue g.row.B.Denot = c.self.inside.journal in
    let blocks = c.self.inside.blocks in
    let n = c.args.n in
    let low : n < blocks = rw (← c.self.view_is) at c.requires in
    let step = c.self.invariant.0 in
    let place : c.len.result + n ≡ place_of blocks n = ap (λ (k : ℕ). k + n) (c.len.ensures ∙ c.self.inside.rows.ok.0 ∙ step.count) in
    let told : digest_in c.deref.result.now n ≡ digest_of (content_of h v) n =
    ap (λ (l : List (List ℕ)). digest_in l n) c.deref.ensures.value ∙ step.numbers (n / 512) (n % 512) (in_table blocks n low) (in_row n) in
    let found : block_digest (c.len.result + n) c.read.new.bytes ≡ block_digest (place_of blocks n) (block (content_of h v) (place_of blocks n)) =
    ap (block_digest (c.len.result + n)) (from_ok _ _ good done.ok) ∙ ap (λ (k : ℕ). block_digest k (block (content_of h v) k)) place in
    record {
      ok = from_ok _ _ good done.ok ∙ ap (block (content_of h v)) place ∙ sym (get_or-drop (table_count blocks) (content_of h v) n []);
      fits = sym told ∙ c.is_fit.ensures.fits c.if-not-is_fit.false ∙ found;
      damaged = λ is. absurd (ok_not_err is);
      sound = λ _. from_ok _ _ good done.sound;
      err = tt;
      failed = λ is. absurd (ok_not_err is);
      rest = λ i. record { journal = done.rest i; blocks = blocks };
      good = λ sound i. record { journal = done.good sound i; blocks = c.self.inside.blocks };
      refused = done.refused;
      reads = done.reads;
      back = done.back;
      counts = record {
        later = done.counts.later;
        quiet = λ _. from_ok _ _ good done.counts.none;
        rises = λ is. absurd (ok_not_err is);
      };
    })

pub invariant_of-self : goal.invariant_of-self
invariant_of-self g c =
    let h = g.B.Blocks.past_of in
    let v : JournalValue g.row.B.Denot = c.self.inside.journal in
    let m : JournalValue g.row.B.Denot = c.read.new.self in (
      step_same h v m c.self.inside.rows.items c.self.inside.known c.self.inside.blocks c.self.invariant.0
          (ap (λ (w : JournalValue g.row.B.Denot). w.shape) c.read.ensures.rest) (content_read h v m c.read.ensures.rest c.read.ensures.reads),
      tt,
    )

pub invariant_of-self-2 : goal.invariant_of-self-2
invariant_of-self-2 g c =
    let h = g.B.Blocks.past_of in
    let good = sym c.is_err.ensures.value ∙ c.if-is_err.false in
    let done = c.read.ensures in
    let v : JournalValue g.row.B.Denot = c.self.inside.journal in
    let blocks = c.self.inside.blocks in
    let n = c.args.n in
    let low : n < blocks = rw (← c.self.view_is) at c.requires in
    let step = c.self.invariant.0 in
    let place : c.len.result + n ≡ place_of blocks n = ap (λ (k : ℕ). k + n) (c.len.ensures ∙ c.self.inside.rows.ok.0 ∙ step.count) in
    let told : digest_in c.deref.result.now n ≡ digest_of (content_of h v) n =
    ap (λ (l : List (List ℕ)). digest_in l n) c.deref.ensures.value ∙ step.numbers (n / 512) (n % 512) (in_table blocks n low) (in_row n) in
    let found : block_digest (c.len.result + n) c.read.new.bytes ≡ block_digest (place_of blocks n) (block (content_of h v) (place_of blocks n)) =
    ap (block_digest (c.len.result + n)) (from_ok _ _ good done.ok) ∙ ap (λ (k : ℕ). block_digest k (block (content_of h v) k)) place in
    let rows = c.self.inside.rows.items in
    let m : JournalValue g.row.B.Denot = c.read.new.self in
    let same = content_read h v m done.rest done.reads in
    let still = step_same h v m rows c.self.inside.known blocks step (ap (λ (w : JournalValue g.row.B.Denot). w.shape) done.rest) same in
    let here : IsFit blocks (content_of h m) n = subst (λ (l : CrashFile). IsFit blocks l n) (sym same)
    (sym told ∙ c.is_fit.ensures.fits c.if-not-is_fit.false ∙ found) in (
      record {
        kept = still.kept;
        small = still.small;
        count = still.count;
        numbers = still.numbers;
        low = c.known_with-self-inside.ensures.low blocks step.low low;
        fitting = λ k below. elim (c.known_with-self-inside.ensures.each k below) [
          | inl before ↦ still.fitting k before
          | inr last ↦ subst (IsFit blocks (content_of h m)) (sym last) here
        ];
      },
      record {
        low = low;
        good = ap (λ (w : JournalValue g.row.B.Denot). w.has_failed) done.rest ∙ from_ok _ _ good done.sound;
        same = from_ok _ _ good done.ok
            ∙ ap (block (content_of h v)) place
            ∙ sym (ap (λ (l : CrashFile). block l (place_of blocks n)) same);
        fits = here;
      },
    )

-- What is replayed where one batch more is written, and a crash comes.
use Rattle.std.proofs.Common.{◌≡◌, ◌⊎◌, inl, inr, ⊎_elim, ◌+◌, ◌<◌, List, ◌++◌, Option, Some, None, IfSome, Contains, sym, ◌∙◌, ap, arith}
use Rattle.std.proofs.lemmas.Bool.{cases_eq}
use Rattle.std.proofs.lemmas.Bool.Decides.{nat_tests}
use Rattle.block_device.specs.Blocks.{CrashFile}
use Rattle.block_batch.specs.Batch.{Entry, Batch, replayed, IsPlace}
use Rattle.block_batch.specs.Replay.{in_order, pending, IsCommitted, AreOffered}
use Rattle.block_batch.proofs.Replay.{cut_off, both, agree}

-- ---- the order of two batches, either way

before_first : (x y : Batch) → x.number + 1 ≡ y.number → in_order x y ≡ x.entries ++ y.entries
before_first x y is = grind (arith, nat_tests)

before_second : (x y : Batch) → x.number + 1 ≡ y.number → in_order y x ≡ x.entries ++ y.entries
before_second x y is = grind (arith, nat_tests)

older_first : (x y : Batch) → x.number + 1 < y.number → in_order x y ≡ y.entries
older_first x y lt = grind (arith, nat_tests)

older_second : (x y : Batch) → x.number + 1 < y.number → in_order y x ≡ y.entries
older_second x y lt = grind (arith, nat_tests)

itself : (x y : Batch) → x ≡ y → in_order x y ≡ y.entries
itself x y is = ap (λ z. in_order z y) is ∙ alone y
  where
    alone : (z : Batch) → in_order z z ≡ z.entries
    alone z = grind (arith, nat_tests)

itself_again : (x y : Batch) → x ≡ y → in_order y x ≡ y.entries
itself_again x y is = ap (λ z. in_order y z) is ∙ alone y
  where
    alone : (z : Batch) → in_order z z ≡ z.entries
    alone z = grind (arith, nat_tests)

module _ (offered : List Batch) (last next : Batch) (settled kept : CrashFile) (known : AreOffered offered last next settled)
    (committed : IsCommitted last settled kept) where
  -- the last batch alone
  alone : replayed last.entries kept ≡ settled
  alone = cut_off last.entries settled kept committed.elsewhere ∙ committed.there

  -- and the next one behind it
  with_next : replayed (last.entries ++ next.entries) kept ≡ replayed next.entries settled
  with_next = both last.entries next.entries kept ∙ ap (replayed next.entries) alone

  -- the one before it, and the last
  with_before : (x : Batch) → Contains offered x → x.number + 1 ≡ last.number → replayed (x.entries ++ last.entries) kept ≡ settled
  with_before x offers is =
      both x.entries last.entries kept
      ∙ cut_off last.entries (replayed x.entries settled) (replayed x.entries kept) (agree (IsPlace last.entries) x.entries settled kept committed.elsewhere)
      ∙ known.before x offers is

  -- whatever batch the torn area has
  module _ (order : Batch → List Entry) (x : Batch) (offers : Contains offered x)
      (behind : next.number ≡ last.number + 1 → order next ≡ last.entries ++ next.entries) (same : x ≡ last → order x ≡ last.entries)
      (before : x.number + 1 ≡ last.number → order x ≡ x.entries ++ last.entries) (older : x.number + 1 < last.number → order x ≡ last.entries) where
    one : (replayed (order x) kept ≡ settled) ⊎ (replayed (order x) kept ≡ replayed next.entries settled)
    one = ⊎_elim
        (λ is. let next_is = known.is_next x offers is in
        inr (ap (λ z. replayed (order z) kept) next_is ∙ ap (λ l. replayed l kept) (behind known.follows) ∙ with_next))
        (λ other. ⊎_elim
        (λ is. inl (ap (λ l. replayed l kept) (same (known.is_last x offers is)) ∙ alone))
        (λ apart. ⊎_elim
        (λ is. inl (ap (λ l. replayed l kept) (before is) ∙ with_before x offers is))
        (λ far. inl (ap (λ l. replayed l kept) (older (omega (arith, known.follows, known.none_later x offers, other, apart, far))) ∙ alone))
        (cases_eq (x.number + 1) last.number))
        (cases_eq x.number last.number))
        (cases_eq x.number next.number)

  pub torn_first : (torn : Option Batch) → IfSome torn (λ x. Contains offered x)
      → (replayed (pending torn (Some last)) kept ≡ settled) ⊎ (replayed (pending torn (Some last)) kept ≡ replayed next.entries settled)
  torn_first None none = inl alone
  torn_first (Some x) offers = one (λ z. in_order z last) x offers
      (λ follows. before_second last next (sym follows)) (itself x last) (before_first x last) (older_first x last)

  pub torn_second : (torn : Option Batch) → IfSome torn (λ x. Contains offered x)
      → (replayed (pending (Some last) torn) kept ≡ settled) ⊎ (replayed (pending (Some last) torn) kept ≡ replayed next.entries settled)
  torn_second None none = inl alone
  torn_second (Some x) offers = one (λ z. in_order last z) x offers
      (λ follows. before_first last next (sym follows)) (itself_again x last) (before_second x last) (older_second x last)

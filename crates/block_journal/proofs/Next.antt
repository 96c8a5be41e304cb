-- After a commit the next batch is the last one.
use Rattle.std.proofs.Common.{◌≡◌, ⊎_elim, ◌+◌, List, [], ◌∷◌, ◌++◌, sym, ◌∙◌, ap, subst, arith}
use Rattle.std.proofs.lemmas.List.Elements.{Contains-push, Contains-push_cases}
use Rattle.block_device.specs.Blocks.{CrashFile, SameOutside}
use Rattle.block_batch.specs.Batch.{Batch, replayed, IsPlace}
use Rattle.block_batch.specs.Replay.{IsCommitted, AreOffered}
use Rattle.block_batch.proofs.Replay.{outside, agree, cut_off}
use Rattle.block_journal.specs.Journal.{AreKnown}

module _ (offered : List Batch) (last next : Batch) (settled : CrashFile) (known : AreKnown offered last settled)
    (follows : next.number ≡ last.number + 1) where
  -- the next batch is offered
  pub now_offered : AreOffered (offered ++ next ∷ []) last next settled
  now_offered = record {
    follows = follows;
    none_later = λ x has. ⊎_elim (λ old. omega (arith, known.none_later x old, follows)) (λ is. omega (arith, ap (λ (b : Batch). b.number) is))
        (Contains-push_cases offered next x has);
    is_next = λ x has same. ⊎_elim (λ old. absurd (omega (arith, known.none_later x old, follows, same))) (λ is. sym is)
        (Contains-push_cases offered next x has);
    is_last = λ x has same. ⊎_elim (λ old. known.is_last x old same) (λ is. absurd (omega (arith, ap (λ (b : Batch). b.number) is, follows, same)))
        (Contains-push_cases offered next x has);
    before = λ x has same. ⊎_elim (λ old. known.before x old same) (λ is. absurd (omega (arith, ap (λ (b : Batch). b.number) is, follows, same)))
        (Contains-push_cases offered next x has);
  }

  module _ (there : replayed last.entries settled ≡ settled) where
    -- the last one and the next one are replayed to what the next one gave
    both_again : replayed next.entries (replayed last.entries (replayed next.entries settled)) ≡ replayed next.entries settled
    both_again = cut_off next.entries settled (replayed last.entries (replayed next.entries settled))
        (subst (λ image. SameOutside (IsPlace next.entries) image (replayed last.entries (replayed next.entries settled))) there
        (agree (IsPlace next.entries) last.entries settled (replayed next.entries settled) (outside next.entries settled)))

    -- it is known as the last one
    pub now_known : AreKnown (offered ++ next ∷ []) next (replayed next.entries settled)
    now_known = record {
      has_last = Contains-push offered next;
      none_later = now_offered.none_later;
      is_last = now_offered.is_next;
      before = λ x has same. ⊎_elim
          (λ old. let is = known.is_last x old (omega (arith, same, follows)) in
          ap (λ (b : Batch). replayed next.entries (replayed b.entries (replayed next.entries settled))) is ∙ both_again)
          (λ is. absurd (omega (arith, ap (λ (b : Batch). b.number) is, same)))
          (Contains-push_cases offered next x has);
    }

-- the kept blocks are there outside its places
pub now_committed : (next : Batch) (settled kept : CrashFile) → SameOutside (IsPlace next.entries) settled kept
    → IsCommitted next (replayed next.entries settled) kept
now_committed next settled kept same = record {
  elsewhere = record {
    size = same.size ∙ sym gave.size;
    same = λ n out. same.same n out ∙ sym (gave.same n out);
  };
  there = cut_off next.entries settled (replayed next.entries settled) gave;
}
  where
    gave : SameOutside (IsPlace next.entries) settled (replayed next.entries settled)
    gave = outside next.entries settled

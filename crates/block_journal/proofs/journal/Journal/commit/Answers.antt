use Rattle.std.proofs.Common.{◌≡◌, inl, inr, ⊎_elim, ◌+◌, ◌%◌, Bool, true, false, [], ◌∷◌, ◌++◌, refl, sym, ◌∙◌, ap, arith}
use Rattle.std.proofs.lemmas.Bool.{false≢true}
use Rattle.block_journal.specs.Value.{JournalValue, content_of, next_batch, settled_of}
use Rattle.block_journal.specs.Journal.{MayWrite}
use Rattle.block_journal.proofs.Before.{leaves_before, none_before, not_by_commit}
use Rattle.block_journal.proofs.Keeping.{keeps_batch, none_batch}
use Rattle.block_journal.specs.JournalParts.{value_of}
use Rattle.block_journal.proofs.Closing.{empty_commit}
use Rattle.block_journal.proofs.Committing.{either_left, nothing_left}
use Rattle.block_journal.proofs.Results.{counts_refused, counts_with, either_result, on_err, on_ok, on_ok_always, on_ok_both}
use Rattle.block_journal.proofs.journal.Journal.commit.Goals as goal

pub commit-requires : goal.commit-requires
commit-requires g c =
    let can = c.if-can_commit.ensures.can refl in
    record { sound = c.self.invariant; good = can.0; low = can.1 }

pub returns-then-can_commit : goal.returns-then-can_commit
returns-then-can_commit g c =
    rw (← c.self.view_is) (
    let past_of = g.B.Blocks.past_of in
    let p = c.self.inside.parts in
    let old : JournalValue g.row.B.Denot = value_of p in
    let new : JournalValue g.row.B.Denot = value_of c.commit.new.self in
    let r = c.commit.result in
    let done = c.commit.ensures in
    let good = (c.if-can_commit.ensures.can refl).0 in
    let ready = c.self.invariant.ready good in
    let offered : new.offered ≡ old.offered ++ next_batch old ∷ [] = either_result _ r
    (on_ok _ _ r (λ is. ap (λ (v : JournalValue g.row.B.Denot). v.offered) is) done.ok)
    (on_err _ _ r (λ is. ap (λ (v : JournalValue g.row.B.Denot). v.offered) is) done.err) in
    let shape : new.shape ≡ old.shape = either_result _ r
    (on_ok _ _ r (λ is. ap (λ (v : JournalValue g.row.B.Denot). v.shape) is) done.ok)
    (on_err _ _ r (λ is. ap (λ (v : JournalValue g.row.B.Denot). v.shape) is) done.err) in
    let refused : new.refused ≡ old.refused = either_result _ r
    (on_ok _ _ r (λ is. ap (λ (v : JournalValue g.row.B.Denot). v.refused) is) done.ok)
    (on_err _ _ r (λ is. ap (λ (v : JournalValue g.row.B.Denot). v.refused) is) done.err) in
    let still = on_ok _ (new.has_failed ≡ false) r (λ is. ap (λ (v : JournalValue g.row.B.Denot). v.has_failed) is ∙ good) done.ok in
    let both = on_ok_both _ _ r done.ok (on_ok_both _ _ r done.settled still) in
    let closed = λ (empty : old.next ≡ []) (all : (new ≡ record old {
      below = new.below;
      last = next_batch old;
      next = [];
      offered = old.offered ++ next_batch old ∷ [];
    }) × ((settled_of past_of new ≡ content_of past_of old) × (new.has_failed ≡ false))).
    (empty_commit past_of old new ready done.within all.0 (done.sound.ready all.1.1) all.1.0 empty) in
    record {
      ok = done.settled;
      none = on_ok _ _ r (λ is. ap (λ (v : JournalValue g.row.B.Denot). v.next) is) done.ok;
      sound = on_ok _ _ r (λ is. (good, is)) still;
      synced = on_ok _ _ r (λ is. (done.sound.ready is).synced) still;
      places = λ empty. on_ok _ _ r (λ all. (closed empty all).0) both;
      areas = λ empty. on_ok _ _ r (λ all. (closed empty all).1) both;
      last = on_ok _ _ r (λ is. ap (λ (v : JournalValue g.row.B.Denot). v.last) is) done.ok;
      quiet = done.counts.none;
      err = done.unsettled;
      last_stays = on_err _ _ r (λ is. ap (λ (v : JournalValue g.row.B.Denot). v.last) is) done.err;
      kept = on_err _ _ r (λ is. ap (λ (v : JournalValue g.row.B.Denot). v.next) is) done.err;
      failed = on_err _ _ r (λ is. ap (λ (v : JournalValue g.row.B.Denot). v.has_failed) is) done.err;
      any_moment = λ _. either_left past_of old ready new offered done.within;
      offered = record { next = λ _. offered; none = λ not. absurd (not (c.if-can_commit.ensures.can refl)) };
      before = λ _. leaves_before p.shape (MayWrite p.shape ((p.number + 1) % 2) old.last.entries) (past_of p.below) (past_of new.below)
          (not_by_commit p.shape ((p.number + 1) % 2) old.last.entries) done.within;
      holds = λ _. keeps_batch p.shape old.last (settled_of past_of old) (past_of p.below) (past_of new.below) ready.stands done.within;
      refused = λ was. absurd (false≢true (sym good ∙ was));
      can = on_ok_always _ r (c.if-can_commit.ensures.can refl);
      untouched = λ not. absurd (not (c.if-can_commit.ensures.can refl));
      back = done.back;
      shape = shape;
      fails = on_err _ _ r (λ rises. inr (inr rises)) done.counts.failed;
      counts = counts_with _ _ _ _ r done.counts refused;
    })

pub returns-else-can_commit : goal.returns-else-can_commit
returns-else-can_commit g c =
    rw (← c.self.view_is) (
    let past_of = g.B.Blocks.past_of in
    let p = c.self.inside.parts in
    record {
      ok = tt;
      none = tt;
      sound = tt;
      synced = tt;
      places = λ _. tt;
      areas = λ _. tt;
      last = tt;
      quiet = tt;
      err = refl;
      last_stays = refl;
      kept = refl;
      failed = refl;
      any_moment = λ good. nothing_left past_of (value_of p) (c.self.invariant.ready good)
          (record (value_of p) { has_failed = true; refused = c.saturating_add-self-inside.result }) refl refl;
      offered = record {
        next = λ can. ⊎_elim (λ was. absurd (false≢true (sym can.0 ∙ was))) (λ most. absurd (omega (arith, can.1, most)))
            (c.if-can_commit.ensures.cannot refl);
        none = λ _. refl;
      };
      before = λ good. none_before p.shape (past_of p.below) (c.self.invariant.ready good).synced;
      holds = λ good.
          let ready = c.self.invariant.ready good in
          none_batch p.shape (value_of p).last (past_of p.below) ready.stands.inside ready.stands.here ready.synced;
      refused = λ was. ap (λ (b : Bool). record (value_of p) { has_failed = b; refused = c.saturating_add-self-inside.result }) (sym was);
      can = tt;
      untouched = λ _. refl;
      back = refl;
      shape = refl;
      fails = ⊎_elim (λ was. inl was) (λ most. inr (inl most)) (c.if-can_commit.ensures.cannot refl);
      counts = counts_refused (g.B.Blocks.failures p.below) p.refused c.saturating_add-self-inside.result _ (omega arith) c.saturating_add-self-inside.ensures;
    })

use Rattle.std.proofs.Common.{◌≡◌, ◌⊎◌, inl, inr, ⊎_elim, ◌-◌, ◌^◌, ◌%◌, ℕ, true, false, Err, Some, sym, ◌∙◌, ap, subst, arith}
use Rattle.std.proofs.lemmas.Bool.{false≢true}
use Rattle.std.proofs.lemmas.Result.{err_from_is_err_and}
use Rattle.sector_device.specs.DevicePast.{Rises}
use Rattle.block_device.specs.Blocks.{CrashFile}
use Rattle.block_device.proofs.Moments.{joined}
use Rattle.block_batch.specs.Batch.{Batch}
use Rattle.block_journal.specs.declared.shape.Shape.{Shape}
use Rattle.block_journal.specs.Layout.{IsInside, found}
use Rattle.block_journal.specs.Journal.{KeepsBatch, LeavesBefore, NeedsNoArea}
use Rattle.block_journal.specs.Value.{CanCommit, JournalValue, LeavesEither, Offers, failures_of, next_batch, settled_of}
use Rattle.block_journal.proofs.Results.{on_err, on_ok, on_ok_always}
use Rattle.block_table.specs.Checked.{CheckedValue}
use Rattle.block_file.specs.Settling.{HasBatch}
use Rattle.block_file.proofs.NewFile.{leaves_weaker}
use Rattle.block_file.proofs.HandingOn.{Handed, all_handed, before_joined, first_handed, has_one, second_handed, stands_now}
use Rattle.block_file.proofs.settling.settle.Goals as goal

pub gather_last-requires : goal.gather_last-requires
gather_last-requires g c = c.requires.none

pub close-requires : goal.close-requires
close-requires g c = c.in_ok-commit.ensures.none

pub returns-in_err-commit : goal.returns-in_err-commit
returns-in_err-commit g c =
    let p = err_from_is_err_and c.from_residual.result c.from_residual.ensures.1 in
    let h = g.B.Blocks.past_of in
    let F = g.B.Blocks.failures in
    let old : CheckedValue g.row.B.Denot = c.args.checked.now in
    let v : JournalValue g.row.B.Denot = old.journal in
    let w : JournalValue g.row.B.Denot = c.commit.new.self.journal in
    let rest = c.gather_last.ensures.rest in
    let is = ap (λ (x : CheckedValue g.row.B.Denot). x.journal) rest in
    let all = c.commit.ensures in
    let done = c.in_err-commit.ensures in
    let here = c.stands.ensures in
    let good = c.requires.good in
    let good_now = ap (λ (j : JournalValue g.row.B.Denot). j.has_failed) is ∙ good in
    let now = stands_now (h v.below).file v.offered v.shape (settled_of h v) (here.synced good) (here.honest good) (here.survives good) in
    let holds = subst (λ (j : JournalValue g.row.B.Denot). KeepsBatch j.shape j.last (h j.below) (h w.below)) is (all.holds good_now) in
    rw (p.1 ∙ ap Err p.2) (record {
      settled = done.err ∙ ap (λ (j : JournalValue g.row.B.Denot). settled_of h j) is;
      none = tt;
      sound = tt;
      areas = tt;
      safe = tt;
      offered = tt;
      counted = tt;
      fails = ⊎_elim (λ was. absurd (false≢true (sym good ∙ was))) (⊎_elim (λ most. inl (omega (arith, most))) (λ up. inr up))
          (subst (λ (j : JournalValue g.row.B.Denot). (j.has_failed ≡ true) ⊎ (j.last.number ≡ 2 ^ 64 - 1) ⊎ Rises (F j.below) (F w.below)) is done.fails);
      back = all.back ∙ ap (λ (j : JournalValue g.row.B.Denot). g.B.Blocks.written_back j.below) is;
      hands = record {
        stays = first_handed h v w good (here.last good) now (subst (λ (j : JournalValue g.row.B.Denot). LeavesEither h j w) is (all.any_moment good_now))
            (subst (λ (j : JournalValue g.row.B.Denot). Offers j w) is all.offered) holds
            (subst (λ (j : JournalValue g.row.B.Denot). ¬ CanCommit j → w.below ≡ j.below) is all.untouched);
        before = subst (λ (j : JournalValue g.row.B.Denot). LeavesBefore j.shape (h j.below) (h w.below)) is (all.before good_now);
        holds = leaves_weaker (h v.below) (h w.below) (λ l. IsInside v.shape l × (found v.shape l (v.last.number % 2) ≡ Some v.last))
            (λ l. IsInside v.shape l × HasBatch v.shape l) (has_one v.shape v.last) holds;
      };
      shape = all.shape ∙ ap (λ (j : JournalValue g.row.B.Denot). j.shape) is;
      blocks = all.blocks ∙ ap (λ (x : CheckedValue g.row.B.Denot). x.blocks) rest;
    })

pub returns : goal.returns
returns g c =
    let h = g.B.Blocks.past_of in
    let F = g.B.Blocks.failures in
    let old : CheckedValue g.row.B.Denot = c.args.checked.now in
    let v : JournalValue g.row.B.Denot = old.journal in
    let w : JournalValue g.row.B.Denot = c.commit.new.self.journal in
    let n : JournalValue g.row.B.Denot = c.close.new.self.journal in
    let rest = c.gather_last.ensures.rest in
    let is = ap (λ (x : CheckedValue g.row.B.Denot). x.journal) rest in
    let all = c.commit.ensures in
    let done = c.in_ok-commit.ensures in
    let ends = c.close.ensures in
    let r = c.close.result in
    let here = c.stands.ensures in
    let there = c.stands-2.ensures in
    let good = c.requires.good in
    let good_now = ap (λ (j : JournalValue g.row.B.Denot). j.has_failed) is ∙ good in
    let good_then = done.sound.1 in
    let shape : w.shape ≡ v.shape = all.shape ∙ ap (λ (j : JournalValue g.row.B.Denot). j.shape) is in
    let settled : settled_of h w ≡ settled_of h v = done.ok ∙ c.gather_last.ensures.same in
    let now = stands_now (h v.below).file v.offered v.shape (settled_of h v) (here.synced good) (here.honest good) (here.survives good) in
    let now_then = stands_now (h w.below).file w.offered w.shape (settled_of h w) (there.synced good_then) (there.honest good_then)
    (there.survives good_then) in
    let holds = subst (λ (j : JournalValue g.row.B.Denot). KeepsBatch j.shape j.last (h j.below) (h w.below)) is (all.holds good_now) in
    let holds_then = subst (λ (s : Shape). KeepsBatch s w.last (h w.below) (h n.below)) shape (ends.holds good_then) in
    let offers = subst (λ (j : JournalValue g.row.B.Denot). Offers j w) is all.offered in
    let can = subst (λ (j : JournalValue g.row.B.Denot). CanCommit j) is done.can in
    let last = subst (λ (j : JournalValue g.row.B.Denot). w.last ≡ next_batch j) is done.last in
    let quiet : F w.below ≡ F v.below = done.quiet ∙ ap (λ (j : JournalValue g.row.B.Denot). F j.below) is in
    let HasOne = λ (l : CrashFile). IsInside v.shape l × HasBatch v.shape l in
    record {
      settled = ends.settled ∙ settled;
      none = on_ok_always _ r ends.none;
      sound = on_ok _ _ r (λ both. both.1) ends.sound;
      areas = on_ok _ _ r (λ needs. subst (λ (l : CrashFile). NeedsNoArea v.shape (h n.below).file.content l) settled
          (subst (λ (s : Shape). NeedsNoArea s (h n.below).file.content (settled_of h w)) shape needs)) ends.areas;
      safe = ends.synced;
      offered = on_ok _ _ r (λ may. all_handed h v w n can offers last done.none ends.offered may) ends.can;
      counted = on_ok _ _ r (λ same. same ∙ done.counts.none ∙ ap (λ (j : JournalValue g.row.B.Denot). failures_of F j) is) ends.counts.none;
      fails = on_err _ _ r (⊎_elim (λ was. absurd (false≢true (sym good_then ∙ was)))
          (⊎_elim (λ most. inl (omega (arith, most, ap (λ (b : Batch). b.number) last)))
          (λ up. inr (subst (λ (a : ℕ). Rises a (F n.below)) quiet up)))) ends.fails;
      back = ends.back ∙ all.back ∙ ap (λ (j : JournalValue g.row.B.Denot). g.B.Blocks.written_back j.below) is;
      hands = record {
        stays = joined (h v.below) (h w.below) (h n.below) (Handed h v w)
            (first_handed h v w good (here.last good) now (subst (λ (j : JournalValue g.row.B.Denot). LeavesEither h j w) is (all.any_moment good_now))
            offers holds (subst (λ (j : JournalValue g.row.B.Denot). ¬ CanCommit j → w.below ≡ j.below) is all.untouched))
            (second_handed h v w n can offers last done.none ends.offered good_then settled shape now_then (ends.any_moment good_then) ends.untouched);
        before = before_joined v.shape (h v.below) (h w.below) (h n.below)
            (subst (λ (j : JournalValue g.row.B.Denot). LeavesBefore j.shape (h j.below) (h w.below)) is (all.before good_now))
            (subst (λ (s : Shape). LeavesBefore s (h w.below) (h n.below)) shape (ends.before good_then));
        holds = joined (h v.below) (h w.below) (h n.below) HasOne
            (leaves_weaker (h v.below) (h w.below) (λ l. IsInside v.shape l × (found v.shape l (v.last.number % 2) ≡ Some v.last)) HasOne
            (has_one v.shape v.last) holds)
            (leaves_weaker (h w.below) (h n.below) (λ l. IsInside v.shape l × (found v.shape l (w.last.number % 2) ≡ Some w.last)) HasOne
            (has_one v.shape w.last) holds_then);
      };
      shape = ends.shape ∙ shape;
      blocks = ends.blocks ∙ all.blocks ∙ ap (λ (x : CheckedValue g.row.B.Denot). x.blocks) rest;
    }

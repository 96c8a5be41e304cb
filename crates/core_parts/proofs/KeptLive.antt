-- What the cleaner passes over, as steps that keep live entries.
use Rattle.std.proofs.Common.{◌≡◌, ◌<◌, ◌≤◌, ◌+◌, ℕ, List, [], ◌∷◌, ◌++◌, length, length-append, Option, Some, None, false, true}
use Rattle.std.proofs.Common.{refl, sym, ap, subst, ◌∙◌, arith}
use Rattle.std.proofs.Math.Logic.{∥∥₁_map}
use Rattle.std.proofs.lemmas.Bool.{false≢true}
use Rattle.std.specs.FinMap.{get}
use Rattle.record_values.specs.declared.pair.Mark.{Mark}
use Rattle.record_values.specs.declared.pair.Mark.TheVariants.{Live, Marked}
use Rattle.record_values.specs.declared.pair.Pair.{Pair}
use Rattle.model.specs.Pairs.{is_indexed}
use Rattle.record_values.specs.Entries.{Index}
use Rattle.marked_index.specs.Passing.{IsBehindLive, IsLiveNext, IsLivePath}
use Rattle.core_model.specs.Events.{Cleaner, Event, Kept}
use Rattle.core_parts.specs.Passing.{HasKept, HasPassedRun, PassesLive}
use Rattle.core_parts.specs.Private.{MayClean}
use Rattle.core_parts.specs.View.{CoreValue, IsSafe, Serves}
use Rattle.core_parts.proofs.Cleaning.{keep_serves}
use Rattle.core_parts.proofs.Due.{stays_safe}

-- ---- a walk over live entries

joined : (index : Index) (start mid end : Option Pair) (ps qs : List Pair) → IsLivePath index start ps mid → IsLivePath index mid qs end
    → IsLivePath index start (ps ++ qs) end
joined index start mid end [] qs first rest = subst (λ (o : Option Pair). IsLivePath index o qs end) first rest
joined index start mid end (p ∷ ps) qs first rest = (first.0, joined index (Some p) mid end ps qs first.1 rest)

-- the cleaner passed over so many runs at least
pub record IsOnWay (v : CoreValue) (runs : ℕ) (new : CoreValue) : Type 0 where
  pub place : Option Pair
  pub passed : List Pair
  pub path : IsLivePath v.index.entries v.cleaned passed place
  pub many : runs ≤ length passed
  pub moved : new ≡ record v { cleaned = place }

pub way_begun : (v : CoreValue) → IsOnWay v 0 v
way_begun v = record { place = v.cleaned; passed = []; path = refl; many = omega arith; moved = refl }

pub way_more : (v mid new : CoreValue) (runs : ℕ) → IsOnWay v runs mid → HasPassedRun mid new → IsOnWay v (runs + 1) new
way_more v mid new runs on run =
    let here : HasPassedRun (record v { cleaned = on.place }) new = subst (λ (m : CoreValue). HasPassedRun m new) on.moved run in
    record {
      place = Some here.0;
      passed = on.passed ++ here.1.passed;
      path = joined v.index.entries v.cleaned on.place (Some here.0) on.passed here.1.passed on.path here.1.path;
      many = omega (arith, length-append on.passed here.1.passed, on.many, here.1.some);
      moved = here.2;
    }

-- ---- what the machine makes of it

not_marked : (v : CoreValue) (p : Pair) → get v.index.entries p ≡ Some Live → MayClean v p → ⊥
not_marked v p live may = apart (sym live ∙ may.marked)
  where
    apart : (◌≡◌ {A = Option Mark} (Some Live) (Some Marked)) → ⊥
    apart e = absurd cc

path_kept : (v : CoreValue) → is_indexed v.life ≡ true → (ps : List Pair) (place : Option Pair) → IsLivePath v.index.entries v.cleaned ps place
    → HasKept v ps (record v { cleaned = place })
path_kept v indexed [] place path = ap (λ (o : Option Pair). record v { cleaned = o }) path
path_kept v indexed (p ∷ ps) place path = (
  path.0.1,
  keep_serves v indexed p (Live, path.0) (not_marked v p path.0.1),
  path_kept (record v { cleaned = Some p }) indexed ps place path.1,
)

module _ (v new : CoreValue) (runs least : ℕ) (indexed : is_indexed v.life ≡ true) (on : IsOnWay v runs new) where
  passes_by : (length on.passed < least → IsLiveNext v.index.entries on.place → ⊥) → PassesLive v least new
  passes_by far = subst (PassesLive v least) (sym on.moved) (record {
    passed = on.passed;
    kept = path_kept v indexed on.passed on.place on.path;
    far = λ few next. far few next.1;
  })

  -- there it came before an entry that isn't live
  pub way_ended : (IsLiveNext new.index.entries new.cleaned → ⊥) → PassesLive v least new
  way_ended none = passes_by (λ few next. subst (λ (m : CoreValue). IsLiveNext m.index.entries m.cleaned → ⊥) on.moved none next)

  pub way_done : least ≤ runs → PassesLive v least new
  way_done all = passes_by (λ few next. absurd (omega (arith, few, on.many, all)))

-- without an index there is nothing to pass over
pub passes_none : (v : CoreValue) (least : ℕ) → is_indexed v.life ≡ false → PassesLive v least v
passes_none v least none = record { passed = []; kept = refl; far = λ few next. false≢true (sym none ∙ next.0) }

kept_safe : (old new : CoreValue) (ps : List Pair) → HasKept old ps new → IsSafe old → IsSafe new
kept_safe old new [] kept safe = subst IsSafe (sym kept) safe
kept_safe old new (p ∷ ps) kept safe = kept_safe (record old { cleaned = Some p }) new ps kept.2
    (stays_safe old Event.Clean (Cleaner (Kept p)) (record old { cleaned = Some p }) kept.1 safe)

-- and what the core keeps stays true
pub passed_safe : (old new : CoreValue) (least : ℕ) → PassesLive old least new → ∥ IsSafe old ∥₁ → ∥ IsSafe new ∥₁
passed_safe old new least passes safe = ∥∥₁_map safe (kept_safe old new passes.passed passes.kept)

-- Sets that have every page of their runs.
use Rattle.std.proofs.Common.{◌≡◌, ◌≢◌, ℕ, zero, suc, ◌/◌, ◌%◌, Bool, true, false, List, [], ◌∷◌, ◌++◌, Some, replicate, slice_get, option_and_then}
use Rattle.std.proofs.Common.{sym, ap, ◌∙◌}
use Rattle.record_values.specs.declared.rid.TheConstants.{SLOTS_PER_PAGE}
use Rattle.heap_pages.specs.Pages.{AreAllOpen}

abbrev pub AreWholeRuns : List (List Bool) → Type 0
AreWholeRuns [] = Unit {0}
AreWholeRuns (run ∷ sets) = (run ≡ replicate SLOTS_PER_PAGE true) × AreWholeRuns sets

pub AreWholeRuns-push : (sets : List (List Bool)) (new : List Bool) → AreWholeRuns sets → new ≡ replicate SLOTS_PER_PAGE true
    → AreWholeRuns (sets ++ new ∷ [])
AreWholeRuns-push [] new whole e = (e, tt)
AreWholeRuns-push (run ∷ sets) new whole e = (whole.0, AreWholeRuns-push sets new whole.1 e)

none_out : (k r : ℕ) → slice_get (replicate k true) r ≢ Some false
none_out zero r e = absurd cc
none_out (suc k) zero e = absurd cc
none_out (suc k) (suc r) e = none_out k r e

in_each : (sets : List (List Bool)) (m r : ℕ) → AreWholeRuns sets → option_and_then (λ (l : List Bool). slice_get l r) (slice_get sets m) ≢ Some false
in_each [] m r whole e = absurd cc
in_each (run ∷ sets) zero r whole e = none_out SLOTS_PER_PAGE r (ap (λ (l : List Bool). slice_get l r) (sym whole.0) ∙ e)
in_each (run ∷ sets) (suc m) r whole e = in_each sets m r whole.1 e

pub all_open_of : (sets : List (List Bool)) → AreWholeRuns sets → AreAllOpen sets
all_open_of sets whole n e = in_each sets (n / SLOTS_PER_PAGE) (n % SLOTS_PER_PAGE) whole e

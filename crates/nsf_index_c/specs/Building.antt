-- The build.
use Rattle.std.specs.Prelude.{◌≡◌, ◌⊎◌, ◌++◌, ◌+◌, ℕ, List, [], ◌∷◌, length, true, false}
use Rattle.std.specs.Prelude.{IfErr, IfOk, Option, Some, None, Result, Ok, Err}
use Rattle.record_values.specs.Refusals.{number_of}
use Rattle.record_values.specs.declared.error.Error.{Error}
use Rattle.record_values.specs.declared.pair.Pair.{Pair}
use Rattle.online_model.specs.World as step
use Rattle.online_model.specs.World.{World, after}
use Rattle.online_index.specs.Builds.{AreStepsDue, HasMadeRun, IsCount, IsStop, notes_of_all}
use Rattle.online_index.specs.Pages.{IsPage}
use Rattle.online_index.specs.Standing.{StandsFor}
use Rattle.online_index.specs.Value.{IsRefusal}
use Rattle.online_index.specs.declared.build.BuildStep.{BuildStep}
use Rattle.online_index.specs.declared.build.Stop.{Stop}
use Rattle.online_index.specs.declared.build.Stop.TheVariants as stop
use Rattle.sorted_scan.specs.Scans.{page_from}
use Rattle.nsf_index_c.specs.Pairs.{IsPair}
use Rattle.nsf_index_c.specs.Seen.{Seen}
use Rattle.nsf_index_c.specs.declared.building.Built.{Built}
use Rattle.nsf_index_c.specs.declared.pair.PairOfC.{PairOfC}

-- ---- steps

-- what is told of a run of steps: its refusal or 0, why it ended, and the page that is wanted
abbrev pub told_built : Result Stop Error → Built
told_built (Ok stop.Most) = record { status = 0; stop = 1; page = 0 }
told_built (Ok (stop.WantsPage page)) = record { status = 0; stop = 2; page = page }
told_built (Ok stop.Complete) = record { status = 0; stop = 3; page = 0 }
told_built (Err e) = record { status = number_of e; stop = 0; page = 0 }

-- Steps of the builder were made, one after another, each the one that was due, and their notes wait: at most so many,
-- fewer where a page is wanted, the index is complete, or one was refused.
pub record HasBuilt (most : ℕ) (result : Result Stop Error) (v w : Seen) : Type 0 where
  pub made : (world : World) → StandsFor v.index world
      → (n : ℕ) × IsCount result most n × HasMadeRun world n v.waiting w.waiting w.index
  pub due : (replies : List BuildStep) × AreStepsDue v.index replies w.index × IsCount result most (length replies)
      × (w.waiting ≡ v.waiting ++ notes_of_all replies)
  pub stop : IfOk result (λ stop. IsStop stop w.index)
  pub refused : IfErr result (IsRefusal w.index)
  pub rest : w ≡ record v { index = w.index; waiting = w.waiting }

-- the index is to be reopened first; or a run of steps came to this result, which is told
abbrev pub Builds : ℕ → Built → Seen → Seen → Type 0
Builds most built v w =
    ((v.is_redone ≡ true) × (built ≡ record { status = 30; stop = 0; page = 0 }) × (w ≡ v))
    ⊎ ((v.is_redone ≡ false) × ((result : Result Stop Error) × (built ≡ told_built result) × HasBuilt most result v w))

-- ---- pages

-- whether a page is wanted is told, and which
abbrev pub TellsWanted : Option ℕ → ℕ → ℕ → Type 0
TellsWanted None page is_wanted = (page ≡ 0) × (is_wanted ≡ 0)
TellsWanted (Some wanted) page is_wanted = (page ≡ wanted) × (is_wanted ≡ 1)

-- each of C's pairs is one, and these are they
abbrev pub ArePairs : List PairOfC → List Pair → Type 0
ArePairs [] [] = Unit {0}
ArePairs [] (p ∷ ps) = ⊥
ArePairs (c ∷ cs) [] = ⊥
ArePairs (c ∷ cs) (p ∷ ps) = IsPair c p × ArePairs cs ps

-- they are not the pairs of this page
abbrev pub IsNoPage : ℕ → List PairOfC → Type 0
IsNoPage page cs = (ps : List Pair) → ArePairs cs ps → ¬ IsPage page ps

-- the page was taken: it was the one that was wanted, and the next one is wanted now
pub record IsTaken (page : ℕ) (pairs : List Pair) (v w : Seen) : Type 0 where
  pub was_wanted : v.index.scan.wanted ≡ Some page
  pub page_is : IsPage page pairs
  pub wanted : w.index.scan.wanted ≡ page_from v.index.scan.pages (page + 1)
  pub index : w.index ≡ record v.index {
    scan = record v.index.scan { wanted = w.index.scan.wanted; waiting = w.index.scan.waiting };
  }
  pub rest : w ≡ record v { index = w.index }
  pub stands : (world : World) → StandsFor v.index world → StandsFor w.index (after world (step.TakePage page pairs))

-- why it was not: the index is to be reopened first, memory was refused, these are not the pairs of the page, or it is
-- not the page that is wanted
abbrev pub IsNotTaken : ℕ → List PairOfC → ℕ → Seen → Type 0
IsNotTaken page cs n v = ((n ≡ 30) × (v.is_redone ≡ true))
    ⊎ ((v.is_redone ≡ false) × ((n ≡ 1) ⊎ ((n ≡ 24) × IsNoPage page cs)
    ⊎ ((n ≡ 25) × (¬ (v.index.scan.wanted ≡ Some page)))))

-- it was taken, or not
abbrev pub TakesPage : ℕ → List PairOfC → ℕ → Seen → Seen → Type 0
TakesPage page cs status v w = ((status ≡ 0) × (v.is_redone ≡ false)
    × ((ps : List Pair) × ArePairs cs ps × IsTaken page ps v w))
    ⊎ (IsNotTaken page cs status v × (w ≡ v))

-- The cells of a world are what an index that stands for it holds, and what is redone after a stop.
use Rattle.std.proofs.Common.{Bool, None, Option, Some, [], ap, arith, false, if◌then◌else◌, nat_lt, refl, rules, sym, true, ℕ, ◌<◌, ◌≡◌}
use Rattle.std.proofs.lemmas.Bool.Decides.{nat_tests}
use Rattle.std.specs.FinMap.{empty}
use Rattle.record_values.specs.declared.pair.Pair.{Pair}
use Rattle.online_index.specs.Standing.{StandsFor}
use Rattle.online_index.specs.Value.{IndexValue, held_by, reopened}
use Rattle.online_model.specs.Keeping.{IsCreated}
use Rattle.online_model.specs.Logs.{Cells, cells_of}
use Rattle.online_model.specs.World.{Reopen, World, after, highest_of}
use Rattle.online_model.specs.declared.life.Life.TheVariants.{Building}
use Rattle.sorted_scan.specs.Scans.{HasRun, begun, begun_run}

abbrev pub no_cells : Cells
no_cells = record { entries = empty; life = Building None }

pub created_cells : (w : World) → IsCreated w → cells_of w ≡ no_cells
created_cells w c = λ j. record { entries = c.empty j; life = c.life j }

pub held_cells : (v : IndexValue) (w : World) → StandsFor v w → cells_of w ≡ held_by v
held_cells v w h = λ j. record { entries = h.entries j; life = h.life j }

-- a scan that has begun has made the run that has done nothing
some_pages : (pages : ℕ) → nat_lt 0 pages ≡ true → 0 < pages
some_pages pages e = grind (arith, nat_tests)

no_pages : (pages n : ℕ) → nat_lt 0 pages ≡ false → n < pages → ⊥
no_pages pages n e l = grind (arith, nat_tests)

begun_by : (start : Option Pair) (pages : ℕ) (some : Bool) → nat_lt 0 pages ≡ some
    → HasRun (record { pages = pages; last = start; wanted = if some then Some 0 else None; waiting = [] }) (begun_run start pages)
begun_by start pages true e = record {
  pages = refl;
  last_is = refl;
  in_turn = tt;
  wanted = (refl, some_pages pages e);
  taken = λ n l b. absurd (omega (arith, b));
  given = search rules;
  left = λ q l b m a. absurd (omega (arith, b));
}
begun_by start pages false e = record {
  pages = refl;
  last_is = refl;
  in_turn = tt;
  wanted = tt;
  taken = λ n l b. absurd (no_pages pages n e l);
  given = search rules;
  left = λ q l b m a. absurd (no_pages pages q.rid.page e l);
}

begun_has : (start : Option Pair) (pages : ℕ) → HasRun (begun start pages) (begun_run start pages)
begun_has start pages = begun_by start pages (nat_lt 0 pages) refl

-- an index that holds the cells of a world stands, reopened, for that world reopened
pub reopened_stands : (w : World) (v : IndexValue) → held_by v ≡ cells_of w → StandsFor (reopened v w.pages) (after w Reopen)
reopened_stands w v h = record {
  entries = sym (ap (λ (c : Cells). c.entries) h);
  life = sym (ap (λ (c : Cells). c.life) h);
  pages = refl;
  bound = ap (λ (c : Cells). highest_of c.life) (sym h);
  run = begun_run (highest_of v.life) w.pages;
  made = begun_has (highest_of v.life) w.pages;
  read_with = λ p. refl;
  read_without = λ p. refl;
}

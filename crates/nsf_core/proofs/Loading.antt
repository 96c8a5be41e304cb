-- A core into which an entry or a life is loaded stands for some state.
use Rattle.std.proofs.Common.{None, Option, Some, ap, arith, false, inl, inr, refl, subst, sym, true≢false, ℕ, ◌+◌, ◌<◌, ◌∙◌, ◌≡◌, ◌≢◌, ◌≤◌}
use Rattle.std.specs.FinMap.{get, len}
use Rattle.record_values.specs.Maps.{get-set_at_other, pair_exact, set_at}
use Rattle.record_values.specs.declared.pair.Mark.{Mark}
use Rattle.record_values.specs.declared.pair.Pair.{Pair}
use Rattle.model.specs.declared.life.Life.{Life}
use Rattle.model.specs.declared.life.Life.TheVariants.{Building}
use Rattle.txn_table.specs.Table as table
use Rattle.sorted_scan.specs.Scans.{HasRun, begun, begun_run}
use Rattle.core_model.proofs.Laws.{not_none, pair_decided}
use Rattle.core_model.specs.Histories.{highest_of}
use Rattle.core_model.specs.Invariants.{IsWellFormed}
use Rattle.core_model.specs.States.{State}
use Rattle.core_model.specs.Steps.{all_reserved}
use Rattle.core_model.specs.Events.{Standing}
use Rattle.core_parts.specs.View.{AreOne, CoreValue, IsSafe, Shows}
use Rattle.nsf_core.specs.Loading.{IsLifeInside, IsQuiet, IsPairInside, entry_loaded, life_loaded}

module _ (v : CoreValue) (quiet : IsQuiet v) (safe : IsSafe v) where
  abbrev s : State
  s = safe.state

  abbrev k : Standing
  k = safe.standing

  abbrev h : Shows v s k
  h = safe.is.shown

  abbrev fit : IsWellFormed s
  fit = safe.is.fit

  nobody : (t : ℕ) → s.txns t ≡ None
  nobody t = subst (λ es. AreOne (table.state_of t es) (s.txns t)) quiet (h.txns t)

  module _ (p : Pair) (mark : Option Mark) (inside : IsPairInside v p) (room : len (set_at v.index.entries p mark) + v.index.pledged ≤ v.index.capacity) where
    abbrev s' : State
    s' = record s { entries = set_at s.entries p mark }

    room_is : len (set_at s.entries p mark) + all_reserved s.pledges ≤ s.places
    room_is = sums _ _ _ _ _ _ (ap (λ m. len (set_at m p mark)) h.entries) h.pledged h.places room
      where
        sums : (a b c a' b' c' : ℕ) → a ≡ a' → b ≡ b' → c ≡ c' → a' + b' ≤ c' → a + b ≤ c
        sums a b c a' b' c' e f g l = omega (arith, e, f, g, l)

    entries_inside : (q : Pair) → get s'.entries q ≢ None → q.rid.page < s.pages
    entries_inside q there = elim (pair_decided q p) [
      | inl same ↦ subst (λ (x : Pair). x.rid.page < s.pages) (sym same) (subst (λ n. p.rid.page < n) (sym h.pages) inside)
      | inr other ↦ fit.inside.entries q (λ e. there (get-set_at_other pair_exact s.entries p mark q other ∙ e))
    ]

    pub entry_safe : IsSafe (entry_loaded v p mark)
    entry_safe = record {
      state = s';
      standing = k;
      is = record {
        shown = record {
          rows = h.rows;
          entries = ap (λ m. set_at m p mark) h.entries;
          txns = h.txns;
          holder = h.holder;
          pledges = h.pledges;
          pledged = h.pledged;
          life = h.life;
          pages = h.pages;
          scan_pages = h.scan_pages;
          places = h.places;
          cleaned = h.cleaned;
          bound = h.bound;
          scan = record {
            run = h.scan.run;
            made = h.scan.made;
            given = h.scan.given;
            missed = h.scan.missed;
            taken = h.scan.taken;
            in_a_row = h.scan.in_a_row;
            untaken = h.scan.untaken;
          };
          made = h.made;
          begun = h.begun;
          active = h.active;
          attempts = h.attempts;
          all_attempts = h.all_attempts;
          commits = h.commits;
        };
        fit = record {
          rows = fit.rows;
          held = fit.held;
          txns = fit.txns;
          places = record { fits = room_is; enough = λ t x e. absurd (not_none e (nobody t)) };
          inside = record { entries = entries_inside; bound = fit.inside.bound; highest = fit.inside.highest; given = fit.inside.given };
          pledged = fit.pledged;
        };
        standing = record {
          begun = safe.is.standing.begun;
          in_a_row = safe.is.standing.in_a_row;
          taken = safe.is.standing.taken;
          once = record { given = safe.is.standing.once.given; missed = safe.is.standing.once.missed };
          tried = safe.is.standing.tried;
          counts =
              record { active = safe.is.standing.counts.active; few = safe.is.standing.counts.few; ended = safe.is.standing.counts.ended };
          within =
              safe.is.standing.within;
        };
        counted = safe.is.counted;
      };
    }

  module _ (life : Life) (inside : IsLifeInside v life) (run : HasRun (begun (highest_of life) v.heap.pages) (begun_run (highest_of life) v.heap.pages)) where
    abbrev s'' : State
    s'' = record s { life = life; bound = highest_of life; given = λ p. false; missed = λ p. false; taken = λ n. false }

    abbrev k'' : Standing
    k'' = record k { attempts = 0; scanned = 0 }

    highest_is : (l : Life) (p : Pair) → highest_of l ≡ Some p → l ≡ Building (Some p)
    highest_is l p e = by l e
      where
        by : (m : Life) → highest_of m ≡ Some p → m ≡ Building (Some p)
        by Life.Absent f = absurd (not_none f refl)
        by (Building highest) f = ap Building f
        by Life.Complete f = absurd (not_none f refl)

    life_inside : (p : Pair) → life ≡ Building (Some p) → p.rid.page < s.pages
    life_inside p e = subst (λ n. p.rid.page < n) (sym h.pages) (inside p e)

    pub life_safe : IsSafe (life_loaded v life)
    life_safe = record {
      state = s'';
      standing = k'';
      is = record {
        shown = record {
          rows = h.rows;
          entries = h.entries;
          txns = h.txns;
          holder = h.holder;
          pledges = h.pledges;
          pledged = h.pledged;
          life = refl;
          pages = h.pages;
          scan_pages = refl;
          places = h.places;
          cleaned = h.cleaned;
          bound = refl;
          scan = record {
            run = begun_run (highest_of life) v.heap.pages;
            made = run;
            given = λ p. refl;
            missed = λ p. refl;
            taken = λ n. refl;
            in_a_row = refl;
            untaken = λ page n wanted le. refl;
          };
          made = h.made;
          begun = h.begun;
          active = h.active;
          attempts = refl;
          all_attempts = h.all_attempts;
          commits = h.commits;
        };
        fit = record {
          rows = fit.rows;
          held = fit.held;
          txns = λ t x e. absurd (not_none e (nobody t));
          places = record { fits = fit.places.fits; enough = λ t x e. absurd (not_none e (nobody t)) };
          inside = record {
            entries = fit.inside.entries;
            bound = λ p e. life_inside p (highest_is life p e);
            highest = life_inside;
            given = λ p e.
                absurd (true≢false (sym e));
          };
          pledged = fit.pledged;
        };
        standing = record {
          begun = safe.is.standing.begun;
          in_a_row = omega arith;
          taken = λ n less. absurd (omega (arith, less));
          once = record { given = λ p e. absurd (true≢false (sym e)); missed = λ p e. absurd (true≢false (sym e)) };
          tried = λ one.
              absurd (omega (arith, one));
          counts = record {
            active = safe.is.standing.counts.active;
            few = safe.is.standing.counts.few;
            ended = safe.is.standing.counts.ended;
          };
          within = safe.is.standing.within;
        };
        counted = safe.is.counted;
      };
    }

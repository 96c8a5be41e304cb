-- Each step keeps the rule of the board.
use Rattle.std.proofs.Common.{◌≡◌, ◌≢◌, ℕ, zero, suc, ◌≤◌, max, Bool, true, false, eqb, List, [], ◌∷◌, ◌++◌, length, set, get_or, refl, sym, ap, ◌∙◌, subst}
use Rattle.std.proofs.Common.{inl, inr, ⊎_elim, le_refl, le_trans, arith}
use mathlib.Core.Logic.{dite}
use mathlib.Core.Option.{none, some, some-ne-none, some-injective}
use native.Mathlib.Decide.{ℕ_discrete}
use lib.ListN.{get_elem?}
use Rattle.atomic_table.specs.Table.{State, Me, step, keeps, stepped, Allows, Splits, Joins, opening}
use Rattle.atomic_table.proofs.Lists.{at_set, set_else, at_longer}
use Rattle.board.specs.declared.knowledge.Knowledge.{Knowledge}
use Rattle.board.specs.declared.knowledge.Note.{Note}
use Rattle.board.specs.Views.{IsNoted, part_ways}
use Rattle.board.specs.Rule.{Posted, flag, horizon_of, mark_of, words_of, Fits, SomeStops, AllApart, IsBoardKept, first_view, spent_view}
use Rattle.board.specs.Steps.{without_builder, builder_of, without_reader, reader_of, staying, leaving, seen_by, flushed_by, built_by, informed, with_horizon}
use Rattle.board.specs.Steps.{NotesMark, RaisesHorizon, RaisesProgress, SetsFailed, SetsStop, ReadsHorizon, ReadsMark, ReadsProgress, ReadsFailed, HearsStop}
use Rattle.board.specs.Steps.{ReadsStop, Compares}
use Rattle.board.proofs.Names.{off, at_end, apart_set, apart_end, apart_cut}

at_here : {A : Type 0} (l : List A) (i : ℕ) (a b : A) → get_elem? l i ≡ some a → get_elem? (set l i b) i ≡ some b
at_here [] i a b e = absurd (some-ne-none a (sym e))
at_here (x ∷ xs) zero a b e = refl
at_here (x ∷ xs) (suc i) a b e = at_here xs i a b e

-- a view changes, and still says that its holder has set the flag if it did
stops_on : (views : List Knowledge) (seat : ℕ) (v w : Knowledge) → get_elem? views seat ≡ some v → (v.stops ≡ true → w.stops ≡ true) → SomeStops views
    → SomeStops (set views seat w)
stops_on views seat v w at keep (j, u, there, did) =
    dite (ℕ_discrete j seat)
    (λ (same : j ≡ seat). let is : u ≡ v = some-injective u v (sym there ∙ (ap (get_elem? views) same ∙ at)) in
    (seat, w, at_here views seat v w at, keep (ap (λ (x : Knowledge). x.stops) (sym is) ∙ did)))
    (λ (apart : j ≢ seat). (j, u, set_else views seat j w apart ∙ there, did))

abbrev FitsAll : Posted → ℕ → ℕ → List Knowledge → Type 0
FitsAll b flusher builder views = (seat : ℕ) (v : Knowledge) → get_elem? views seat ≡ some v → Fits b flusher builder seat v

-- one view is new, and the others fit what is posted now
fits_set : (b b' : Posted) (flusher builder builder' : ℕ) (views : List Knowledge) (seat : ℕ) (w : Knowledge)
    → ((j : ℕ) (u : Knowledge) → j ≢ seat → Fits b flusher builder j u → Fits b' flusher builder' j u)
    → FitsAll b flusher builder views → Fits b' flusher builder' seat w → FitsAll b' flusher builder' (set views seat w)
fits_set b b' flusher builder builder' views seat w others fits mine j u e =
    ⊎_elim
    (λ (x : (j ≡ seat) × (w ≡ u)). subst (λ (y : ℕ × Knowledge). Fits b' flusher builder' y.0 y.1) (λ i. (sym x.0 i, x.1 i)) mine)
    (λ (x : (j ≢ seat) × (get_elem? views j ≡ some u)). others j u x.0 (fits j u x.1))
    (at_set views seat j w u e)

abbrev Seated : Type 0
Seated = Me (Unit {0}) Knowledge

abbrev Table : Type 0
Table = State (Unit {0}) Knowledge

-- the step of one view, from what was posted to b
moved : (s : Table) (k : IsBoardKept s) (seat i n : ℕ) (c : List (ℕ × Unit {0})) (v w : Knowledge) (b : Posted) → get_elem? s.views seat ≡ some v
    → set s.words i n ≡ words_of b
    → ((j : ℕ) (u : Knowledge) → j ≢ seat → Fits k.posted k.flusher k.builder j u → Fits b k.flusher k.builder j u) → Fits b k.flusher k.builder seat w
    → (b.stopped ≡ true → SomeStops (set s.views seat w)) → w.may_stop ≡ v.may_stop → w.name ≡ v.name → IsBoardKept (stepped s i n seat c w keeps)
moved s k seat i n c v w b at is others mine stops may name = record {
  posted = b;
  flusher = k.flusher;
  builder = k.builder;
  words = is;
  fits = fits_set k.posted b k.flusher k.builder k.builder s.views seat w others k.fits mine;
  stops = stops;
  apart = apart_set s.views seat v w at (λ can. (sym may ∙ can, λ other e. ap (λ (x : List Bool). part_ways x other) name ∙ e)) k.apart;
}

-- a word is stored
written : (s : Table) (k : IsBoardKept s) (i : ℕ) (f : ℕ → ℕ) (b : Posted) → set (words_of k.posted) i (f (get_or (words_of k.posted) i 0)) ≡ words_of b
    → set s.words i (f (get_or s.words i 0)) ≡ words_of b
written s k i f b is = ap (λ (ws : List ℕ). set ws i (f (get_or ws i 0))) k.words ∙ is

-- ---- what is noted

-- a view that has read no mark
none_noted : (notes : List Note) → IsNoted notes 0 0
none_noted [] = (refl, refl)
none_noted (n ∷ notes) = inr (none_noted notes)

-- a horizon that is not above the newest note's, with that note's mark
newest_noted : (notes : List Note) (seen : ℕ) → seen ≤ horizon_of notes → IsNoted notes seen (mark_of notes)
newest_noted [] seen low = (omega arith, refl)
newest_noted (n ∷ notes) seen low = inl (refl, low)

-- what was noted is noted still, as the newest note's horizon rises
raised_noted : (notes : List Note) (to safe mark : ℕ) → horizon_of notes ≤ to → IsNoted notes safe mark → IsNoted (with_horizon notes to) safe mark
raised_noted [] to safe mark rises nothing = inr nothing
raised_noted (n ∷ notes) to safe mark rises (inl here) = inl (here.0, le_trans here.1 rises)
raised_noted (n ∷ notes) to safe mark rises (inr before) = inr before

raised_horizon : (notes : List Note) (to : ℕ) → horizon_of (with_horizon notes to) ≡ to
raised_horizon [] to = refl
raised_horizon (n ∷ notes) to = refl

-- the words say so then
raised_words : (notes : List Note) (to progress : ℕ) (failed stopped : Bool) → to ∷ progress ∷ flag failed ∷ flag stopped ∷ mark_of notes ∷ []
    ≡ words_of record { notes = with_horizon notes to; progress = progress; failed = failed; stopped = stopped }
raised_words [] to progress failed stopped = refl
raised_words (n ∷ notes) to progress failed stopped = refl

-- ---- the steps

pub notes_mark : (slots seat : ℕ) (me : Seated) (mark : ℕ) → me.0.flushes ≡ true
    → Allows IsBoardKept slots seat me 4 (λ _. mark) (λ _. NotesMark (step slots 4 mark 0 none) me mark)
notes_mark slots seat me mark flushes s k _ at _ =
    let v : Knowledge = me.0 in
    let w : Knowledge = record v { notes = record { horizon = v.published; mark = mark } ∷ v.notes } in
    let old = k.fits seat v at in
    let own = old.of_flusher flushes in
    let b : Posted = record k.posted { notes = record { horizon = horizon_of k.posted.notes; mark = mark } ∷ k.posted.notes } in (
      w,
      keeps,
      tt,
      moved s k seat 4 mark me.1 v w b at (written s k 4 (λ _. mark) b refl)
          (λ j u apart fit. record {
            horizon = fit.horizon;
            progress = fit.progress;
            failed = fit.failed;
            stopped = fit.stopped;
            noted = inr fit.noted;
            of_flusher = λ is. absurd (apart ((fit.of_flusher is).0 ∙ sym own.0));
            of_builder = fit.of_builder;
            stops = fit.stops;
          })
          record {
            horizon = old.horizon;
            progress = old.progress;
            failed = old.failed;
            stopped = old.stopped;
            noted = inr old.noted;
            of_flusher = λ _. (own.0, λ i. record { horizon = own.2 i; mark = mark } ∷ own.1 i, own.2, own.3);
            of_builder = old.of_builder;
            stops = old.stops;
          }
          (λ on. stops_on s.views seat v w at (λ did. did) (k.stops on))
          refl
          refl,
      refl,
    )

pub raises_horizon : (slots seat : ℕ) (me : Seated) (n : ℕ) → me.0.flushes ≡ true
    → Allows IsBoardKept slots seat me 0 (λ x. max x n) (RaisesHorizon (step slots 0 n 0 none) me)
raises_horizon slots seat me n flushes s k _ at _ =
    let v : Knowledge = me.0 in
    let w : Knowledge = record v { published = max v.published n; notes = with_horizon v.notes (max v.published n) } in
    let old = k.fits seat v at in
    let own = old.of_flusher flushes in
    let p : Posted = k.posted in
    let to : ℕ = max (horizon_of p.notes) n in
    let b : Posted = record p { notes = with_horizon p.notes to } in
    let is : horizon_of b.notes ≡ to = raised_horizon p.notes to in
    let up : horizon_of p.notes ≤ to = omega arith in
    let rises : horizon_of p.notes ≤ horizon_of b.notes = subst (λ (h : ℕ). horizon_of p.notes ≤ h) (sym is) up in (
      w,
      keeps,
      tt,
      moved s k seat 0 (max (get_or s.words 0 0) n) me.1 v w b at
          (written s k 0 (λ x. max x n) b (raised_words p.notes to p.progress p.failed p.stopped))
          (λ j u apart fit. record {
            horizon = le_trans fit.horizon rises;
            progress = fit.progress;
            failed = fit.failed;
            stopped = fit.stopped;
            noted = raised_noted p.notes to u.safe u.mark up fit.noted;
            of_flusher = λ is. absurd (apart ((fit.of_flusher is).0 ∙ sym own.0));
            of_builder = fit.of_builder;
            stops = fit.stops;
          })
          record {
            horizon = le_trans old.horizon rises;
            progress = old.progress;
            failed = old.failed;
            stopped = old.stopped;
            noted = raised_noted p.notes to v.safe v.mark up old.noted;
            of_flusher = λ _. (
              own.0,
              λ i. with_horizon (own.1 i) (max (own.2 i) n),
              is ∙ ap (λ (x : ℕ). max x n) own.2,
              own.3,
            );
            of_builder = old.of_builder;
            stops = old.stops;
          }
          (λ on. stops_on s.views seat v w at (λ did. did) (k.stops on))
          refl
          refl,
      refl,
    )

pub raises_progress : (slots seat : ℕ) (me : Seated) (n : ℕ) → me.0.builds ≡ true
    → Allows IsBoardKept slots seat me 1 (λ x. max x n) (RaisesProgress (step slots 1 n 0 none) me)
raises_progress slots seat me n builds s k _ at _ =
    let v : Knowledge = me.0 in
    let w : Knowledge = record v { attempts = max v.attempts n } in
    let old = k.fits seat v at in
    let own = old.of_builder builds in
    let b : Posted = record k.posted { progress = max k.posted.progress n } in
    let rises : k.posted.progress ≤ max k.posted.progress n = omega arith in (
      w,
      keeps,
      tt,
      moved s k seat 1 (max (get_or s.words 1 0) n) me.1 v w b at (written s k 1 (λ x. max x n) b refl)
          (λ j u apart fit. record {
            horizon = fit.horizon;
            progress = le_trans fit.progress rises;
            failed = fit.failed;
            stopped = fit.stopped;
            noted = fit.noted;
            of_flusher = fit.of_flusher;
            of_builder = λ is. absurd (apart ((fit.of_builder is).0 ∙ sym own.0));
            stops = fit.stops;
          })
          record {
            horizon = old.horizon;
            progress = le_trans old.progress rises;
            failed = old.failed;
            stopped = old.stopped;
            noted = old.noted;
            of_flusher = old.of_flusher;
            of_builder = λ _. (own.0, ap (λ (x : ℕ). max x n) own.1);
            stops = old.stops;
          }
          (λ on. stops_on s.views seat v w at (λ did. did) (k.stops on))
          refl
          refl,
      refl,
    )

pub sets_failed : (slots seat : ℕ) (me : Seated) → me.0.flushes ≡ true
    → Allows IsBoardKept slots seat me 2 (λ _. 1) (λ _. SetsFailed (step slots 2 1 0 none) me 1)
sets_failed slots seat me flushes s k _ at _ =
    let v : Knowledge = me.0 in
    let w : Knowledge = record v { device_failed = true } in
    let old = k.fits seat v at in
    let own = old.of_flusher flushes in
    let b : Posted = record k.posted { failed = true } in (
      w,
      keeps,
      tt,
      moved s k seat 2 1 me.1 v w b at (written s k 2 (λ _. 1) b refl)
          (λ j u apart fit. record {
            horizon = fit.horizon;
            progress = fit.progress;
            failed = λ _. refl;
            stopped = fit.stopped;
            noted = fit.noted;
            of_flusher = λ is. absurd (apart ((fit.of_flusher is).0 ∙ sym own.0));
            of_builder = fit.of_builder;
            stops = fit.stops;
          })
          record {
            horizon = old.horizon;
            progress = old.progress;
            failed = λ _. refl;
            stopped = old.stopped;
            noted = old.noted;
            of_flusher = λ _. (own.0, own.1, own.2, refl);
            of_builder = old.of_builder;
            stops = old.stops;
          }
          (λ on. stops_on s.views seat v w at (λ did. did) (k.stops on))
          refl
          refl,
      refl,
    )

pub sets_stop : (slots seat : ℕ) (me : Seated) → me.0.may_stop ≡ true → Allows IsBoardKept slots seat me 3 (λ _. 1) (λ _. SetsStop (step slots 3 1 0 none) me 1)
sets_stop slots seat me may s k _ at _ =
    let v : Knowledge = me.0 in
    let w : Knowledge = record v { stopped = true; stops = true } in
    let old = k.fits seat v at in
    let b : Posted = record k.posted { stopped = true } in (
      w,
      keeps,
      tt,
      moved s k seat 3 1 me.1 v w b at (written s k 3 (λ _. 1) b refl)
          (λ j u apart fit. record {
            horizon = fit.horizon;
            progress = fit.progress;
            failed = fit.failed;
            stopped = λ _. refl;
            noted = fit.noted;
            of_flusher = fit.of_flusher;
            of_builder = fit.of_builder;
            stops = fit.stops;
          })
          record {
            horizon = old.horizon;
            progress = old.progress;
            failed = old.failed;
            stopped = λ _. refl;
            noted = old.noted;
            of_flusher = old.of_flusher;
            of_builder = old.of_builder;
            stops = λ _. may;
          }
          (λ _. (seat, w, at_here s.views seat v w at, refl))
          refl
          refl,
      refl,
    )

-- A step that changes no word. The view has seen more.
sees : (s : Table) (k : IsBoardKept s) (seat i : ℕ) (c : List (ℕ × Unit {0})) (v w : Knowledge) → get_elem? s.views seat ≡ some v
    → set (words_of k.posted) i (get_or (words_of k.posted) i 0) ≡ words_of k.posted
    → Fits k.posted k.flusher k.builder seat w → (v.stops ≡ true → w.stops ≡ true) → w.may_stop ≡ v.may_stop → w.name ≡ v.name
    → IsBoardKept (stepped s i (get_or s.words i 0) seat c w keeps)
sees s k seat i c v w at is mine keep may name =
    moved s k seat i (get_or s.words i 0) c v w k.posted at (written s k i (λ x. x) k.posted is) (λ j u apart fit. fit) mine (λ on.
    stops_on s.views seat v w at keep (k.stops on)) may name

pub reads_horizon : (slots seat : ℕ) (me : Seated) → Allows IsBoardKept slots seat me 0 (λ n. n) (ReadsHorizon (step slots 0 0 0 none) me)
reads_horizon slots seat me s k _ at _ =
    let v : Knowledge = me.0 in
    let n : ℕ = get_or s.words 0 0 in
    let w : Knowledge = record v { horizon = n; checked = false } in
    let old = k.fits seat v at in
    let is : n ≡ horizon_of k.posted.notes = ap (λ (ws : List ℕ). get_or ws 0 0) k.words in
    let mine : Fits k.posted k.flusher k.builder seat w =
    record {
      horizon = omega arith;
      progress = old.progress;
      failed = old.failed;
      stopped = old.stopped;
      noted = old.noted;
      of_flusher = old.of_flusher;
      of_builder = old.of_builder;
      stops = old.stops;
    } in
    (w, keeps, tt, sees s k seat 0 me.1 v w at refl mine (λ did. did) refl refl, (omega arith, refl))

pub reads_mark : (slots seat : ℕ) (me : Seated) → Allows IsBoardKept slots seat me 4 (λ n. n) (ReadsMark (step slots 4 0 0 none) me)
reads_mark slots seat me s k _ at _ =
    let v : Knowledge = me.0 in
    let n : ℕ = get_or s.words 4 0 in
    let w : Knowledge = record v { mark = n; safe = v.horizon } in
    let old = k.fits seat v at in
    let is : n ≡ mark_of k.posted.notes = ap (λ (ws : List ℕ). get_or ws 4 0) k.words in
    let mine : Fits k.posted k.flusher k.builder seat w =
    record {
      horizon = old.horizon;
      progress = old.progress;
      failed = old.failed;
      stopped = old.stopped;
      noted = subst (IsNoted k.posted.notes v.horizon) (sym is) (newest_noted k.posted.notes v.horizon old.horizon);
      of_flusher = old.of_flusher;
      of_builder = old.of_builder;
      stops = old.stops;
    } in
    (w, keeps, tt, sees s k seat 4 me.1 v w at refl mine (λ did. did) refl refl, refl)

pub reads_progress : (slots seat : ℕ) (me : Seated) → Allows IsBoardKept slots seat me 1 (λ n. n) (ReadsProgress (step slots 1 0 0 none) me)
reads_progress slots seat me s k _ at _ =
    let v : Knowledge = me.0 in
    let n : ℕ = get_or s.words 1 0 in
    let w : Knowledge = record v { progress = n } in
    let old = k.fits seat v at in
    let is : n ≡ k.posted.progress = ap (λ (ws : List ℕ). get_or ws 1 0) k.words in
    let mine : Fits k.posted k.flusher k.builder seat w =
    record {
      horizon = old.horizon;
      progress = omega arith;
      failed = old.failed;
      stopped = old.stopped;
      noted = old.noted;
      of_flusher = old.of_flusher;
      of_builder = old.of_builder;
      stops = old.stops;
    } in
    (w, keeps, tt, sees s k seat 1 me.1 v w at refl mine (λ did. did) refl refl, (omega arith, refl))

flag_is : (b : Bool) → eqb (flag b) 1 ≡ b
flag_is true = refl
flag_is false = refl

pub reads_failed : (slots seat : ℕ) (me : Seated) → Allows IsBoardKept slots seat me 2 (λ n. n) (ReadsFailed (step slots 2 0 0 none) me)
reads_failed slots seat me s k _ at _ =
    let v : Knowledge = me.0 in
    let n : ℕ = get_or s.words 2 0 in
    let w : Knowledge = record v { failed = eqb n 1; checked = true } in
    let old = k.fits seat v at in
    let is : eqb n 1 ≡ k.posted.failed = ap (λ (ws : List ℕ). eqb (get_or ws 2 0) 1) k.words ∙ flag_is k.posted.failed in
    let mine : Fits k.posted k.flusher k.builder seat w =
    record {
      horizon = old.horizon;
      progress = old.progress;
      failed = λ on. sym is
          ∙ on;
      stopped = old.stopped;
      noted = old.noted;
      of_flusher = old.of_flusher;
      of_builder = old.of_builder;
      stops = old.stops;
    } in
    (w, keeps, tt, sees s k seat 2 me.1 v w at refl mine (λ did. did) refl refl, ((λ on. is ∙ old.failed on), refl))

-- the view with the first name is the only one that may stop
only_first : (views : List Knowledge) (seat : ℕ) (v : Knowledge) → get_elem? views seat ≡ some v → v.may_stop ≡ true → v.name ≡ [] → AllApart views
    → ((j : ℕ) (u : Knowledge) → get_elem? views j ≡ some u → u.stops ≡ true → u.may_stop ≡ true)
    → SomeStops views → v.stops ≡ true
only_first views seat v at may first apart can (j, u, there, did) =
    dite (ℕ_discrete j seat)
    (λ (same : j ≡ seat). let is : u ≡ v = some-injective u v (sym there ∙ (ap (get_elem? views) same ∙ at)) in ap (λ (x : Knowledge). x.stops) (sym is) ∙ did)
    (λ (other : j ≢ seat). off (ap (λ (x : List Bool). part_ways x u.name) (sym first)
    ∙ apart seat j v u (λ (is : seat ≡ j). other (sym is)) at there may (can j u there did)))

pub reads_stop : (slots seat : ℕ) (me : Seated) → me.0.may_stop ≡ true → Allows IsBoardKept slots seat me 3 (λ n. n) (ReadsStop (step slots 3 0 0 none) me)
reads_stop slots seat me may s k _ at _ =
    let v : Knowledge = me.0 in
    let n : ℕ = get_or s.words 3 0 in
    let w : Knowledge = record v { stopped = eqb n 1 } in
    let old = k.fits seat v at in
    let is : eqb n 1 ≡ k.posted.stopped = ap (λ (ws : List ℕ). eqb (get_or ws 3 0) 1) k.words ∙ flag_is k.posted.stopped in
    let mine : Fits k.posted k.flusher k.builder seat w =
    record {
      horizon = old.horizon;
      progress = old.progress;
      failed = old.failed;
      stopped = λ on. sym is
          ∙ on;
      noted = old.noted;
      of_flusher = old.of_flusher;
      of_builder = old.of_builder;
      stops = old.stops;
    } in
    let alone : v.name ≡ [] → eqb n 1 ≡ true → v.stops ≡ true = λ first on.
    only_first s.views seat v at may first k.apart (λ j u there. (k.fits j u there).stops) (k.stops (sym is ∙ on)) in
    (w, keeps, tt, sees s k seat 3 me.1 v w at refl mine (λ did. did) refl refl, ((λ on. is ∙ old.stopped on), alone, refl))

pub hears_stop : (slots seat : ℕ) (me : Seated) → Allows IsBoardKept slots seat me 3 (λ n. n) (HearsStop (step slots 3 0 0 none) me)
hears_stop slots seat me s k _ at _ =
    let v : Knowledge = me.0 in
    let n : ℕ = get_or s.words 3 0 in
    let w : Knowledge = record v { stopped = eqb n 1 } in
    let old = k.fits seat v at in
    let is : eqb n 1 ≡ k.posted.stopped = ap (λ (ws : List ℕ). eqb (get_or ws 3 0) 1) k.words ∙ flag_is k.posted.stopped in
    let mine : Fits k.posted k.flusher k.builder seat w =
    record {
      horizon = old.horizon;
      progress = old.progress;
      failed = old.failed;
      stopped = λ on. sym is
          ∙ on;
      noted = old.noted;
      of_flusher = old.of_flusher;
      of_builder = old.of_builder;
      stops = old.stops;
    } in
    (w, keeps, tt, sees s k seat 3 me.1 v w at refl mine (λ did. did) refl refl, ((λ on. is ∙ old.stopped on), refl))

pub compares : (slots seat : ℕ) (me : Seated) → Allows IsBoardKept slots seat me 0 (λ n. n) (Compares (step slots 0 0 0 none) me)
compares slots seat me s k _ at _ =
    let v : Knowledge = me.0 in
    let old = k.fits seat v at in (
      v,
      keeps,
      tt,
      sees s k seat 0 me.1 v v at refl old (λ did. did) refl refl,
      (
        refl,
        (λ is. let own = old.of_flusher is in (
          let seen = old.horizon in
              omega arith,
          λ on. sym own.3 ∙ old.failed on,
          subst (λ (notes : List Note). IsNoted notes v.safe v.mark) own.1 old.noted,
        )),
        (λ is. let own = old.of_builder is in let seen = old.progress in omega arith),
      ),
    )

-- the first table
pub begins : IsBoardKept (opening (0 ∷ 0 ∷ 0 ∷ 0 ∷ 0 ∷ []) [] first_view)
begins = record { posted = nothing; flusher = 0; builder = 0; words = refl; fits = one; stops = λ on. off on; apart = alone }
  where
    nothing : Posted
    nothing = record { notes = []; progress = 0; failed = false; stopped = false }

    one : FitsAll nothing 0 0 (first_view ∷ [])
    one zero v e =
        subst (Fits nothing 0 0 0) (some-injective first_view v e)
        record {
          horizon = le_refl 0;
          progress = le_refl 0;
          failed = λ on. off on;
          stopped = λ on. off on;
          noted = (refl, refl);
          of_flusher = λ _. (refl, refl, refl, refl);
          of_builder = λ _. (refl, refl);
          stops = λ on. off on;
        }
    one (suc j) v e = absurd (some-ne-none v (sym e))

    alone : AllApart (first_view ∷ [])
    alone zero zero v w differ here there can_v can_w = absurd (differ refl)
    alone zero (suc j) v w differ here there can_v can_w = absurd (some-ne-none w (sym there))
    alone (suc i) j v w differ here there can_v can_w = absurd (some-ne-none v (sym here))

stops_front : (views more : List Knowledge) → SomeStops views → SomeStops (views ++ more)
stops_front views more (j, u, there, did) = (j, u, at_longer views more j u there, did)

-- a view becomes two, which fit
cut : (s : Table) (k : IsBoardKept s) (seat : ℕ) (v left right : Knowledge) (builder : ℕ) → get_elem? s.views seat ≡ some v
    → ((j : ℕ) (u : Knowledge) → j ≢ seat → Fits k.posted k.flusher k.builder j u → Fits k.posted k.flusher builder j u)
    → Fits k.posted k.flusher builder seat left
    → Fits k.posted k.flusher builder (length (set s.views seat left)) right → (v.stops ≡ true → left.stops ≡ true)
    → AllApart (set s.views seat left ++ right ∷ [])
    → IsBoardKept record { words = s.words; homes = s.homes; views = set s.views seat left ++ right ∷ [] }
cut s k seat v left right builder at others mine theirs keep apart =
    let end : ℕ = length (set s.views seat left) in
    let first : FitsAll k.posted k.flusher builder (set s.views seat left) =
    fits_set k.posted k.posted k.flusher k.builder builder s.views seat left others k.fits mine in
    record {
      posted = k.posted;
      flusher = k.flusher;
      builder = builder;
      words = k.words;
      fits = λ j u e. ⊎_elim (first j u) (λ (t : (j ≡ end) × (right ≡ u)).
          subst (λ (y : ℕ × Knowledge). Fits k.posted k.flusher builder y.0 y.1) (λ i. (sym t.0 i, t.1 i)) theirs) (at_end (set s.views seat left) right u j e);
      stops = λ on. stops_front (set s.views seat left) (right ∷ []) (stops_on s.views seat v left at keep (k.stops on));
      apart = apart;
    }

pub cuts_view : (seat : ℕ) (v : Knowledge) → v.may_stop ≡ true → Splits IsBoardKept seat v (staying v) (leaving v)
cuts_view seat v may s k at =
    let old = k.fits seat v at in
    cut s k seat v (staying v) (leaving v) k.builder at (λ j u _ f. f)
    record {
      horizon = old.horizon;
      progress = old.progress;
      failed = old.failed;
      stopped = old.stopped;
      noted = old.noted;
      of_flusher = old.of_flusher;
      of_builder = old.of_builder;
      stops = old.stops;
    }
    record {
      horizon = old.horizon;
      progress = old.progress;
      failed = old.failed;
      stopped = old.stopped;
      noted = old.noted;
      of_flusher = λ on. off on;
      of_builder = λ on. off on;
      stops = λ on. off on;
    }
    (λ did. did)
    (apart_cut s.views seat v at may k.apart)

-- what is cut off may do nothing, and has seen no more than is posted
tells : (seat : ℕ) (v told : Knowledge) → ((b : Posted) (flusher builder : ℕ) → Fits b flusher builder seat v → (j : ℕ) → Fits b flusher builder j told)
    → told.may_stop ≡ false → Splits IsBoardKept seat v v told
tells seat v told fit none_may s k at =
    let old = k.fits seat v at in
    cut s k seat v v told k.builder at (λ j u _ f. f) old (fit k.posted k.flusher k.builder old (length (set s.views seat v))) (λ did. did)
    (apart_end (set s.views seat v) told (apart_set s.views seat v v at (λ can. (can, λ other e. e)) k.apart) (λ j u e can may. off (sym none_may ∙ may)))

pub tells_seen : (seat : ℕ) (v : Knowledge) → Splits IsBoardKept seat v v (seen_by v)
tells_seen seat v =
    tells seat v (seen_by v)
    (λ b flusher builder old j. record {
      horizon = old.horizon;
      progress = old.progress;
      failed = old.failed;
      stopped = old.stopped;
      noted = old.noted;
      of_flusher = λ on. off on;
      of_builder = λ on. off on;
      stops = λ on. off on;
    })
    refl

pub tells_flushed : (seat : ℕ) (v : Knowledge) → v.flushes ≡ true → Splits IsBoardKept seat v v (flushed_by v)
tells_flushed seat v flushes =
    tells seat v (flushed_by v)
    (λ b flusher builder old j.
    let own = old.of_flusher flushes in
    record {
      horizon = omega arith;
      progress = old.progress;
      failed = λ on. own.3
          ∙ on;
      stopped = old.stopped;
      noted = old.noted;
      of_flusher = λ on. off on;
      of_builder = λ on. off on;
      stops = λ on. off on;
    })
    refl

pub tells_built : (seat : ℕ) (v : Knowledge) → v.builds ≡ true → Splits IsBoardKept seat v v (built_by v)
tells_built seat v builds =
    tells seat v (built_by v)
    (λ b flusher builder old j.
    let own = old.of_builder builds in
    record {
      horizon = old.horizon;
      progress = omega arith;
      failed = old.failed;
      stopped = old.stopped;
      noted = old.noted;
      of_flusher = λ on. off on;
      of_builder = λ on. off on;
      stops = λ on. off on;
    })
    refl

pub cuts_builder : (seat : ℕ) (v : Knowledge) → v.builds ≡ true → Splits IsBoardKept seat v (without_builder v) (builder_of v)
cuts_builder seat v builds s k at =
    let old = k.fits seat v at in
    let own = old.of_builder builds in
    let left = without_builder v in
    let right = builder_of v in
    let end : ℕ = length (set s.views seat left) in
    cut s k seat v left right end at
    (λ j u apart f. record {
      horizon = f.horizon;
      progress = f.progress;
      failed = f.failed;
      stopped = f.stopped;
      noted = f.noted;
      of_flusher = f.of_flusher;
      of_builder = λ is. absurd (apart ((f.of_builder is).0 ∙ sym own.0));
      stops = f.stops;
    })
    record {
      horizon = old.horizon;
      progress = old.progress;
      failed = old.failed;
      stopped = old.stopped;
      noted = old.noted;
      of_flusher = old.of_flusher;
      of_builder = λ on. off on;
      stops = old.stops;
    }
    record {
      horizon = old.horizon;
      progress = old.progress;
      failed = old.failed;
      stopped = old.stopped;
      noted = old.noted;
      of_flusher = λ on. off on;
      of_builder = λ _.
          (refl, own.1);
      stops = λ on. off on;
    }
    (λ did. did)
    (apart_end (set s.views seat left) right (apart_set s.views seat v left at (λ can. (can, λ other e. e)) k.apart) (λ j u e can may. off may))

pub cuts_reader : (seat : ℕ) (v : Knowledge) → v.may_stop ≡ true → v.stops ≡ false → Splits IsBoardKept seat v (without_reader v) (reader_of v)
cuts_reader seat v may never s k at =
    let old = k.fits seat v at in
    let left = without_reader v in
    let right = reader_of v in
    cut s k seat v left right k.builder at (λ j u _ f. f)
    record {
      horizon = old.horizon;
      progress = old.progress;
      failed = old.failed;
      stopped = old.stopped;
      noted = old.noted;
      of_flusher = old.of_flusher;
      of_builder = old.of_builder;
      stops = λ did. off (sym never ∙ did);
    }
    record {
      horizon = old.horizon;
      progress = old.progress;
      failed = old.failed;
      stopped = old.stopped;
      noted = old.noted;
      of_flusher = λ on. off on;
      of_builder = λ on. off on;
      stops = λ did. off (sym never ∙ did);
    }
    (λ did. did)
    (apart_end (set s.views seat left) right (apart_set s.views seat v left at (λ can. off can) k.apart) apart)
  where
    apart : (j : ℕ) (u : Knowledge) → get_elem? (set s.views seat (without_reader v)) j ≡ some u → u.may_stop ≡ true → (reader_of v).may_stop ≡ true
        → part_ways (reader_of v).name u.name ≡ true
    apart j u e can _ =
        ⊎_elim
        (λ (x : (j ≡ seat) × (without_reader v ≡ u)). off (ap (λ (y : Knowledge). y.may_stop) x.1 ∙ can))
        (λ (x : (j ≢ seat) × (get_elem? s.views j ≡ some u)). k.apart seat j v u (λ (is : seat ≡ j). x.0 (sym is)) at x.1 may can)
        (at_set s.views seat j (without_reader v) u e)

-- what was told has set no flag, so that nothing is lost with it
pub learns : (seat : ℕ) (v : Knowledge) (other : ℕ) (told : Knowledge) → told.stops ≡ false → Joins IsBoardKept seat v other told (informed v told) spent_view
learns seat v other told never s k at apart there =
    let both = informed v told in
    let was : get_elem? s.views other ≡ some told = sym (set_else s.views seat other both apart) ∙ there in
    let mine = k.fits seat v at in
    let theirs = k.fits other told was in
    let joined : Fits k.posted k.flusher k.builder seat both = record {
      horizon = theirs.horizon;
      progress = theirs.progress;
      failed = theirs.failed;
      stopped = mine.stopped;
      noted = theirs.noted;
      of_flusher = mine.of_flusher;
      of_builder = mine.of_builder;
      stops = mine.stops;
    } in
    let spent : Fits k.posted k.flusher k.builder other spent_view =
    record {
      horizon = omega arith;
      progress = omega arith;
      failed = λ on. off on;
      stopped = λ on. off on;
      noted = none_noted k.posted.notes;
      of_flusher = λ on. off on;
      of_builder = λ on.
          off on;
      stops = λ on. off on;
    } in
    let first : FitsAll k.posted k.flusher k.builder (set s.views seat both) =
    fits_set k.posted k.posted k.flusher k.builder k.builder s.views seat both (λ j u _ f. f) k.fits joined in
    record {
      posted = k.posted;
      flusher = k.flusher;
      builder = k.builder;
      words = k.words;
      fits = fits_set k.posted k.posted k.flusher k.builder k.builder (set s.views seat both) other spent_view (λ j u _ f. f) first spent;
      stops = λ on. stops_on (set s.views seat both) other told spent_view there (λ did. off (sym never ∙ did))
          (stops_on s.views seat v both at (λ did. did) (k.stops on));
      apart = apart_set (set s.views seat both) other told spent_view there (λ can. off can)
          (apart_set s.views seat v both at (λ can. (can, λ name e. e)) k.apart);
    }

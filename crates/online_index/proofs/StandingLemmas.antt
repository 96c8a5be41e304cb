-- What the builder's steps leave stands for the world after them.
use Rattle.std.proofs.Common.{Bool, None, Option, Some, [], ap, false, refl, subst, sym, true, true≢false, ℕ, ◌<◌, ◌∙◌, ◌∷◌, ◌≡◌}
use Rattle.std.specs.FinMap.{get}
use Rattle.record_values.specs.Maps.{set_at}
use Rattle.record_values.specs.Orders.{is_above}
use Rattle.record_values.specs.declared.pair.Mark.{Mark}
use Rattle.record_values.specs.declared.pair.Pair.{Pair}
use Rattle.online_index.proofs.SetEntries.{with_entry}
use Rattle.online_index.specs.Builds.{HasMade, attempt_of, listed, note_of, step_of}
use Rattle.online_index.specs.Standing.{StandsFor}
use Rattle.online_index.specs.Value.{IndexValue}
use Rattle.online_index.specs.declared.build.BuildStep.{BuildStep}
use Rattle.online_model.specs.Logs.{notes_of_attempt}
use Rattle.online_model.specs.World as step
use Rattle.online_model.specs.World.{CanAttempt, CanFinish, IsBuilding, IsEnabled, World, after, built}
use Rattle.online_model.specs.declared.life.Life.TheVariants.{Building, Complete}
use Rattle.online_model.specs.declared.note.Note.TheVariants.{LifeIs}
use Rattle.sorted_scan.specs.Runs.{HandedOut, IsAtEnd, IsSteady, MayHandOut, ScanRun, is_taken, last_pair, with_step}
use Rattle.sorted_scan.specs.Scans.{HasRun, ScanValue, next_of}

unless_false : (b : Bool) → (b ≡ false → ⊥) → b ≡ true
unless_false true h = refl
unless_false false h = absurd (h refl)

module _ (v : IndexValue) (w : World) (h : StandsFor v w) (b : IsBuilding v.life) where
  building : IsBuilding w.life
  building = (b.0, h.life ∙ b.1)

  pages_are : h.run.pages ≡ w.pages
  pages_are = sym h.made.pages ∙ sym h.pages

  bound_is : (q : Pair) → is_above w.bound q ≡ is_above (last_pair h.run) q
  bound_is q = ap (λ o. is_above o q) (h.bound ∙ h.made.last_is)

  -- a pair of a page, which no reading left out, is steady
  steady : ((n : ℕ) → n < h.run.pages → is_taken h.run n ≡ true) → (q : Pair) → q.rid.page < w.pages → w.read_without q ≡ false
      → IsSteady h.run q
  steady all q inside left = record {
    taken = all q.rid.page (subst (λ n. q.rid.page < n) (sym pages_are) inside);
    always = sym (h.read_without q) ∙ left;
  }

  pub attempt_enabled : (p : Pair) → MayHandOut h.run p → CanAttempt w p
  attempt_enabled p next = record {
    building = building;
    read = h.read_with p ∙ next.given;
    rising = bound_is p ∙ next.rising;
    none_between = λ q inside over under. unless_false (w.read_without q) (λ left.
        true≢false (sym under ∙ next.none_between q (steady next.all_taken q inside left) (sym (bound_is q) ∙ over)));
  }

  pub finish_enabled : IsAtEnd h.run → CanFinish w
  finish_enabled end = record {
    building = building;
    none_above = λ q inside over. unless_false (w.read_without q) (λ left.
        true≢false (sym (sym (bound_is q) ∙ over) ∙ end.none_above q (steady end.all_taken q inside left)));
  }

-- the index after an attempt
pub record IsAttempted (v v' : IndexValue) (p : Pair) : Type 0 where
  pub entries : v'.entries ≡ set_at v.entries p (built (get v.entries p))
  pub life : v'.life ≡ v.life
  pub run : (r : ScanRun) → HasRun v.scan r → HasRun v'.scan (with_step r (HandedOut p))
  pub last : v'.scan.last ≡ Some p
  pub pages : v'.scan.pages ≡ v.scan.pages

pub attempted_by : (v u v' : IndexValue) (p : Pair) → u ≡ with_entry v p (built (get v.entries p)) → v'.entries ≡ u.entries → v'.life ≡ u.life
    → ((q : Pair) → next_of u.scan ≡ Some q → (r : ScanRun) → HasRun u.scan r → HasRun v'.scan (with_step r (HandedOut q)))
    → ((q : Pair) → next_of u.scan ≡ Some q → v'.scan ≡ record u.scan { last = Some q; waiting = v'.scan.waiting })
    → next_of v.scan ≡ Some p → IsAttempted v v' p
attempted_by v u v' p put entries life run place next =
    let scan : u.scan ≡ v.scan = ap (λ (x : IndexValue). x.scan) put in
    let next_u : next_of u.scan ≡ Some p = ap next_of scan ∙ next in
    record {
      entries = entries ∙ ap (λ (x : IndexValue). x.entries) put;
      life = life ∙ ap (λ (x : IndexValue). x.life) put;
      run = λ r h. run p next_u r (subst (λ (s : ScanValue). HasRun s r) (sym scan) h);
      last = ap (λ (s : ScanValue). s.last) (place p next_u);
      pages = ap (λ (s : ScanValue). s.pages) (place p next_u) ∙ ap (λ (s : ScanValue). s.pages) scan;
    }

module _ (v v' : IndexValue) (p : Pair) (b : IsBuilding v.life) (may : (r : ScanRun) → HasRun v.scan r → MayHandOut r p)
    (is : IsAttempted v v' p) (w : World) (h : StandsFor v w) where
  attempt_stands : StandsFor v' (after w (step.Attempt p))
  attempt_stands = record {
    entries = ap (λ m. set_at m p (built (get m p))) h.entries ∙ sym is.entries;
    life = h.life ∙ sym is.life;
    pages = h.pages ∙ sym is.pages;
    bound = sym is.last;
    run = with_step h.run (HandedOut p);
    made = is.run h.run h.made;
    read_with = h.read_with;
    read_without = h.read_without;
  }

  noted_by : (o : Option Mark) → get v.entries p ≡ o → HasMade w (step_of (attempt_of p o)) (listed (note_of (attempt_of p o))) v'
  noted_by None e = (
    attempt_enabled v w h b p (may h.run h.made),
    attempt_stands,
    ap (notes_of_attempt p) (sym (ap (λ m. get m p) h.entries ∙ e)),
  )
  noted_by (Some mark) e = (
    attempt_enabled v w h b p (may h.run h.made),
    attempt_stands,
    ap (notes_of_attempt p) (sym (ap (λ m. get m p) h.entries ∙ e)),
  )

  pub attempt_made : (reply : BuildStep) → reply ≡ attempt_of p (get v.entries p) → HasMade w (step_of reply) (listed (note_of reply)) v'
  attempt_made reply e = subst (λ r. HasMade w (step_of r) (listed (note_of r)) v') (sym e) (noted_by (get v.entries p) refl)

module _ (v : IndexValue) (b : IsBuilding v.life) (w : World) (h : StandsFor v w) where
  pub finish_made : IsAtEnd h.run → HasMade w (Some step.Finish) (LifeIs Complete ∷ []) (record v { life = Complete })
  finish_made end = (
    finish_enabled v w h b end,
    record {
      entries = h.entries;
      life = refl;
      pages = h.pages;
      bound = h.bound;
      run = h.run;
      made = h.made;
      read_with = h.read_with;
      read_without = h.read_without;
    },
    refl,
  )

  pub checkpoint_made : (p : Pair) → v.scan.last ≡ Some p → HasMade w (Some step.Checkpoint) (LifeIs (Building (Some p)) ∷ [])
      (record v { life = Building (Some p); attempts = 0 })
  checkpoint_made p last = (
    building v w h b,
    record {
      entries = h.entries;
      life = ap Building (h.bound ∙ last);
      pages = h.pages;
      bound = h.bound;
      run = h.run;
      made = h.made;
      read_with = h.read_with;
      read_without = h.read_without;
    },
    ap (λ o. LifeIs (Building o) ∷ []) (sym (h.bound ∙ last)),
  )

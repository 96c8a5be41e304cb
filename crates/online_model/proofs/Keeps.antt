-- Each step keeps the invariant.
use Rattle.std.proofs.Common.{Bool, List, None, Option, Some, ap, false, inl, inr, nat_eq, not}
use Rattle.std.proofs.Common.{refl, subst, sym, true, true≢false, ℕ, ◌&&◌, ◌||◌, ◌∙◌, ◌≡◌, ◌≢◌}
use Rattle.std.proofs.Common.{◌⊎◌}
use Rattle.std.proofs.lemmas.Bool.Decides.{eqb_tells}
use Rattle.std.specs.FinMap.{get, get-empty}
use Rattle.record_values.specs.Entries.{Index}
use Rattle.record_values.specs.Maps.{get-set_at_other, get-set_at_same, pair_exact, set_at}
use Rattle.record_values.specs.Orders.{is_above, pair_cmp}
use Rattle.record_values.specs.Values.{Place}
use Rattle.record_values.specs.declared.pair.Mark.{Mark}
use Rattle.record_values.specs.declared.pair.Mark.TheVariants.{Live, Marked}
use Rattle.record_values.specs.declared.pair.Pair.{Pair}
use Rattle.online_model.specs.declared.life.Life.{Life}
use Rattle.online_model.specs.declared.life.Life.TheVariants.{Building, Complete}
use Rattle.online_model.proofs.Orders.{above_trans, not_above, not_none, pair_by_test, pair_decided}
use Rattle.online_model.proofs.Orders.{pair_is, rid_decided, same_some, test_by_pair, with_apart, with_here}
use Rattle.online_model.specs.Keeping.{Invariant, IsAhead, IsCovered, IsCreated, IsQuiet, IsToCome, IsVisibleOrAhead, ShowsExactlyTheRows}
use Rattle.online_model.specs.World as step
use Rattle.online_model.specs.World.{CanAttempt, CanClean, CanFinish, IsBuilding, IsEnabled, IsMarkedAt, IsOfRow, IsPassed, IsReadOf, Runs, Step, World}
use Rattle.online_model.specs.World.{after, built, highest_of, is_among, is_put_due, is_pair_of, no_step, one_step, pair_at, with_at}

two_marks : {o : Option Mark} → o ≡ Some Live → o ≡ Some Marked → ⊥
two_marks a b = absurd (cc)

live_marked : Some Marked ≡ Some Live → ⊥
live_marked e = absurd (cc)

apart_lives : {h : Option Pair} → Complete ≡ Building h → ⊥
apart_lives e = absurd (cc)

same_highest : {g h : Option Pair} → Building g ≡ Building h → g ≡ h
same_highest e = cc

-- ---- tests
or_true : (a b : Bool) → (a || b) ≡ true → (a ≡ true) ⊎ (b ≡ true)
or_true true b e = inl refl
or_true false b e = inr e

or_left : (a b : Bool) → a ≡ true → (a || b) ≡ true
or_left true b e = refl
or_left false b e = absurd (true≢false (sym e))

both : (a b : Bool) → a ≡ true → b ≡ true → (a && b) ≡ true
both true b e f = f
both false b e f = e

and_false : (a b : Bool) → a ≡ false → (a && b) ≡ false
and_false true b e = absurd (true≢false e)
and_false false b e = refl

and_right : (a b : Bool) → (a && b) ≡ true → b ≡ true
and_right true b e = e
and_right false b e = absurd (true≢false (sym e))

neither : (a b : Bool) → (a || b) ≡ false → a ≡ false
neither true b e = e
neither false b e = refl

neither_right : (a b : Bool) → (a || b) ≡ false → b ≡ false
neither_right true b e = absurd (true≢false e)
neither_right false b e = e

not_true : (a : Bool) → not a ≡ true → a ≡ true → ⊥
not_true true e f = true≢false (sym e)
not_true false e f = true≢false (sym f)

either_way : (a : Bool) → (a ≡ true → ⊥) → a ≡ false
either_way true n = absurd (n refl)
either_way false n = refl

and_left : (a b : Bool) → (a && b) ≡ true → a ≡ true
and_left true b e = refl
and_left false b e = e

-- ---- the host marks a pair
module _ (w : World) (i : Invariant w) (p : Pair) where
  abbrev marked : Index
  marked = set_at w.entries p (Some Marked)

  mark_here : get marked p ≡ Some Marked
  mark_here = get-set_at_same pair_exact w.entries p (Some Marked)

  mark_other : (q : Pair) → q ≢ p → get marked q ≡ get w.entries q
  mark_other q n = get-set_at_other pair_exact w.entries p (Some Marked) q n

  mark_present : (q : Pair) → get w.entries q ≢ None → get marked q ≢ None
  mark_present q some e = elim (pair_decided q p) [
    | inl same ↦ not_none mark_here (ap (get marked) (sym same) ∙ e)
    | inr n ↦ some (sym (mark_other q n) ∙ e)
  ]

  mark_sound : (q : Pair) → get marked q ≡ Some Live → IsOfRow w q
  mark_sound q e = elim (pair_decided q p) [
    | inl same ↦ absurd (live_marked (sym mark_here ∙ (ap (get marked) (sym same) ∙ e)))
    | inr n ↦ i.sound q (sym (mark_other q n) ∙ e)
  ]

  abbrev busy' : Place → Bool
  busy' = with_at w.busy p.rid (is_pair_of (w.rows p.rid) p || w.busy p.rid)

  busy_here : busy' p.rid ≡ (is_pair_of (w.rows p.rid) p || w.busy p.rid)
  busy_here = with_here w.busy p.rid (is_pair_of (w.rows p.rid) p || w.busy p.rid)

  busy_apart : (q : Place) → q ≢ p.rid → busy' q ≡ w.busy q
  busy_apart q n = with_apart w.busy p.rid (is_pair_of (w.rows p.rid) p || w.busy p.rid) q n

  mark_same : (q : Pair) → q ≢ p → IsVisibleOrAhead w q → IsVisibleOrAhead (after w (step.Mark p)) q
  mark_same q n h = elim h [
    | inl live ↦ inl (mark_other q n ∙ live)
    | inr x ↦ inr (mark_other q n ∙ x.0, ahead_same w.life q x.1)
  ]
    where
      ahead_same : (life : Life) (q : Pair) → IsAhead w life q → IsAhead (after w (step.Mark p)) life q
      ahead_same (Building h) q a = record { above = a.above; always = a.always; inside = a.inside }
      ahead_same Complete q a = a

  not_it : (key : List ℕ) → w.rows p.rid ≡ Some key → busy' p.rid ≡ false → pair_at p.rid key ≢ p
  not_it key e quiet same =
      true≢false (sym (test_by_pair (w.rows p.rid) p (e ∙ ap (λ (q : Pair). Some q.key) same))
      ∙ neither (is_pair_of (w.rows p.rid) p) _ (sym busy_here ∙ quiet))

  was_quiet : busy' p.rid ≡ false → w.busy p.rid ≡ false
  was_quiet quiet = neither_right (is_pair_of (w.rows p.rid) p) _ (sym busy_here ∙ quiet)

  mark_visible : (r : Place) (key : List ℕ) → w.rows r ≡ Some key → busy' r ≡ false → IsVisibleOrAhead (after w (step.Mark p)) (pair_at r key)
  mark_visible r key e quiet = elim (rid_decided r p.rid) [
    | inl same ↦
        let here : busy' p.rid ≡ false = ap busy' (sym same) ∙ quiet in
        let there : w.rows p.rid ≡ Some key = ap w.rows (sym same) ∙ e in
        subst (λ (q : Place). IsVisibleOrAhead (after w (step.Mark p)) (pair_at q key)) (sym same)
        (mark_same (pair_at p.rid key) (not_it key there here) (i.visible p.rid key there (was_quiet here)))
    | inr n ↦ mark_same (pair_at r key) (λ same. n (ap (λ (q : Pair). q.rid) same)) (i.visible r key e (sym (busy_apart r n) ∙ quiet))
  ]

  pub mark_keeps : Invariant (after w (step.Mark p))
  mark_keeps = record {
    sound = mark_sound;
    visible = mark_visible;
    backed = λ h b q g a. elim (i.backed h b q g a) [ inl is ↦ inl is | inr some ↦ inr (mark_present q some) ];
    read_with = i.read_with;
    read_without = i.read_without;
    checkpoint = i.checkpoint;
  }

-- ---- the host puts the pair of a row
module _ (w : World) (i : Invariant w) (p : Pair) (is : IsOfRow w p) where
  abbrev put : Index
  put = set_at w.entries p (Some Live)

  put_here : get put p ≡ Some Live
  put_here = get-set_at_same pair_exact w.entries p (Some Live)

  put_other : (q : Pair) → q ≢ p → get put q ≡ get w.entries q
  put_other q n = get-set_at_other pair_exact w.entries p (Some Live) q n

  abbrev settled : Place → Bool
  settled = with_at w.busy p.rid false

  put_sound : (q : Pair) → get put q ≡ Some Live → IsOfRow w q
  put_sound q e = elim (pair_decided q p) [
    | inl same ↦ subst (IsOfRow w) (sym same) is
    | inr n ↦ i.sound q (sym (put_other q n) ∙ e)
  ]

  put_same : (q : Pair) → q ≢ p → IsVisibleOrAhead w q → IsVisibleOrAhead (after w (step.Put p)) q
  put_same q n h = elim h [
    | inl live ↦ inl (put_other q n ∙ live)
    | inr x ↦ inr (put_other q n ∙ x.0, ahead_same w.life q x.1)
  ]
    where
      ahead_same : (life : Life) (q : Pair) → IsAhead w life q → IsAhead (after w (step.Put p)) life q
      ahead_same (Building h) q a = record { above = a.above; always = a.always; inside = a.inside }
      ahead_same Complete q a = a

  put_visible : (r : Place) (key : List ℕ) → w.rows r ≡ Some key → settled r ≡ false → IsVisibleOrAhead (after w (step.Put p)) (pair_at r key)
  put_visible r key e quiet = elim (rid_decided r p.rid) [
    | inl same ↦ inl (ap (get put) (pair_is p r key (same_some e (ap w.rows same ∙ is)) (sym same)) ∙ put_here)
    | inr n ↦ put_same (pair_at r key) (λ same. n (ap (λ (q : Pair). q.rid) same)) (i.visible r key e (sym (with_apart w.busy p.rid false r n) ∙ quiet))
  ]

  put_present : (q : Pair) → get w.entries q ≢ None → get put q ≢ None
  put_present q some e = elim (pair_decided q p) [
    | inl same ↦ not_none put_here (ap (get put) (sym same) ∙ e)
    | inr n ↦ some (sym (put_other q n) ∙ e)
  ]

  pub put_keeps : Invariant (after w (step.Put p))
  put_keeps = record {
    sound = put_sound;
    visible = put_visible;
    backed = λ h b q g a. elim (i.backed h b q g a) [ inl of_row ↦ inl of_row | inr some ↦ inr (put_present q some) ];
    read_with = i.read_with;
    read_without = i.read_without;
    checkpoint = i.checkpoint;
  }

-- ---- the host changes a row
module _ (w : World) (i : Invariant w) (r : Place) (key : Option (List ℕ)) (can : IsMarkedAt w r) where
  abbrev changed : World
  changed = after w (step.Change r key)

  row_here : changed.rows r ≡ key
  row_here = with_here w.rows r key

  row_apart : (q : Place) → q ≢ r → changed.rows q ≡ w.rows q
  row_apart q n = with_apart w.rows r key q n

  -- the pair that the row had is not visible, and above the builder it has an entry
  old_pair : (q : Pair) → q.rid ≡ r → IsOfRow w q → (get w.entries q ≡ Some Marked) ⊎ (get w.entries q ≡ None) × IsPassed w.life q
  old_pair q same is =
      subst (λ p. (get w.entries p ≡ Some Marked) ⊎ (get w.entries p ≡ None) × IsPassed w.life p)
      (pair_is q r q.key refl same) (can q.key (ap w.rows (sym same) ∙ is))

  old_unseen : (q : Pair) → q.rid ≡ r → IsOfRow w q → get w.entries q ≡ Some Live → ⊥
  old_unseen q same is live = elim (old_pair q same is) [ inl marked ↦ absurd (two_marks live marked) | inr gone ↦ absurd (not_none live gone.0) ]

  old_there : (h : Option Pair) → w.life ≡ Building h → (q : Pair) → q.rid ≡ r → IsOfRow w q → is_above w.bound q ≡ true → get w.entries q ≢ None
  old_there h b q same is a none = elim (old_pair q same is) [
    | inl marked ↦ not_none marked none
    | inr gone ↦ true≢false (sym (i.checkpoint h b q a) ∙ subst (λ life. IsPassed life q) b gone.1)
  ]

  change_sound : (q : Pair) → get w.entries q ≡ Some Live → IsOfRow changed q
  change_sound q live = elim (rid_decided q.rid r) [
    | inl same ↦ absurd (old_unseen q same (i.sound q live) live)
    | inr n ↦ row_apart q.rid n ∙ i.sound q live
  ]

  owed : (k : List ℕ) → key ≡ Some k → changed.busy r ≡ false → ⊥
  owed k e quiet = true≢false (ap is_put_due (sym e) ∙ (sym (with_here w.busy r (is_put_due key)) ∙ quiet))

  -- a row's pair is still what it was at each moment
  still_always : (q : Place) (k : List ℕ) → changed.rows q ≡ Some k → w.held_always (pair_at q k) ≡ true → changed.held_always (pair_at q k) ≡ true
  still_always q k e a = both (w.held_always (pair_at q k)) _ a (test_by_pair (changed.rows q) (pair_at q k) e)

  ahead_still : (q : Place) (k : List ℕ) → changed.rows q ≡ Some k → (life : Life) → IsAhead w life (pair_at q k) → IsAhead changed life (pair_at q k)
  ahead_still q k e (Building h) a = record { above = a.above; always = still_always q k e a.always; inside = a.inside }
  ahead_still q k e Complete a = a

  visible_still : (q : Place) (k : List ℕ) → changed.rows q ≡ Some k → IsVisibleOrAhead w (pair_at q k) → IsVisibleOrAhead changed (pair_at q k)
  visible_still q k e h = elim h [ inl live ↦ inl live | inr x ↦ inr (x.0, ahead_still q k e w.life x.1) ]

  change_visible : (q : Place) (k : List ℕ) → changed.rows q ≡ Some k → changed.busy q ≡ false → IsVisibleOrAhead changed (pair_at q k)
  change_visible q k e quiet = elim (rid_decided q r) [
    | inl same ↦ absurd (owed k (sym row_here ∙ (ap changed.rows (sym same) ∙ e)) (ap changed.busy (sym same) ∙ quiet))
    | inr n ↦ visible_still q k e (i.visible q k (sym (row_apart q n) ∙ e) (sym (with_apart w.busy r (is_put_due key) q n) ∙ quiet))
  ]

  had_before : (h : Option Pair) → w.life ≡ Building h → (q : Pair) → w.held_once q ≡ true → is_above w.bound q ≡ true
      → IsOfRow changed q ⊎ (get w.entries q ≢ None)
  had_before h b q g a = elim (i.backed h b q g a) [
    | inl is ↦ elim (rid_decided q.rid r) [
      | inl same ↦ inr (old_there h b q same is a)
      | inr n ↦ inl (row_apart q.rid n ∙ is)
    ]
    | inr some ↦ inr some
  ]

  change_backed : (h : Option Pair) → w.life ≡ Building h → (q : Pair) → changed.held_once q ≡ true → is_above w.bound q ≡ true
      → IsOfRow changed q ⊎ (get w.entries q ≢ None)
  change_backed h b q g a = elim (or_true (w.held_once q) _ g) [
    | inl before ↦ had_before h b q before a
    | inr now ↦ inl (pair_by_test (changed.rows q.rid) q now)
  ]

  pub change_keeps : Invariant changed
  change_keeps = record {
    sound = change_sound;
    visible = change_visible;
    backed = change_backed;
    read_with = λ p g. or_left (w.held_once p) _ (i.read_with p g);
    read_without = λ p m. and_false (w.held_always p) _ (i.read_without p m);
    checkpoint = i.checkpoint;
  }

-- ---- the builder takes a page
module _ (w : World) (i : Invariant w) (n : ℕ) (pairs : List Pair) (is : IsReadOf w n pairs) where
  abbrev taken : World
  taken = after w (step.TakePage n pairs)

  ahead_as : (life : Life) (p : Pair) → IsAhead w life p → IsAhead taken life p
  ahead_as (Building h) p a = record { above = a.above; always = a.always; inside = a.inside }
  ahead_as Complete p a = a

  take_visible : (p : Pair) → IsVisibleOrAhead w p → IsVisibleOrAhead taken p
  take_visible p h = elim h [ inl live ↦ inl live | inr x ↦ inr (x.0, ahead_as w.life p x.1) ]

  taken_read_with : (p : Pair) → taken.read_with p ≡ true → w.held_once p ≡ true
  taken_read_with p g = elim (or_true (is_among p pairs) _ g) [ inl now ↦ is.each p now | inr before ↦ i.read_with p before ]

  taken_read_without : (p : Pair) → taken.read_without p ≡ true → w.held_always p ≡ false
  taken_read_without p m = elim (or_true (nat_eq p.rid.page n && not (is_among p pairs)) _ m) [
    | inl now ↦ either_way (w.held_always p) (λ a. not_true (is_among p pairs) (and_right (nat_eq p.rid.page n) _ now)
        (is.all p (same_page p (and_left (nat_eq p.rid.page n) _ now)) a))
    | inr before ↦ i.read_without p before
  ]
    where
      same_page : (p : Pair) → nat_eq p.rid.page n ≡ true → p.rid.page ≡ n
      same_page p e = elim (eqb_tells p.rid.page n) [ inl same ↦ same.1 | inr other ↦ absurd (true≢false (sym e ∙ other.0)) ]

  pub take_keeps : Invariant taken
  take_keeps = record {
    sound = i.sound;
    visible = λ r key e quiet. take_visible (pair_at r key) (i.visible r key e quiet);
    backed = i.backed;
    read_with = taken_read_with;
    read_without = taken_read_without;
    checkpoint = i.checkpoint;
  }

-- ---- the builder attempts a pair
module _ (w : World) (i : Invariant w) (p : Pair) (can : CanAttempt w p) where
  abbrev attempted : World
  attempted = after w (step.Attempt p)

  abbrev entries' : Index
  entries' = set_at w.entries p (built (get w.entries p))

  attempt_here : get entries' p ≡ built (get w.entries p)
  attempt_here = get-set_at_same pair_exact w.entries p (built (get w.entries p))

  attempt_other : (q : Pair) → q ≢ p → get entries' q ≡ get w.entries q
  attempt_other q n = get-set_at_other pair_exact w.entries p (built (get w.entries p)) q n

  present_stays : (q : Pair) (mark : Mark) → get w.entries q ≡ Some mark → get entries' q ≡ Some mark
  present_stays q mark e = elim (pair_decided q p) [
    | inl same ↦ ap (get entries') same ∙ attempt_here ∙ ap (built) (ap (get w.entries) (sym same) ∙ e)
    | inr n ↦ attempt_other q n ∙ e
  ]

  placed_is : (q : Pair) (o : Option Mark) → get w.entries p ≡ o → built o ≡ Some Live → q ≡ p → IsOfRow w q
  placed_is q None e l same = elim (i.backed can.building.0 can.building.1 p (i.read_with p can.read) can.rising) [
    | inl is ↦ subst (IsOfRow w) (sym same) is
    | inr some ↦ absurd (some e)
  ]
  placed_is q (Some mark) e l same = i.sound q (ap (get w.entries) same ∙ e ∙ l)

  attempt_sound : (q : Pair) → get entries' q ≡ Some Live → IsOfRow w q
  attempt_sound q e = elim (pair_decided q p) [
    | inl same ↦ placed_is q (get w.entries p) refl (sym attempt_here ∙ ap (get entries') (sym same) ∙ e) same
    | inr n ↦ i.sound q (sym (attempt_other q n) ∙ e)
  ]

  -- a pair ahead of the builder is the one attempted, or stays ahead
  attempt_ahead : (q : Pair) → get w.entries q ≡ None → IsToCome w q → IsVisibleOrAhead attempted q
  attempt_ahead q none a = elim (pair_decided q p) [
    | inl same ↦ inl (ap (get entries') same ∙ attempt_here ∙ ap (built) (ap (get w.entries) (sym same) ∙ none))
    | inr n ↦ inr (
      attempt_other q n ∙ none,
      subst (λ life. IsAhead attempted life q) (sym can.building.1) (record {
        above = later (is_above (Some p) q) refl n;
        always = a.always;
        inside = a.inside;
      }),
    )
  ]
    where
      later : (b : Bool) → is_above (Some p) q ≡ b → q ≢ p → is_above (Some p) q ≡ true
      later true e n = e
      later false e n = elim (not_above p q e) [
        | inl same ↦ absurd (n same)
        | inr below ↦ absurd (true≢false (sym a.always ∙ i.read_without q (can.none_between q a.inside a.above below)))
      ]

  attempt_visible : (q : Pair) → IsVisibleOrAhead w q → IsVisibleOrAhead attempted q
  attempt_visible q h = elim h [
    | inl live ↦ inl (present_stays q Live live)
    | inr x ↦ attempt_ahead q x.0 (subst (λ life. IsAhead w life q) can.building.1 x.1)
  ]

  still_none : (q : Pair) (o : Option Mark) → get w.entries q ≡ o → get entries' q ≡ None → get w.entries q ≡ None
  still_none q None k e = k
  still_none q (Some mark) k e = absurd (not_none (present_stays q mark k) e)

  attempt_backed : (h : Option Pair) → w.life ≡ Building h → (q : Pair) → w.held_once q ≡ true → is_above (Some p) q ≡ true
      → IsOfRow w q ⊎ (get entries' q ≢ None)
  attempt_backed h b q g a = elim (i.backed h b q g (above_trans w.bound p q can.rising a)) [
    | inl is ↦ inl is
    | inr some ↦ inr (λ e. some (still_none q (get w.entries q) refl e))
  ]

  pub attempt_keeps : Invariant attempted
  attempt_keeps = record {
    sound = attempt_sound;
    visible = λ r key e quiet. attempt_visible (pair_at r key) (i.visible r key e quiet);
    backed = attempt_backed;
    read_with = i.read_with;
    read_without = i.read_without;
    checkpoint = λ h b q a. i.checkpoint h b q (above_trans w.bound p q can.rising a);
  }

-- ---- the builder's place is recorded
module _ (w : World) (i : Invariant w) (b : IsBuilding w.life) where
  abbrev recorded : World
  recorded = after w step.Checkpoint

  recorded_visible : (p : Pair) → IsVisibleOrAhead w p → IsVisibleOrAhead recorded p
  recorded_visible p h = elim h [
    | inl live ↦ inl live
    | inr x ↦
        let a : IsToCome w p = subst (λ life. IsAhead w life p) b.1 x.1 in
        inr (x.0, record { above = a.above; always = a.always; inside = a.inside })
  ]

  pub checkpoint_keeps : Invariant recorded
  checkpoint_keeps = record {
    sound = i.sound;
    visible = λ r key e quiet. recorded_visible (pair_at r key) (i.visible r key e quiet);
    backed = λ h e p g a. i.backed b.0 b.1 p g a;
    read_with = i.read_with;
    read_without = i.read_without;
    checkpoint = λ h e p a. subst (λ o. is_above o p ≡ true) (same_highest e) a;
  }

-- ---- the index is complete
module _ (w : World) (i : Invariant w) (can : CanFinish w) where
  abbrev finished : World
  finished = after w step.Finish

  finished_visible : (p : Pair) → IsVisibleOrAhead w p → IsVisibleOrAhead finished p
  finished_visible p h = elim h [
    | inl live ↦ inl live
    | inr x ↦
        let a : IsToCome w p = subst (λ life. IsAhead w life p) can.building.1 x.1 in
        absurd (true≢false (sym a.always ∙ i.read_without p (can.none_above p a.inside a.above)))
  ]

  pub finish_keeps : Invariant finished
  finish_keeps = record {
    sound = i.sound;
    visible = λ r key e quiet. finished_visible (pair_at r key) (i.visible r key e quiet);
    backed = λ h e p g a. absurd (apart_lives e);
    read_with = i.read_with;
    read_without = i.read_without;
    checkpoint = λ h e p a. absurd (apart_lives e);
  }

-- ---- the cleaner takes out a marked entry
module _ (w : World) (i : Invariant w) (p : Pair) (can : CanClean w p) where
  abbrev cleaned : World
  cleaned = after w (step.Clean p)

  abbrev fewer : Index
  fewer = set_at w.entries p None

  clean_here : get fewer p ≡ None
  clean_here = get-set_at_same pair_exact w.entries p None

  clean_other : (q : Pair) → q ≢ p → get fewer q ≡ get w.entries q
  clean_other q n = get-set_at_other pair_exact w.entries p None q n

  clean_sound : (q : Pair) → get fewer q ≡ Some Live → IsOfRow w q
  clean_sound q e = elim (pair_decided q p) [
    | inl same ↦ absurd (not_none e (ap (get fewer) same ∙ clean_here))
    | inr n ↦ i.sound q (sym (clean_other q n) ∙ e)
  ]

  ahead_same : (life : Life) (q : Pair) → IsAhead w life q → IsAhead cleaned life q
  ahead_same (Building h) q a = record { above = a.above; always = a.always; inside = a.inside }
  ahead_same Complete q a = a

  -- the pair of a quiet row is not marked
  unmarked : (q : Pair) → q ≡ p → IsVisibleOrAhead w q → ⊥
  unmarked q same h =
      let is : get w.entries q ≡ Some Marked = ap (get w.entries) same ∙ can.marked in
      elim h [ inl live ↦ absurd (two_marks live is) | inr x ↦ absurd (not_none is x.0) ]

  clean_visible : (q : Pair) → IsVisibleOrAhead w q → IsVisibleOrAhead cleaned q
  clean_visible q h = elim (pair_decided q p) [
    | inl same ↦ absurd (unmarked q same h)
    | inr n ↦ elim h [ inl live ↦ inl (clean_other q n ∙ live) | inr x ↦ inr (clean_other q n ∙ x.0, ahead_same w.life q x.1) ]
  ]

  passed_by : (life : Life) → w.life ≡ life → IsPassed life p → (h : Option Pair) → w.life ≡ Building h → is_above w.bound p ≡ true → ⊥
  passed_by (Building o) e k h b a = true≢false (sym (i.checkpoint o e p a) ∙ k)
  passed_by Complete e k h b a = absurd (apart_lives (sym e ∙ b))

  clean_backed : (h : Option Pair) → w.life ≡ Building h → (q : Pair) → w.held_once q ≡ true → is_above w.bound q ≡ true
      → IsOfRow w q ⊎ (get fewer q ≢ None)
  clean_backed h b q g a = elim (pair_decided q p) [
    | inl same ↦ absurd (passed_by w.life refl can.passed h b (ap (is_above w.bound) (sym same) ∙ a))
    | inr n ↦ elim (i.backed h b q g a) [ inl is ↦ inl is | inr some ↦ inr (λ e. some (sym (clean_other q n) ∙ e)) ]
  ]

  pub clean_keeps : Invariant cleaned
  clean_keeps = record {
    sound = clean_sound;
    visible = λ r key e quiet. clean_visible (pair_at r key) (i.visible r key e quiet);
    backed = clean_backed;
    read_with = i.read_with;
    read_without = i.read_without;
    checkpoint = i.checkpoint;
  }

-- ---- the builder begins again above the checkpoint
module _ (w : World) (i : Invariant w) where
  abbrev reopened : World
  reopened = after w step.Reopen

  reopen_ahead : (r : Place) (key : List ℕ) → w.rows r ≡ Some key → (life : Life) → w.life ≡ life → IsAhead w life (pair_at r key)
      → IsAhead reopened life (pair_at r key)
  reopen_ahead r key e (Building h) b a = record {
    above = ap (λ l. is_above (highest_of l) (pair_at r key)) b ∙ i.checkpoint h b (pair_at r key) a.above;
    always = test_by_pair (w.rows r) (pair_at r key) e;
    inside = a.inside;
  }
  reopen_ahead r key e Complete b a = a

  reopen_visible : (r : Place) (key : List ℕ) → w.rows r ≡ Some key → IsVisibleOrAhead w (pair_at r key) → IsVisibleOrAhead reopened (pair_at r key)
  reopen_visible r key e h = elim h [ inl live ↦ inl live | inr x ↦ inr (x.0, reopen_ahead r key e w.life refl x.1) ]

  pub reopen_keeps : Invariant reopened
  reopen_keeps = record {
    sound = i.sound;
    visible = λ r key e quiet. reopen_visible r key e (i.visible r key e quiet);
    backed = λ h b p g a. inl (pair_by_test (w.rows p.rid) p g);
    read_with = λ p g. absurd (true≢false (sym g));
    read_without = λ p m. absurd (true≢false (sym m));
    checkpoint = λ h b p a. sym (ap (λ l. is_above (highest_of l) p) b) ∙ a;
  }

-- ---- all steps
pub step_keeps : (w : World) (e : Step) → Invariant w → IsEnabled w e → Invariant (after w e)
step_keeps w (step.Mark p) i a = mark_keeps w i p
step_keeps w (step.Change r key) i a = change_keeps w i r key a
step_keeps w (step.Put p) i a = put_keeps w i p a
step_keeps w (step.TakePage n pairs) i a = take_keeps w i n pairs a
step_keeps w (step.Attempt p) i a = attempt_keeps w i p a
step_keeps w step.Checkpoint i a = checkpoint_keeps w i a
step_keeps w step.Finish i a = finish_keeps w i a
step_keeps w (step.Clean p) i a = clean_keeps w i p a
step_keeps w step.Reopen i a = reopen_keeps w i

pub run_keeps : (w w' : World) (es : List Step) → Runs w es w' → Invariant w → Invariant w'
run_keeps w w' es no_step i = i
run_keeps w w' es (one_step e rest enabled r) i = run_keeps (after w e) w' rest r (step_keeps w e i enabled)

-- ---- an index that begins
module _ (w : World) (c : IsCreated w) where
  no_entry : (p : Pair) → get w.entries p ≡ None
  no_entry p = ap (λ m. get m p) c.empty ∙ get-empty pair_cmp p

  created_visible : (r : Place) (key : List ℕ) → w.rows r ≡ Some key → IsVisibleOrAhead w (pair_at r key)
  created_visible r key e = inr (
    no_entry (pair_at r key),
    subst (λ life. IsAhead w life (pair_at r key)) (sym c.life) (record {
      above = ap (λ b. is_above b (pair_at r key)) c.bound;
      always = c.held_always (pair_at r key) ∙ test_by_pair (w.rows r) (pair_at r key) e;
      inside = c.inside r key e;
    }),
  )

  pub created_keeps : Invariant w
  created_keeps = record {
    sound = λ p e. absurd (not_none e (no_entry p));
    visible = λ r key e quiet. created_visible r key e;
    backed = λ h b p g a. inl (pair_by_test (w.rows p.rid) p (sym (c.held_once p) ∙ g));
    read_with = λ p g. absurd (true≢false (sym g ∙ c.read_with p));
    read_without = λ p m. absurd (true≢false (sym m ∙ c.read_without p));
    checkpoint = λ h b p a. ap (λ o. is_above o p) (sym (same_highest (sym c.life ∙ b)));
  }

-- ---- what it comes to
module _ (w : World) (i : Invariant w) where
  pub covered : (r : Place) (key : List ℕ) → w.rows r ≡ Some key → w.busy r ≡ false → IsCovered w (pair_at r key)
      → get w.entries (pair_at r key) ≡ Some Live
  covered r key e quiet where_it_is = elim (i.visible r key e quiet) [
    | inl live ↦ live
    | inr x ↦ absurd (elim where_it_is [ inl complete ↦ not_ahead w.life complete x.1 | inr passed ↦ not_above_it w.life refl passed x.1 ])
  ]
    where
      not_ahead : (life : Life) → life ≡ Complete → IsAhead w life (pair_at r key) → ⊥
      not_ahead (Building h) k a = absurd (apart_lives (sym k))
      not_ahead Complete k a = a

      not_above_it : (life : Life) → w.life ≡ life → is_above w.bound (pair_at r key) ≡ false → IsAhead w life (pair_at r key) → ⊥
      not_above_it (Building h) k n a = true≢false (sym a.above ∙ n)
      not_above_it Complete k n a = a

  pub exact : w.life ≡ Complete → IsQuiet w → ShowsExactlyTheRows w
  exact complete quiet p = (i.sound p, λ is. covered p.rid p.key is (quiet p.rid) (inl complete))

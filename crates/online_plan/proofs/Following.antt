-- Worlds that differ in rows and entries alone are followed alike, and what a builder does leaves it following.
use Rattle.std.proofs.Common.{Bool, List, None, Option, Some, [], ap, false, inl, inr, refl, subst, sym, true, true≢false, ℕ, ◌&&◌, ◌++◌, ◌<◌, ◌||◌, ◌∙◌}
use Rattle.std.proofs.Common.{if◌then◌else◌, Err, IfSome, Ok, OnOk, Result, nat_eq, not, ◌∷◌, ◌≡◌, ◌≢◌, ◌⊎◌}
use Rattle.std.specs.Cmp.{Equal-is, tied_itself}
use Rattle.std.specs.Ordering.{eq_by_cmp, is_eq}
use Rattle.record_values.specs.Orders.{is_above, pair_cmp, pair_cmp-IsAntisymmetric, pair_cmp_total}
use Rattle.record_values.specs.declared.pair.Pair.{Pair}
use Rattle.online_index.specs.Standing.{StandsFor}
use Rattle.online_model.specs.World as step
use Rattle.online_model.specs.World.{CanAttempt, CanFinish, IsBuilding, IsEnabled, IsReadOf, Step, World, after, highest_of, is_among}
use Rattle.online_model.specs.Keeping.{IsCreated}
use Rattle.online_model.specs.Logs.{notes_of}
use Rattle.online_model.specs.declared.life.Life.{Life}
use Rattle.online_model.specs.declared.life.Life.TheVariants.{Building, Complete}
use Rattle.online_model.specs.declared.note.Note.TheVariants.{LifeIs}
use Rattle.online_plan.specs.Building.{BuilderValue, CanAttemptAll, Follows, attempted_all, batch_due, checkpoint_due, due_of, life_due}
use Rattle.online_plan.specs.Building.{opened, page_due, pairs_due, step_of}
use Rattle.online_plan.specs.declared.builder.Due.TheVariants as due
use Rattle.online_plan.specs.Plans.{IsOfHost}
use Rattle.sorted_scan.specs.Runs.{HandedOut, IsAtEnd, IsSteady, MayHandOut, ScanRun, Took, is_taken, last_pair, with_step}
use Rattle.sorted_scan.specs.Scans.{HasRun, ScanValue, begun, begun_run, next_of}

-- ---- pairs
pair_by : (p q : Pair) (b : Bool) → eq_by_cmp pair_cmp p q ≡ b → (p ≡ q) ⊎ (p ≢ q)
pair_by p q true e = inl (pair_cmp-IsAntisymmetric p q ((Equal-is (pair_cmp p q)).0 e))
pair_by p q false e = inr (λ same. true≢false (sym (ap is_eq (tied_itself pair_cmp_total p)) ∙ ap (eq_by_cmp pair_cmp p) same ∙ e))

pub pair_decided : (p q : Pair) → (p ≡ q) ⊎ (p ≢ q)
pair_decided p q = pair_by p q _ refl

-- ---- worlds that differ in rows and entries alone
record IsAlike (w w' : World) : Type 0 where
  life : w'.life ≡ w.life
  pages : w'.pages ≡ w.pages
  bound : w'.bound ≡ w.bound
  read_with : (p : Pair) → w'.read_with p ≡ w.read_with p
  read_without : (p : Pair) → w'.read_without p ≡ w.read_without p

attempt_alike : (w w' : World) (p : Pair) → IsAlike w w' → IsAlike (after w (step.Attempt p)) (after w' (step.Attempt p))
attempt_alike w w' p a = record { life = a.life; pages = a.pages; bound = refl; read_with = a.read_with; read_without = a.read_without }

all_alike : (w w' : World) (ps : List Pair) → IsAlike w w' → IsAlike (attempted_all w ps) (attempted_all w' ps)
all_alike w w' [] a = a
all_alike w w' (p ∷ ps) a = all_alike (after w (step.Attempt p)) (after w' (step.Attempt p)) ps (attempt_alike w w' p a)

can_alike : (w w' : World) (p : Pair) → IsAlike w w' → CanAttempt w p → CanAttempt w' p
can_alike w w' p a can = record {
  building = (can.building.0, a.life ∙ can.building.1);
  read = a.read_with p ∙ can.read;
  rising = ap (λ b. is_above b p) a.bound ∙ can.rising;
  none_between = λ q inside over under. a.read_without q ∙ can.none_between q (subst (λ n. q.rid.page < n) a.pages inside)
      (ap (λ b. is_above b q) (sym a.bound) ∙ over) under;
}

can_all_alike : (w w' : World) (ps : List Pair) → IsAlike w w' → CanAttemptAll w ps → CanAttemptAll w' ps
can_all_alike w w' [] a can = tt
can_all_alike w w' (p ∷ ps) a can = (
  can_alike w w' p a can.0,
  can_all_alike (after w (step.Attempt p)) (after w' (step.Attempt p)) ps (attempt_alike w w' p a) can.1,
)

abbrev IndexOf : BuilderValue → ScanValue → World → Type 0
IndexOf v scan w = StandsFor (record { entries = w.entries; capacity = 0; life = v.life; scan = scan; attempts = v.attempts }) w

index_alike : (v : BuilderValue) (scan : ScanValue) (w w' : World) → IsAlike w w' → IndexOf v scan w → IndexOf v scan w'
index_alike v scan w w' a h = record {
  entries = refl;
  life = a.life ∙ h.life;
  pages = a.pages ∙ h.pages;
  bound = a.bound ∙ h.bound;
  run = h.run;
  made = h.made;
  read_with = λ p. a.read_with p ∙ h.read_with p;
  read_without = λ p. a.read_without p ∙ h.read_without p;
}

follows_alike : (v : BuilderValue) (w w' : World) → IsAlike w w' → Follows v w → Follows v w'
follows_alike v w w' a f = record {
  may = can_all_alike w w' v.batch a f.may;
  index = index_alike v v.scan (attempted_all w v.batch) (attempted_all w' v.batch) (all_alike w w' v.batch a) f.index;
}

host_alike : (w : World) (e : Step) → IsOfHost e → IsAlike w (after w e)
host_alike w (step.Mark p) i = record { life = refl; pages = refl; bound = refl; read_with = λ p. refl; read_without = λ p. refl }
host_alike w (step.Change r key) i = record { life = refl; pages = refl; bound = refl; read_with = λ p. refl; read_without = λ p. refl }
host_alike w (step.Put p) i = record { life = refl; pages = refl; bound = refl; read_with = λ p. refl; read_without = λ p. refl }
host_alike w (step.Clean p) i = record { life = refl; pages = refl; bound = refl; read_with = λ p. refl; read_without = λ p. refl }
host_alike w (step.TakePage page pairs) i = absurd i
host_alike w (step.Attempt p) i = absurd i
host_alike w step.Checkpoint i = absurd i
host_alike w step.Finish i = absurd i
host_alike w step.Reopen i = absurd i

pub host_goes : (v : BuilderValue) (w : World) (e : Step) → Follows v w → IsOfHost e → Follows v (after w e)
host_goes v w e f i = follows_alike v w (after w e) (host_alike w e i) f

-- ---- a pair is gathered
module _ (v : BuilderValue) (scan : ScanValue) (w : World) (h : IndexOf v scan w) (b : IsBuilding v.life) where
  building : IsBuilding w.life
  building = (b.0, h.life ∙ b.1)

  bound_is : (q : Pair) → is_above w.bound q ≡ is_above (last_pair h.run) q
  bound_is q = ap (λ o. is_above o q) (h.bound ∙ h.made.last_is)

  unless_false : (t : Bool) → (t ≡ false → ⊥) → t ≡ true
  unless_false true k = refl
  unless_false false k = absurd (k refl)

  steady : ((n : ℕ) → n < h.run.pages → is_taken h.run n ≡ true) → (q : Pair) → q.rid.page < w.pages → w.read_without q ≡ false
      → IsSteady h.run q
  steady all q inside left = record {
    taken = all q.rid.page (subst (λ n. q.rid.page < n) (h.pages ∙ h.made.pages) inside);
    always = sym (h.read_without q) ∙ left;
  }

  next_can : (p : Pair) → MayHandOut h.run p → CanAttempt w p
  next_can p next = record {
    building = building;
    read = h.read_with p ∙ next.given;
    rising = bound_is p ∙ next.rising;
    none_between = λ q inside over under. unless_false (w.read_without q) (λ left.
        true≢false (sym under ∙ next.none_between q (steady next.all_taken q inside left) (sym (bound_is q) ∙ over)));
  }

  end_can : IsAtEnd h.run → CanFinish w
  end_can end = record {
    building = building;
    none_above = λ q inside over. unless_false (w.read_without q) (λ left.
        true≢false (sym (sym (bound_is q) ∙ over) ∙ end.none_above q (steady end.all_taken q inside left)));
  }

all_more : (w : World) (ps : List Pair) (p : Pair) → attempted_all w (ps ++ p ∷ []) ≡ after (attempted_all w ps) (step.Attempt p)
all_more w [] p = refl
all_more w (q ∷ ps) p = all_more (after w (step.Attempt q)) ps p

can_more : (w : World) (ps : List Pair) (p : Pair) → CanAttemptAll w ps → CanAttempt (attempted_all w ps) p → CanAttemptAll w (ps ++ p ∷ [])
can_more w [] p can next = (next, tt)
can_more w (q ∷ ps) p can next = (can.0, can_more (after w (step.Attempt q)) ps p can.1 next)

pub gathered : (v v' : BuilderValue) (p : Pair) → IsBuilding v.life → ((r : ScanRun) → HasRun v.scan r → MayHandOut r p)
    → ((r : ScanRun) → HasRun v.scan r → HasRun v'.scan (with_step r (HandedOut p))) → v'.scan.last ≡ Some p → v'.scan.pages ≡ v.scan.pages
    → v'.batch ≡ v.batch ++ p ∷ [] → v'.life ≡ v.life → (w : World) → Follows v w → Follows v' w
gathered v v' p b may run last pages batch life w f =
    let end : World = attempted_all w v.batch in
    let can : CanAttempt end p = next_can v v.scan end f.index b p (may f.index.run f.index.made) in
    let is : attempted_all w v'.batch ≡ after end (step.Attempt p) = ap (attempted_all w) batch ∙ all_more w v.batch p in
    record {
      may = subst (CanAttemptAll w) (sym batch) (can_more w v.batch p f.may can);
      index = subst (λ u. IndexOf v' v'.scan u) (sym is) (record {
        entries = refl;
        life = f.index.life ∙ sym life;
        pages = f.index.pages ∙ sym pages;
        bound = sym last;
        run = with_step f.index.run (HandedOut p);
        made = run f.index.run f.index.made;
        read_with = f.index.read_with;
        read_without = f.index.read_without;
      });
    }

-- ---- a page is taken
module _ (page : ℕ) (pairs : List Pair) where
  abbrev taken : World → World
  taken w = after w (step.TakePage page pairs)

  or_later : (a b : Bool) → b ≡ true → (a || b) ≡ true
  or_later true b e = refl
  or_later false b e = e

  can_taken : (w : World) (p : Pair) → CanAttempt w p → CanAttempt (taken w) p
  can_taken w p can = record {
    building = can.building;
    read = or_later (is_among p pairs) (w.read_with p) can.read;
    rising = can.rising;
    none_between = λ q inside over under. or_later (nat_eq q.rid.page page && not (is_among q pairs)) (w.read_without q)
        (can.none_between q inside over under);
  }

  can_all_taken : (w : World) (ps : List Pair) → CanAttemptAll w ps → CanAttemptAll (taken w) ps
  can_all_taken w [] can = tt
  can_all_taken w (p ∷ ps) can = (can_taken w p can.0, can_all_taken (after w (step.Attempt p)) ps can.1)

  all_taken : (w : World) (ps : List Pair) → attempted_all (taken w) ps ≡ taken (attempted_all w ps)
  all_taken w [] = refl
  all_taken w (p ∷ ps) = all_taken (after w (step.Attempt p)) ps

  pub takes : (v v' : BuilderValue) → ((r : ScanRun) → HasRun v.scan r → HasRun v'.scan (with_step r (Took page pairs)))
      → v'.scan.last ≡ v.scan.last → v'.scan.pages ≡ v.scan.pages → v'.batch ≡ v.batch → v'.life ≡ v.life → (w : World) → Follows v w
      → Follows v' (taken w)
  takes v v' run last pages batch life w f =
      let is : attempted_all (taken w) v'.batch ≡ taken (attempted_all w v.batch) = ap (attempted_all (taken w)) batch ∙ all_taken w v.batch in
      record {
        may = subst (CanAttemptAll (taken w)) (sym batch) (can_all_taken w v.batch f.may);
        index = subst (λ u. IndexOf v' v'.scan u) (sym is) (record {
          entries = refl;
          life = f.index.life ∙ sym life;
          pages = f.index.pages ∙ sym pages;
          bound = f.index.bound ∙ sym last;
          run = with_step f.index.run (Took page pairs);
          made = run f.index.run f.index.made;
          read_with = λ p. ap (λ b. is_among p pairs || b) (f.index.read_with p);
          read_without = λ p. ap (λ b. (nat_eq p.rid.page page && not (is_among p pairs)) || b) (f.index.read_without p);
        });
      }

-- ---- the builder is opened
pub opens : (life : Life) (pages : ℕ) (w : World) → HasRun (begun (highest_of life) pages) (begun_run (highest_of life) pages) → w.life ≡ life
    → w.pages ≡ pages → Follows (opened life pages) (after w step.Reopen)
opens life pages w run is has = record {
  may = tt;
  index = record {
    entries = refl;
    life = is;
    pages = has;
    bound = ap highest_of is;
    run = begun_run (highest_of life) pages;
    made = run;
    read_with = λ p. refl;
    read_without = λ p. refl;
  };
}

pub begins : (pages : ℕ) (w : World) → HasRun (begun None pages) (begun_run None pages) → IsCreated w → w.pages ≡ pages
    → Follows (opened (Building None) pages) w
begins pages w run created has = record {
  may = tt;
  index = record {
    entries = refl;
    life = created.life;
    pages = has;
    bound = created.bound;
    run = begun_run None pages;
    made = run;
    read_with = created.read_with;
    read_without = created.read_without;
  };
}

-- ---- the batch was attempted, or the life was recorded
pub makes : (v v' : BuilderValue) → v'.batch ≡ [] → v'.life ≡ v.life → v'.scan ≡ v.scan → (w : World) → Follows v w
    → CanAttemptAll w v.batch × Follows v' (attempted_all w v.batch)
makes v v' none life scan w f =
    let end : World = attempted_all w v.batch in (
      f.may,
      record {
        may = subst (CanAttemptAll end) (sym none) tt;
        index = subst (λ ps. IndexOf v' v'.scan (attempted_all end ps)) (sym none) (subst (λ s. IndexOf v' s end) (sym scan) (record {
          entries = refl;
          life = f.index.life ∙ sym life;
          pages = f.index.pages;
          bound = f.index.bound;
          run = f.index.run;
          made = f.index.made;
          read_with = f.index.read_with;
          read_without = f.index.read_without;
        }));
      },
    )

pub record IsCheckpoint (v : BuilderValue) (life : Life) : Type 0 where
  pub pair : Pair
  pub is : life ≡ Building (Some pair)
  pub last : v.scan.last ≡ Some pair

-- a life is due: the batch is empty, and it is that of a checkpoint, or the end
pub record IsLifeDue (v : BuilderValue) (life : Life) : Type 0 where
  pub none : v.batch ≡ []
  pub building : IsBuilding v.life
  pub which : IsCheckpoint v life ⊎ (life ≡ Complete)

same_life : {a b : Life} → due.Life a ≡ due.Life b → a ≡ b
same_life e = cc

no_page : {n : ℕ} {l : Life} → due.Page n ≡ due.Life l → ⊥
no_page e = absurd (cc)

no_gather : {l : Life} → due.Gather ≡ due.Life l → ⊥
no_gather e = absurd (cc)

no_batch : {l : Life} → due.Batch ≡ due.Life l → ⊥
no_batch e = absurd (cc)

nothing_due : {l : Life} → due.Nothing ≡ due.Life l → ⊥
nothing_due e = absurd (cc)

module _ (v : BuilderValue) (life : Life) where
  pairs_are : (next : Option Pair) → pairs_due next ≡ due.Life life → life ≡ Complete
  pairs_are None e = sym (same_life e)
  pairs_are (Some p) e = absurd (no_gather e)

  page_is : (wanted : Option ℕ) (next : Option Pair) → page_due wanted next ≡ due.Life life → life ≡ Complete
  page_is None next e = pairs_are next e
  page_is (Some page) next e = absurd (no_page e)

  last_by : (b : Bool) (p : Pair) → (if b then None else v.scan.last) ≡ Some p → v.scan.last ≡ Some p
  last_by true p e = absurd (cc)
  last_by false p e = e

  checkpoint_is : (o : Option Pair) → checkpoint_due v ≡ o → life_due v o ≡ due.Life life → IsCheckpoint v life ⊎ (life ≡ Complete)
  checkpoint_is None e due = inr (page_is v.scan.wanted (next_of v.scan) due)
  checkpoint_is (Some p) e due = inl (record { pair = p; is = sym (same_life due); last = last_by _ p e })

  batch_is : (b : IsBuilding v.life) (ps : List Pair) → v.batch ≡ ps → batch_due v ps ≡ due.Life life → IsLifeDue v life
  batch_is b [] e due = record { none = e; building = b; which = checkpoint_is (checkpoint_due v) refl due }
  batch_is b (p ∷ ps) e due = absurd (no_batch due)

  pub life_is_due : (now : Life) → v.life ≡ now → due_of v now ≡ due.Life life → IsLifeDue v life
  life_is_due Complete e due = absurd (nothing_due due)
  life_is_due (Building highest) e due = batch_is (highest, e) v.batch refl due

module _ (v v' : BuilderValue) (life : Life) (is : IsLifeDue v life) (batch : v'.batch ≡ v.batch) (now : v'.life ≡ life) (scan : v'.scan ≡ v.scan)
    (w : World) (f : Follows v w) where
  index_is : IndexOf v v.scan w
  index_is = subst (λ ps. IndexOf v v.scan (attempted_all w ps)) is.none f.index

  followed : (u : World) → u.life ≡ life → u.pages ≡ w.pages → u.bound ≡ w.bound → ((p : Pair) → u.read_with p ≡ w.read_with p)
      → ((p : Pair) → u.read_without p ≡ w.read_without p) → Follows v' u
  followed u alike pages bound read_with read_without = record {
    may = subst (CanAttemptAll u) (sym (batch ∙ is.none)) tt;
    index = subst (λ ps. IndexOf v' v'.scan (attempted_all u ps)) (sym (batch ∙ is.none)) (subst (λ s. IndexOf v' s u) (sym scan) (record {
      entries = refl;
      life = alike ∙ sym now;
      pages = pages ∙ index_is.pages;
      bound = bound ∙ index_is.bound;
      run = index_is.run;
      made = index_is.made;
      read_with = λ p. read_with p ∙ index_is.read_with p;
      read_without = λ p. read_without p ∙ index_is.read_without p;
    }));
  }

  checkpointed : (p : Pair) → v.scan.last ≡ Some p → life ≡ Building (Some p)
      → IsEnabled w (step_of life) × (notes_of w (step_of life) ≡ LifeIs life ∷ []) × Follows v' (after w (step_of life))
  checkpointed p last e =
      let bound : w.bound ≡ Some p = index_is.bound ∙ last in
      subst (λ l. IsEnabled w (step_of l) × (notes_of w (step_of l) ≡ LifeIs l ∷ []) × Follows v' (after w (step_of l))) (sym e) (
        building v v.scan w index_is is.building,
        ap (λ o. LifeIs (Building o) ∷ []) bound,
        followed (after w step.Checkpoint) (ap Building bound ∙ sym e) refl refl (λ q. refl) (λ q. refl),
      )

  finished : life ≡ Complete → IsAtEnd index_is.run
      → IsEnabled w (step_of life) × (notes_of w (step_of life) ≡ LifeIs life ∷ []) × Follows v' (after w (step_of life))
  finished e end =
      subst (λ l. IsEnabled w (step_of l) × (notes_of w (step_of l) ≡ LifeIs l ∷ []) × Follows v' (after w (step_of l))) (sym e) (
        end_can v v.scan w index_is is.building end,
        refl,
        followed (after w step.Finish) (sym e) refl refl (λ q. refl) (λ q. refl),
      )

  pub records : (life ≡ Complete → (r : ScanRun) → HasRun v.scan r → IsAtEnd r)
      → IsEnabled w (step_of life) × (notes_of w (step_of life) ≡ LifeIs life ∷ []) × Follows v' (after w (step_of life))
  records end = elim is.which [
    | inl c ↦ checkpointed c.pair c.last c.is
    | inr e ↦ finished e (end e index_is.run index_is.made)
  ]

-- ---- what the calls' answers cite
pub take_follows : {T E : Type 0} (page : ℕ) (pairs : List Pair) (r : Result T E) (u v v' : BuilderValue) → u ≡ v
    → OnOk r ((run : ScanRun) → HasRun v.scan run → HasRun v'.scan (with_step run (Took page pairs)))
    → OnOk r (v'.scan ≡ record v.scan { wanted = v'.scan.wanted; waiting = v'.scan.waiting }) → v'.batch ≡ v.batch → v'.life ≡ v.life
    → OnOk r ((w : World) → Follows u w → Follows v' (after w (step.TakePage page pairs)))
take_follows page pairs (Ok done) u v v' e run place batch life = λ w f.
    takes page pairs v v' run (ap (λ (s : ScanValue). s.last) place) (ap (λ (s : ScanValue). s.pages) place) batch life w (subst (λ x. Follows x w) e f)
take_follows page pairs (Err refused) u v v' e run place batch life = tt

at_some : {A : Type 0} (P : A → Type 0) (r : Option A) (a : A) → r ≡ Some a → IfSome r P → P a
at_some P r a e h = subst (λ o. IfSome o P) e h

pub gather_follows : (u v v' : BuilderValue) (p : Pair) (handed : Option Pair) → u ≡ v → IsBuilding u.life
    → ((r : ScanRun) → HasRun v.scan r → MayHandOut r p) → handed ≡ Some p
    → IfSome handed (λ q. (r : ScanRun) → HasRun v.scan r → HasRun v'.scan (with_step r (HandedOut q)))
    → IfSome handed (λ q. v'.scan ≡ record v.scan { last = Some q; waiting = v'.scan.waiting })
    → v'.batch ≡ v.batch ++ p ∷ [] → v'.life ≡ v.life → (w : World) → Follows u w → Follows v' w
gather_follows u v v' p handed e b may is run place batch life w f =
    let at : v'.scan ≡ record v.scan { last = Some p; waiting = v'.scan.waiting } =
    at_some (λ q. v'.scan ≡ record v.scan { last = Some q; waiting = v'.scan.waiting }) handed p is place in
    gathered v v' p (subst (λ (x : BuilderValue). IsBuilding x.life) e b) may
    (at_some (λ q. (r : ScanRun) → HasRun v.scan r → HasRun v'.scan (with_step r (HandedOut q))) handed p is run) (ap (λ (s : ScanValue). s.last) at)
    (ap (λ (s : ScanValue). s.pages) at) batch life w (subst (λ x. Follows x w) e f)

pub recorded_by : (u v v' : BuilderValue) (life : Life) → u ≡ v → due_of u u.life ≡ due.Life life → v'.batch ≡ v.batch → v'.scan ≡ v.scan → v'.life ≡ life
    → (life ≡ Complete → (r : ScanRun) → HasRun u.scan r → IsAtEnd r) → (w : World) → Follows u w
    → IsEnabled w (step_of life) × (notes_of w (step_of life) ≡ LifeIs life ∷ []) × Follows v' (after w (step_of life))
recorded_by u v v' life e now batch scan is end w f =
    records u v' life (life_is_due u life u.life refl now) (batch ∙ ap (λ (x : BuilderValue). x.batch) (sym e)) is
    (scan ∙ ap (λ (x : BuilderValue). x.scan) (sym e)) w f end

pub same_due : {a b : Life} → due.Life a ≡ due.Life b → a ≡ b
same_due = same_life

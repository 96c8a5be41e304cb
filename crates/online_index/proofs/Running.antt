-- A run of the builder's steps, one step longer.
use Rattle.std.proofs.Common.{Err, IsSome, List, None, Ok, Option, Result, Some, [], ap, append_assoc, length, refl, subst, sym}
use Rattle.std.proofs.Common.{ℕ, ◌+◌, ◌++◌, ◌<◌, ◌∙◌, ◌∷◌, ◌≡◌}
use Rattle.std.proofs.lemmas.List.{append-nil, length_push}
use Rattle.std.specs.Result.{IsErr}
use Rattle.record_values.specs.declared.error.Error.{Error}
use Rattle.record_values.specs.declared.pair.Mark.{Mark}
use Rattle.record_values.specs.declared.pair.Pair.{Pair}
use Rattle.online_index.specs.Builds.{AreOfBuilder, AreStepsDue, HasMade, HasMadeRun, IsCount, IsOfBuilder, IsStop, attempt_of, attempts_after}
use Rattle.online_index.specs.Builds.{checkpoint_due, due_of, listed, no_steps, note_of, notes_of_all, one_more, page_due, pair_due}
use Rattle.online_index.specs.Builds.{reply_due, step_of, stop_of}
use Rattle.online_index.specs.Standing.{StandsFor}
use Rattle.online_index.specs.Value.{IndexValue}
use Rattle.online_index.specs.declared.build.BuildStep.{BuildStep}
use Rattle.online_index.specs.declared.build.BuildStep.TheVariants as reply
use Rattle.online_index.specs.declared.build.Stop.{Stop}
use Rattle.online_model.specs.Logs.{notes_of, notes_over}
use Rattle.online_model.specs.World.{Attempt, Checkpoint, Finish, IsEnabled, Runs, Step, World, after, no_step, one_step}
use Rattle.online_model.specs.declared.life.Life.{Life}
use Rattle.online_model.specs.declared.life.Life.TheVariants.{Building, Complete}
use Rattle.online_model.specs.declared.note.Note.{Note}
use Rattle.sorted_scan.specs.Scans.{next_of}

-- ---- runs
run_more : (w u : World) (es : List Step) (e : Step) → Runs w es u → IsEnabled u e → Runs w (es ++ e ∷ []) (after u e)
run_more w u es e no_step can = one_step {w = w} {w' = after w e} e [] can no_step
run_more w u es e (one_step d rest is r) can = one_step {w = w} {w' = after u e} d (rest ++ e ∷ []) is (run_more (after w d) u rest e r can)

notes_more : (w u : World) (es : List Step) (e : Step) → Runs w es u → notes_over w (es ++ e ∷ []) ≡ notes_over w es ++ notes_of u e
notes_more w u es e no_step = append-nil (notes_of w e)
notes_more w u es e (one_step d rest is r) =
    ap (λ ns. notes_of w d ++ ns) (notes_more (after w d) u rest e r)
    ∙ sym (append_assoc (notes_of w d) (notes_over (after w d) rest) (notes_of u e))

-- each of these is of the builder, and so is one more
each_more : (es : List Step) (e : Step) → AreOfBuilder es → IsOfBuilder e → AreOfBuilder (es ++ e ∷ [])
each_more [] e all here = (here, tt)
each_more (d ∷ es) e all here = (all.0, each_more es e all.1 here)

pub no_run : (v : IndexValue) (notes : List Note) (w : World) → StandsFor v w → HasMadeRun w 0 notes notes v
no_run v notes w h = record {
  steps = [];
  each = tt;
  end = w;
  run = no_step;
  count = refl;
  stands = h;
  noted = sym (append-nil notes);
}

module _ (w : World) (n : ℕ) (before now now' : List Note) (v v' : IndexValue) (h : HasMadeRun w n before now v) where
  with_step : (e : Step) (notes : List Note) → IsOfBuilder e → IsEnabled h.end e × StandsFor v' (after h.end e) × (notes ≡ notes_of h.end e)
      → now' ≡ now ++ notes → HasMadeRun w (n + 1) before now' v'
  with_step e notes own made appended = record {
    steps = h.steps ++ e ∷ [];
    each = each_more h.steps e h.each own;
    end = after h.end e;
    run = run_more w h.end h.steps e h.run made.0;
    count = ap (λ m. m + 1) h.count ∙ sym (length_push h.steps e);
    stands = made.1;
    noted = appended ∙ ap (λ ns. ns ++ notes) h.noted ∙ append_assoc before (notes_over w h.steps) notes
        ∙ ap (λ ns. before ++ (notes_over w h.steps ++ ns)) made.2
        ∙ ap (λ ns. before ++ ns) (sym (notes_more w h.end h.steps e h.run));
  }

  with_none : StandsFor v' h.end → now' ≡ now ++ [] → HasMadeRun w n before now' v'
  with_none stands appended = record {
    steps = h.steps;
    each = h.each;
    end = h.end;
    run = h.run;
    count = h.count;
    stands = stands;
    noted = appended ∙ append-nil now ∙ h.noted;
  }

  pub more : (r : BuildStep) → HasMade h.end (step_of r) (listed (note_of r)) v' → now' ≡ now ++ listed (note_of r)
      → stop_of r ≡ None → HasMadeRun w (n + 1) before now' v'
  more (reply.Placed p) made appended s = with_step (Attempt p) (listed (note_of (reply.Placed p))) tt made appended
  more (reply.Rejected p) made appended s = with_step (Attempt p) [] tt made appended
  more (reply.Noted p) made appended s = with_step Checkpoint (listed (note_of (reply.Noted p))) tt made appended
  more reply.Done made appended s = with_step Finish (listed (note_of reply.Done)) tt made appended
  more (reply.WantsPage page) made appended s = absurd (cc)
  more reply.Idle made appended s = absurd (cc)

  pub same : (r : BuildStep) (o : Stop) → HasMade h.end (step_of r) (listed (note_of r)) v' → now' ≡ now ++ listed (note_of r)
      → stop_of r ≡ Some o → HasMadeRun w n before now' v'
  same (reply.Placed p) o made appended s = absurd (cc)
  same (reply.Rejected p) o made appended s = absurd (cc)
  same (reply.Noted p) o made appended s = absurd (cc)
  same reply.Done o made appended s = absurd (cc)
  same (reply.WantsPage page) o made appended s = with_none made.0 appended
  same reply.Idle o made appended s = with_none made.0 appended

  pub unchanged : now' ≡ now → v' ≡ v → HasMadeRun w n before now' v'
  unchanged notes index = record {
    steps = h.steps;
    each = h.each;
    end = h.end;
    run = h.run;
    count = h.count;
    stands = subst (λ x. StandsFor x h.end) (sym index) h.stands;
    noted = notes ∙ h.noted;
  }

-- ---- the replies of a run
-- these replies led from one value to another, and their notes were appended
pub record HasReplied (v : IndexValue) (number : ℕ) (before now : List Note) (v' : IndexValue) : Type 0 where
  pub replies : List BuildStep
  pub due : AreStepsDue v replies v'
  pub count : number ≡ length replies
  pub noted : now ≡ before ++ notes_of_all replies

pub none_replied : (v : IndexValue) (notes : List Note) → HasReplied v 0 notes notes v
none_replied v notes = record { replies = []; due = no_steps; count = refl; noted = sym (append-nil notes) }

notes_of_more : (rs : List BuildStep) (r : BuildStep) → notes_of_all (rs ++ r ∷ []) ≡ notes_of_all rs ++ listed (note_of r)
notes_of_more [] r = append-nil (listed (note_of r))
notes_of_more (s ∷ rs) r =
    ap (λ ns. listed (note_of s) ++ ns) (notes_of_more rs r)
    ∙ sym (append_assoc (listed (note_of s)) (notes_of_all rs) (listed (note_of r)))

some_made : (r : BuildStep) → stop_of r ≡ None → IsSome (step_of r)
some_made (reply.Placed p) s = refl
some_made (reply.Rejected p) s = refl
some_made (reply.Noted p) s = refl
some_made reply.Done s = refl
some_made (reply.WantsPage page) s = absurd (cc)
some_made reply.Idle s = absurd (cc)

module _ (v : IndexValue) (n : ℕ) (before now now' : List Note) (u v' : IndexValue) (h : HasReplied v n before now u) where
  pub one_replied : (r : BuildStep) → r ≡ reply_due u u.life → ((w : World) → StandsFor u w → HasMade w (step_of r) (listed (note_of r)) v')
      → v'.attempts ≡ attempts_after r u.attempts → now' ≡ now ++ listed (note_of r) → stop_of r ≡ None → HasReplied v (n + 1) before now' v'
  one_replied r due made attempts appended goes_on = record {
    replies = h.replies ++ r ∷ [];
    due = one_more h.replies r h.due (record { due = due; step = some_made r goes_on; made = made; attempts = attempts });
    count = ap (λ m. m + 1) h.count ∙ sym (length_push h.replies r);
    noted = appended ∙ ap (λ ns. ns ++ listed (note_of r)) h.noted ∙ append_assoc before (notes_of_all h.replies) (listed (note_of r))
        ∙ ap (λ ns. before ++ ns) (sym (notes_of_more h.replies r));
  }

  pub same_replied : v' ≡ u → now' ≡ now → HasReplied v n before now' v'
  same_replied index notes = record {
    replies = h.replies;
    due = subst (λ x. AreStepsDue v h.replies x) (sym index) h.due;
    count = h.count;
    noted = notes ∙ h.noted;
  }

-- a reply that ends a run has no note
pub none_noted : (r : BuildStep) (o : Stop) → stop_of r ≡ Some o → listed (note_of r) ≡ []
none_noted (reply.Placed p) o s = absurd (cc)
none_noted (reply.Rejected p) o s = absurd (cc)
none_noted (reply.Noted p) o s = absurd (cc)
none_noted reply.Done o s = absurd (cc)
none_noted (reply.WantsPage page) o s = refl
none_noted reply.Idle o s = refl

pub replied : (v v' : IndexValue) (n most : ℕ) (before now : List Note) (result : Result Stop Error) → HasReplied v n before now v'
    → IsCount result most n → ((replies : List BuildStep) × AreStepsDue v replies v' × IsCount result most (length replies)
    × (now ≡ before ++ notes_of_all replies))
replied v v' n most before now result h is = (h.replies, h.due, subst (λ m. IsCount result most m) h.count is, h.noted)

-- ---- why a run ended
abbrev count_by : Option Stop → ℕ → ℕ → Type 0
count_by None most n = Unit {0}
count_by (Some o) most n = IsCount (Ok o) most n

count_of : (r : BuildStep) (most n : ℕ) → n < most → count_by (stop_of r) most n
count_of (reply.Placed p) most n l = tt
count_of (reply.Rejected p) most n l = tt
count_of (reply.Noted p) most n l = tt
count_of reply.Done most n l = tt
count_of (reply.WantsPage page) most n l = l
count_of reply.Idle most n l = l

pub is_count : (r : BuildStep) (o : Stop) (most n : ℕ) → stop_of r ≡ Some o → n < most → IsCount (Ok o) most n
is_count r o most n e l = subst (λ s. count_by s most n) e (count_of r most n l)

pub err_count : (r : Result Stop Error) (most n : ℕ) → IsErr r → n < most → IsCount r most n
err_count (Ok o) most n e l = absurd (cc)
err_count (Err e) most n is l = l

abbrev wanted_by : BuildStep → Option ℕ → Type 0
wanted_by (reply.WantsPage page) o = o ≡ Some page
wanted_by r o = Unit {0}

attempt_wants : (p : Pair) (o : Option Mark) (wanted : Option ℕ) → wanted_by (attempt_of p o) wanted
attempt_wants p None wanted = tt
attempt_wants p (Some mark) wanted = tt

pair_wants : (v : IndexValue) (o : Option Pair) (wanted : Option ℕ) → wanted_by (pair_due v o) wanted
pair_wants v None wanted = tt
pair_wants v (Some p) wanted = attempt_wants p _ wanted

page_wants : (v : IndexValue) (o : Option ℕ) → wanted_by (page_due v o) o
page_wants v None = pair_wants v (next_of v.scan) None
page_wants v (Some page) = refl

checkpoint_wants : (v : IndexValue) (o : Option Pair) → wanted_by (checkpoint_due v o) v.scan.wanted
checkpoint_wants v None = page_wants v v.scan.wanted
checkpoint_wants v (Some p) = tt

reply_wants : (v : IndexValue) (life : Life) → wanted_by (reply_due v life) v.scan.wanted
reply_wants v Complete = tt
reply_wants v (Building highest) = checkpoint_wants v (due_of v)

abbrev idle_by : BuildStep → Life → Type 0
idle_by reply.Idle life = life ≡ Complete
idle_by r life = Unit {0}

attempt_idles : (p : Pair) (o : Option Mark) (life : Life) → idle_by (attempt_of p o) life
attempt_idles p None life = tt
attempt_idles p (Some mark) life = tt

pair_idles : (v : IndexValue) (o : Option Pair) (life : Life) → idle_by (pair_due v o) life
pair_idles v None life = tt
pair_idles v (Some p) life = attempt_idles p _ life

page_idles : (v : IndexValue) (o : Option ℕ) (life : Life) → idle_by (page_due v o) life
page_idles v None life = pair_idles v (next_of v.scan) life
page_idles v (Some page) life = tt

checkpoint_idles : (v : IndexValue) (o : Option Pair) (life : Life) → idle_by (checkpoint_due v o) life
checkpoint_idles v None life = page_idles v v.scan.wanted life
checkpoint_idles v (Some p) life = tt

reply_idles : (v : IndexValue) (life : Life) → idle_by (reply_due v life) life
reply_idles v Complete = refl
reply_idles v (Building highest) = checkpoint_idles v (due_of v) (Building highest)

abbrev stop_by : Option Stop → IndexValue → Type 0
stop_by None v = Unit {0}
stop_by (Some o) v = IsStop o v

stop_at : (r : BuildStep) (v : IndexValue) → wanted_by r v.scan.wanted → idle_by r v.life → stop_by (stop_of r) v
stop_at (reply.Placed p) v a b = tt
stop_at (reply.Rejected p) v a b = tt
stop_at (reply.Noted p) v a b = tt
stop_at reply.Done v a b = tt
stop_at (reply.WantsPage page) v a b = a
stop_at reply.Idle v a b = b

pub is_stop : (r : BuildStep) (o : Stop) (v : IndexValue) → r ≡ reply_due v v.life → stop_of r ≡ Some o → IsStop o v
is_stop r o v e s = subst (λ x. stop_by x v) s (stop_at r v
    (subst (λ x. wanted_by x v.scan.wanted) (sym e) (reply_wants v v.life))
    (subst (λ x. idle_by x v.life) (sym e) (reply_idles v v.life)))

-- a reply that ends a run made no step
pub none_made : (r : BuildStep) (o : Stop) → stop_of r ≡ Some o → step_of r ≡ None
none_made (reply.Placed p) o s = absurd (cc)
none_made (reply.Rejected p) o s = absurd (cc)
none_made (reply.Noted p) o s = absurd (cc)
none_made reply.Done o s = absurd (cc)
none_made (reply.WantsPage page) o s = refl
none_made reply.Idle o s = refl

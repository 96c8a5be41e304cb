-- Each step keeps the rule of the queue.
use Rattle.std.proofs.Common.{◌≡◌, ◌≢◌, ℕ, zero, suc, true, false, true≢false, List, [], ◌∷◌, ◌++◌, take, length, set, sym}
use Rattle.std.proofs.Common.{refl, ap, ◌∙◌, ⊎_elim, subst, append_assoc}
use Rattle.std.proofs.Math.Seq.{take-append_seam}
use mathlib.Core.Option.{some, some-ne-none}
use lib.ListN.{get_elem?}
use Rattle.crossbeam_queue.specs.Fifo.{Forks, Held, Learns, Merges}
use Rattle.crossbeam_queue.specs.Fifo as fifo
use Rattle.crossbeam_queue.proofs.Lists.{at_set, at_snoc}
use Rattle.records.specs.RecordValue.{RecordValue}
use Rattle.threads_queue.specs.declared.knowledge.Knowledge.{Knowledge}
use Rattle.threads_queue.specs.Rule.{both_ends, Fits, IsQueueKept, no_end, pop_end, Pops, push_end, Pushes, Waits}

off : {A : Type 0} → false ≡ true → A
off e = absurd (true≢false (sym e))

at_end : (l : List Knowledge) (a b : Knowledge) (j : ℕ) → get_elem? l j ≢ some b → get_elem? (l ++ a ∷ []) j ≡ some b → j ≡ length l
at_end [] a b zero n e = refl
at_end [] a b (suc j) n e = absurd (some-ne-none b (sym e))
at_end (x ∷ xs) a b zero n e = absurd (n e)
at_end (x ∷ xs) a b (suc j) n e = ap suc (at_end xs a b j n e)

-- each end is so
abbrev Each : (ℕ → Knowledge → Type 0) → List Knowledge → Type 0
Each F ends = (place : ℕ) (v : Knowledge) → get_elem? ends place ≡ some v → F place v

each_set : (F : ℕ → Knowledge → Type 0) (ends : List Knowledge) (place : ℕ) (w : Knowledge) → F place w
    → ((j : ℕ) (u : Knowledge) → j ≢ place → get_elem? ends j ≡ some u → F j u) → Each F (set ends place w)
each_set F ends place w mine others j u e =
    ⊎_elim (λ (x : (j ≡ place) × (w ≡ u)). subst (λ (y : ℕ × Knowledge). F y.0 y.1) (λ i. (sym x.0 i, x.1 i)) mine)
    (λ (x : (j ≢ place) × (get_elem? ends j ≡ some u)). others j u x.0 x.1) (at_set ends place j w u e)

pub begins : IsQueueKept [] (both_ends [] [] ∷ [])
begins = record {
  pusher = 0;
  popper = 0;
  pushed = [];
  popped = [];
  in_order = refl;
  fits = each_set (Fits 0 0 [] []) (both_ends [] [] ∷ []) 0 (both_ends [] []) (record { of_pusher = λ _. (refl, refl); of_popper = λ _. (refl, refl) })
      (λ j u other e. absurd (other (at_end [] _ u j (λ x. some-ne-none u (sym x)) e)));
}

pub pushes : (n place : ℕ) (v : Knowledge) (x : RecordValue) → v.pushes ≡ true → fifo.Pushes IsQueueKept n place v x (Pushes v x)
pushes n place v x may items ends _ h at =
    let w : Knowledge = record v { pushed = v.pushed ++ x ∷ [] } in
    let mine = h.fits place v at in
    let pushed = h.pushed ++ x ∷ [] in (
      w,
      record {
        pusher = h.pusher;
        popper = h.popper;
        pushed = pushed;
        popped = h.popped;
        in_order = ap (λ l. l ++ x ∷ []) h.in_order ∙ append_assoc h.popped items (x ∷ []);
        fits = each_set (Fits h.pusher h.popper pushed h.popped) ends place w
            (record { of_pusher = λ _. ((mine.of_pusher may).0, ap (λ l. l ++ x ∷ []) (mine.of_pusher may).1); of_popper = mine.of_popper })
            (λ j u other e. record {
              of_pusher = λ p. absurd (other (((h.fits j u e).of_pusher p).0 ∙ sym (mine.of_pusher may).0));
              of_popper = (h.fits j u e).of_popper;
            });
      },
      refl,
    )

pub pops : (place : ℕ) (v : Knowledge) → v.pops ≡ true → fifo.Pops IsQueueKept place v (Pops v)
pops place v may x items ends h at =
    let w : Knowledge = record v { popped = v.popped ++ x ∷ [] } in
    let mine = h.fits place v at in
    let popped = h.popped ++ x ∷ [] in (
      w,
      record {
        pusher = h.pusher;
        popper = h.popper;
        pushed = h.pushed;
        popped = popped;
        in_order = h.in_order ∙ sym (append_assoc h.popped (x ∷ []) items);
        fits = each_set (Fits h.pusher h.popper h.pushed popped) ends place w
            (record { of_pusher = mine.of_pusher; of_popper = λ _. ((mine.of_popper may).0, ap (λ l. l ++ x ∷ []) (mine.of_popper may).1) })
            (λ j u other e. record {
              of_pusher = (h.fits j u e).of_pusher;
              of_popper = λ p.
                  absurd (other (((h.fits j u e).of_popper p).0 ∙ sym (mine.of_popper may).0));
            });
      },
      record {
        known = refl;
        rest = items;
        oldest = λ a b. (mine.of_pusher a).1 ∙ h.in_order ∙ ap (λ l. l ++ x ∷ items) (sym (mine.of_popper b).1);
      },
    )

pub forks : (place : ℕ) (v : Knowledge) → v.pushes ≡ true → v.pops ≡ true → Forks IsQueueKept place v (push_end v.pushed) (pop_end v.popped)
forks place v a b items ends h at =
    let l : Knowledge = push_end v.pushed in
    let r : Knowledge = pop_end v.popped in
    let mine = h.fits place v at in
    let all : List Knowledge = set ends place l in
    let Old : ℕ → Knowledge → Type 0 = λ j u. (u.pushes ≡ true → (j ≡ h.pusher) × (u.pushed ≡ h.pushed)) × (u.pops ≢ true) in
    let old : Each Old all = each_set Old ends place l ((λ _. mine.of_pusher a), λ p. off p) (λ j u other e.
    ((h.fits j u e).of_pusher, λ p. other (((h.fits j u e).of_popper p).0 ∙ sym (mine.of_popper b).0))) in
    record {
      pusher = h.pusher;
      popper = length all;
      pushed = h.pushed;
      popped = h.popped;
      in_order = h.in_order;
      fits = λ j u e.
          ⊎_elim (λ x. record { of_pusher = (old j u x).0; of_popper = λ p. absurd ((old j u x).1 p) })
          (λ (is : r ≡ u). record {
            of_pusher = λ p. off (ap (λ (y : Knowledge). y.pushes) is ∙ p);
            of_popper = λ p.
                (at_end all r u j (λ x. (old j u x).1 p) e, ap (λ (y : Knowledge). y.popped) (sym is) ∙ (mine.of_popper b).1);
          })
          (at_snoc all r u j e);
    }

-- the end that pops is lent
pub lends : (place : ℕ) (v : Knowledge) → v.pops ≡ true → Forks IsQueueKept place v no_end (pop_end v.popped)
lends place v b items ends h at =
    let r : Knowledge = pop_end v.popped in
    let mine = h.fits place v at in
    let all : List Knowledge = set ends place no_end in
    let Old : ℕ → Knowledge → Type 0 = λ j u. (u.pushes ≡ true → (j ≡ h.pusher) × (u.pushed ≡ h.pushed)) × (u.pops ≢ true) in
    let old : Each Old all = each_set Old ends place no_end ((λ p. off p), λ p. off p) (λ j u other e.
    ((h.fits j u e).of_pusher, λ p. other (((h.fits j u e).of_popper p).0 ∙ sym (mine.of_popper b).0))) in
    record {
      pusher = h.pusher;
      popper = length all;
      pushed = h.pushed;
      popped = h.popped;
      in_order = h.in_order;
      fits = λ j u e.
          ⊎_elim (λ x. record { of_pusher = (old j u x).0; of_popper = λ p. absurd ((old j u x).1 p) })
          (λ (is : r ≡ u). record {
            of_pusher = λ p. off (ap (λ (y : Knowledge). y.pushes) is ∙ p);
            of_popper = λ p.
                (at_end all r u j (λ x. (old j u x).1 p) e, ap (λ (y : Knowledge). y.popped) (sym is) ∙ (mine.of_popper b).1);
          })
          (at_snoc all r u j e);
    }

-- and comes back
pub comes_back : (place : ℕ) (v : Knowledge) (other : ℕ) (u : Knowledge) → u.pops ≡ true → Merges IsQueueKept place v other u (pop_end u.popped) no_end
comes_back place v other u b items ends h at two at' =
    let end : Knowledge = pop_end u.popped in
    let all : List Knowledge = set ends place end in
    let was : get_elem? ends other ≡ some u = ⊎_elim (λ x. absurd (two x.0)) (λ x. x.1) (at_set ends place other end u at') in
    let theirs = (h.fits other u was).of_popper b in
    let Now : ℕ → Knowledge → Type 0 = λ j y. j ≢ other → Fits h.pusher place h.pushed h.popped j y in
    let now : Each Now all = each_set Now ends place end (λ _. record { of_pusher = λ p. off p; of_popper = λ _. (refl, theirs.1) })
    (λ j y _ e apart. record { of_pusher = (h.fits j y e).of_pusher; of_popper = λ p. absurd (apart (((h.fits j y e).of_popper p).0 ∙ sym theirs.0)) }) in
    record {
      pusher = h.pusher;
      popper = place;
      pushed = h.pushed;
      popped = h.popped;
      in_order = h.in_order;
      fits = each_set (Fits h.pusher place h.pushed h.popped) all other no_end (record { of_pusher = λ p. off p; of_popper = λ p. off p }) (λ j y apart e.
          now j y e apart);
    }

pub merges : (place : ℕ) (v : Knowledge) (other : ℕ) (u : Knowledge) → v.pushes ≡ true → u.pops ≡ true
    → Merges IsQueueKept place v other u (both_ends v.pushed u.popped) no_end
merges place v other u a b items ends h at two at' =
    let both : Knowledge = both_ends v.pushed u.popped in
    let mine = h.fits place v at in
    let all : List Knowledge = set ends place both in
    let was : get_elem? ends other ≡ some u = ⊎_elim (λ x. absurd (two x.0)) (λ x. x.1) (at_set ends place other both u at') in
    let theirs = (h.fits other u was).of_popper b in
    let Now : ℕ → Knowledge → Type 0 = λ j y. j ≢ other → Fits h.pusher place h.pushed h.popped j y in
    let now : Each Now all = each_set Now ends place both (λ _. record { of_pusher = λ _. mine.of_pusher a; of_popper = λ _. (refl, theirs.1) })
    (λ j y _ e apart. record { of_pusher = (h.fits j y e).of_pusher; of_popper = λ p. absurd (apart (((h.fits j y e).of_popper p).0 ∙ sym theirs.0)) }) in
    record {
      pusher = h.pusher;
      popper = place;
      pushed = h.pushed;
      popped = h.popped;
      in_order = h.in_order;
      fits = each_set (Fits h.pusher place h.pushed h.popped) all other no_end (record { of_pusher = λ p. off p; of_popper = λ p. off p }) (λ j y apart e.
          now j y e apart);
    }

pub learns : (place : ℕ) (v : Knowledge) → Learns IsQueueKept place v (Waits v)
learns place v items ends h at a b = let mine = h.fits place v at in (mine.of_pusher a).1 ∙ h.in_order ∙ ap (λ l. l ++ items) (sym (mine.of_popper b).1)

-- ---- two ends that are compared

-- what was popped is the first of what was pushed
pub begins_with : (v : Knowledge) (n : ℕ) → v.pushes ≡ true → v.pops ≡ true → Held n (Waits v) → v.popped ≡ take (length v.popped) v.pushed
begins_with v n a b held = sym (take-append_seam v.popped held.0) ∙ ap (take (length v.popped)) (sym (held.2 a b))

-- Each step keeps the rule of the registry.
use Rattle.threads_sessions.specs.Values.{SessionValue, empty_session}
use Rattle.std.specs.Prelude.{slice_get, Some}
use Rattle.atomic_table.specs.Seated.{TableId}
use Rattle.threads_sessions.specs.Halves.{HalfValue, IsNew}
use Rattle.std.proofs.Common.{◌≡◌, ◌≢◌, ◌⊎◌, ℕ, zero, suc, ◌+◌, ◌≤◌, ◌<◌, Bool, true, false, true≢false, eqb, cond, List, [], ◌∷◌, ◌++◌, length, set, refl, sym}
use Rattle.std.proofs.Common.{ap, ◌∙◌, subst, inl, inr, ⊎_elim, eq-eqb, ne_eqb, arith}
use mathlib.Core.Logic.{dite}
use mathlib.Core.Option.{none, some, some-ne-none, some-injective}
use native.Mathlib.Decide.{ℕ_discrete}
use lib.ListN.{get_elem?}
use Rattle.atomic_table.specs.Table.{State, Me, step, keeps, Allows, Splits, Joins, opening}
use Rattle.atomic_table.proofs.Lists.{at_set, set_else}
use Rattle.threads_sessions.specs.declared.knowledge.Knowledge.{Knowledge}
use Rattle.threads_sessions.specs.Rule.{parts_in, parts_of, Fits, AreHalvesKept, nobody, first_maker, next_maker, new_session, half_of, joined, Agrees, Changes}

off : {A : Type 0} → false ≡ true → A
off e = absurd (true≢false (sym e))

at_end : {A : Type 0} (l : List A) (a b : A) (j : ℕ) → get_elem? (l ++ a ∷ []) j ≡ some b → (get_elem? l j ≡ some b) ⊎ ((j ≡ length l) × (a ≡ b))
at_end [] a b zero e = inr (refl, some-injective a b e)
at_end [] a b (suc j) e = absurd (some-ne-none b (sym e))
at_end (x ∷ xs) a b zero e = inl e
at_end (x ∷ xs) a b (suc j) e = ⊎_elim (λ (t : get_elem? xs j ≡ some b). inl t) (λ (t : (j ≡ length xs) × (a ≡ b)). inr (ap suc t.0, t.1)) (at_end xs a b j e)

-- the parts that seats have of one session

none_of : (b : Bool) (p : ℕ) → p ≡ 0 → cond b p 0 ≡ 0
none_of true p e = e
none_of false p e = refl

none_in : (n : ℕ) (v : Knowledge) → v.parts ≡ 0 → parts_in n v ≡ 0
none_in n v e = none_of (eqb v.number n) v.parts e

parts_here : (n : ℕ) (v : Knowledge) → v.number ≡ n → parts_in n v ≡ v.parts
parts_here n v e = ap (λ (b : Bool). cond b v.parts 0) (eq-eqb v.number n e)

parts_else : (n : ℕ) (v : Knowledge) → v.number ≢ n → parts_in n v ≡ 0
parts_else n v ne = ap (λ (b : Bool). cond b v.parts 0) (ne_eqb v.number n ne)

parts_set : (n : ℕ) (l : List Knowledge) (i : ℕ) (v w : Knowledge) → get_elem? l i ≡ some v
    → parts_of n (set l i w) + parts_in n v ≡ parts_of n l + parts_in n w
parts_set n [] i v w e = absurd (some-ne-none v (sym e))
parts_set n (x ∷ xs) zero v w e = let is : parts_in n x ≡ parts_in n v = ap (parts_in n) (some-injective x v e) in omega arith
parts_set n (x ∷ xs) (suc i) v w e = let r = parts_set n xs i v w e in omega arith

parts_snoc : (n : ℕ) (l : List Knowledge) (v : Knowledge) → parts_of n (l ++ v ∷ []) ≡ parts_of n l + parts_in n v
parts_snoc n [] v = omega arith
parts_snoc n (x ∷ xs) v = let r = parts_snoc n xs v in omega arith

parts_at : (n : ℕ) (l : List Knowledge) (i : ℕ) (v : Knowledge) → get_elem? l i ≡ some v → parts_in n v ≤ parts_of n l
parts_at n [] i v e = absurd (some-ne-none v (sym e))
parts_at n (x ∷ xs) zero v e = let is : parts_in n x ≡ parts_in n v = ap (parts_in n) (some-injective x v e) in omega arith
parts_at n (x ∷ xs) (suc i) v e = let r = parts_at n xs i v e in omega arith

parts_none : (n : ℕ) (l : List Knowledge) → ((j : ℕ) (u : Knowledge) → get_elem? l j ≡ some u → parts_in n u ≡ 0) → parts_of n l ≡ 0
parts_none n [] h = refl
parts_none n (x ∷ xs) h = let a = h 0 x refl in let r = parts_none n xs (λ j u e. h (suc j) u e) in omega arith

-- two seats together have no more parts than all
parts_two : (n : ℕ) (l : List Knowledge) (i j : ℕ) (v u : Knowledge) → get_elem? l i ≡ some v → get_elem? l j ≡ some u → j ≢ i
    → parts_in n v + parts_in n u ≤ parts_of n l
parts_two n l i j v u at there apart =
    let s = parts_set n l i v nobody at in
    let z : parts_in n nobody ≡ 0 = none_in n nobody refl in
    let o = parts_at n (set l i nobody) j u (set_else l i j nobody apart ∙ there) in
    omega arith

-- the registry, with another at n
abbrev with_session : (ℕ → SessionValue) → ℕ → SessionValue → ℕ → SessionValue
with_session f n p m = cond (eqb m n) p (f m)

session_here : (f : ℕ → SessionValue) (n : ℕ) (p : SessionValue) (m : ℕ) → m ≡ n → with_session f n p m ≡ p
session_here f n p m e = ap (λ (b : Bool). cond b p (f m)) (eq-eqb m n e)

session_else : (f : ℕ → SessionValue) (n : ℕ) (p : SessionValue) (m : ℕ) → m ≢ n → with_session f n p m ≡ f m
session_else f n p m ne = ap (λ (b : Bool). cond b p (f m)) (ne_eqb m n ne)

abbrev Seated : Type 0
Seated = Me SessionValue Knowledge

abbrev Table : Type 0
Table = State SessionValue Knowledge

abbrev FitsAll : (ℕ → SessionValue) → ℕ → ℕ → List Knowledge → Type 0
FitsAll session_of maker next views = (seat : ℕ) (v : Knowledge) → get_elem? views seat ≡ some v → Fits session_of maker next seat v

fits_set : (f g : ℕ → SessionValue) (maker next next' : ℕ) (views : List Knowledge) (seat : ℕ) (w : Knowledge) → FitsAll f maker next views
    → ((j : ℕ) (u : Knowledge) → j ≢ seat → get_elem? views j ≡ some u → Fits f maker next j u → Fits g maker next' j u) → Fits g maker next' seat w
    → FitsAll g maker next' (set views seat w)
fits_set f g maker next next' views seat w fits others mine j u e =
    ⊎_elim
    (λ (x : (j ≡ seat) × (w ≡ u)). subst (λ (y : ℕ × Knowledge). Fits g maker next' y.0 y.1) (λ i. (sym x.0 i, x.1 i)) mine)
    (λ (x : (j ≢ seat) × (get_elem? views j ≡ some u)). others j u x.0 x.1 (fits j u x.1))
    (at_set views seat j w u e)

fits_more : (f : ℕ → SessionValue) (maker next : ℕ) (views : List Knowledge) (w : Knowledge) → FitsAll f maker next views → ((j : ℕ) → Fits f maker next j w)
    → FitsAll f maker next (views ++ w ∷ [])
fits_more f maker next views w fits new j u e = ⊎_elim (fits j u) (λ (t : (j ≡ length views) × (w ≡ u)). subst (Fits f maker next j) t.1 (new j))
    (at_end views w u j e)

no_parts : (f : ℕ → SessionValue) (maker next : ℕ) (j : ℕ) → Fits f maker next j nobody
no_parts f maker next j = record {
  of_maker = λ on. off on;
  below = λ some_part. absurd (omega arith);
  shows = λ some_part. absurd (omega arith);
  brought = λ some_part. absurd (omega arith);
}

pub begins : AreHalvesKept (opening {S = SessionValue} (0 ∷ []) [] first_maker)
begins = record { session_of = λ _. empty_session; maker = 0; next = 0; fits = one; two = λ n. let z = none_in n first_maker refl in omega arith }
  where
    one : FitsAll (λ _. empty_session) 0 0 (first_maker ∷ [])
    one zero v e =
        subst (Fits (λ _. empty_session) 0 0 0) (some-injective first_maker v e)
        record {
          of_maker = λ _. (refl, refl, refl);
          below = λ some_part. absurd (omega arith);
          shows = λ some_part. absurd (omega arith);
          brought = λ some_part. absurd (omega arith);
        }
    one (suc j) v e = absurd (some-ne-none v (sym e))

pub deals : (seat : ℕ) (v : Knowledge) → v.makes ≡ true → Splits AreHalvesKept seat v (next_maker v) (new_session v)
deals seat v makes s k at =
    let old = (k.fits seat v at).of_maker makes in
    let left = next_maker v in
    let right = new_session v in
    let g : ℕ → SessionValue = with_session k.session_of v.number empty_session in
    let up : ℕ = v.number + 1 in
    let mine : Fits g k.maker up seat left = record {
      of_maker = λ _. (old.0, refl, old.2);
      below = λ (some_part : 0 < v.parts). absurd (omega arith);
      shows = λ (some_part : 0 < v.parts). absurd (omega arith);
      brought = λ (some_part : 0 < v.parts). absurd (omega arith);
    } in
    let new : (j : ℕ) → Fits g k.maker up j right = λ j. record {
      of_maker = λ on. off on;
      below = λ _. omega arith;
      shows = λ _. sym (session_here k.session_of v.number empty_session v.number refl);
      brought = λ _. sym (session_here k.session_of v.number empty_session v.number refl);
    } in
    let others : (j : ℕ) (u : Knowledge) → j ≢ seat → get_elem? s.views j ≡ some u → Fits k.session_of k.maker k.next j u
    → Fits g k.maker up j u = λ j u apart _ f. record {
      of_maker = λ is. absurd (apart ((f.of_maker is).0 ∙ sym old.0));
      below = λ (some_part : 0 < u.parts). (let low = f.below some_part in omega arith);
      shows = λ (some_part : 0 < u.parts). f.shows some_part
          ∙ sym (session_else k.session_of v.number empty_session u.number (λ (e : u.number ≡ v.number).
          (let low = f.below some_part in absurd (omega arith))));
      brought = λ (some_part : 0 < u.parts). f.brought some_part
          ∙ sym (session_else k.session_of v.number empty_session u.number (λ (e : u.number ≡ v.number).
          (let low = f.below some_part in absurd (omega arith))));
    } in
    record {
      session_of = g;
      maker = k.maker;
      next = up;
      fits = fits_more g k.maker up (set s.views seat left) right (fits_set k.session_of g k.maker k.next up s.views seat left k.fits others mine) new;
      two = λ n.
          (let a = parts_snoc n (set s.views seat left) right in
          let b = parts_set n s.views seat v left at in
          let c : parts_in n left ≡ 0 = none_in n left old.2 in
          let d = k.two n in
          dite (ℕ_discrete v.number n)
          (λ (e : v.number ≡ n).
          let h : parts_in n right ≡ 2 = parts_here n right e in
          let z : parts_of n s.views ≡ 0 =
          parts_none n s.views
          (λ j u there.
          dite (ℕ_discrete u.number n)
          (λ (same : u.number ≡ n).
          let f = k.fits j u there in
          none_in n u
          (dite (ℕ_discrete u.parts 0) (λ (q : u.parts ≡ 0). q) (λ (q : u.parts ≢ 0). let low = f.below (omega arith) in absurd (omega arith))))
          (λ (ne : u.number ≢ n). parts_else n u ne)) in
          omega arith)
          (λ (ne : v.number ≢ n). let h : parts_in n right ≡ 0 = parts_else n right ne in omega arith));
    }

half_parts : (b : Bool) (p : ℕ) → p ≡ 2 → cond b 1 0 + cond b 1 0 ≡ cond b p 0
half_parts true p e = sym e
half_parts false p e = refl

pub halves : (seat : ℕ) (v : Knowledge) → v.parts ≡ 2 → Splits AreHalvesKept seat v (half_of v) (half_of v)
halves seat v whole s k at =
    let old = k.fits seat v at in
    let h = half_of v in
    let fit : (j : ℕ) → Fits k.session_of k.maker k.next j h = λ j. record {
      of_maker = λ is. (let no = (old.of_maker is).2 in absurd (omega arith));
      below = λ _. old.below (omega arith);
      shows = λ _. old.shows (omega arith);
      brought = λ _. old.shows (omega arith);
    } in
    record {
      session_of = k.session_of;
      maker = k.maker;
      next = k.next;
      fits = fits_more k.session_of k.maker k.next (set s.views seat h) h
          (fits_set k.session_of k.session_of k.maker k.next k.next s.views seat h k.fits (λ j u _ _ f. f) (fit seat)) fit;
      two = λ n.
          (let a = parts_snoc n (set s.views seat h) h in
          let b = parts_set n s.views seat v h at in
          let c : parts_in n h + parts_in n h ≡ parts_in n v = half_parts (eqb v.number n) v.parts whole in
          let d = k.two n in
          omega arith);
    }

pub hands_over : (seat : ℕ) (v : Knowledge) → v.parts ≡ 1 → Splits AreHalvesKept seat v nobody v
hands_over seat v part s k at =
    let old = k.fits seat v at in
    let fit : (j : ℕ) → Fits k.session_of k.maker k.next j v = λ j.
    record { of_maker = λ is. (let no = (old.of_maker is).2 in absurd (omega arith)); below = old.below; shows = old.shows; brought = old.brought } in
    record {
      session_of = k.session_of;
      maker = k.maker;
      next = k.next;
      fits = fits_more k.session_of k.maker k.next (set s.views seat nobody) v
          (fits_set k.session_of k.session_of k.maker k.next k.next s.views seat nobody k.fits (λ j u _ _ f. f) (no_parts k.session_of k.maker k.next seat))
          fit;
      two = λ n.
          (let a = parts_snoc n (set s.views seat nobody) v in
          let b = parts_set n s.views seat v nobody at in
          let c : parts_in n nobody ≡ 0 = none_in n nobody refl in
          let d = k.two n in
          omega arith);
    }

cond_sum : (b : Bool) (p q : ℕ) → cond b (p + q) 0 ≡ cond b p 0 + cond b q 0
cond_sum true p q = refl
cond_sum false p q = refl

pub glues : (seat : ℕ) (v : Knowledge) (other : ℕ) (w : Knowledge) → v.parts ≡ 1 → w.parts ≡ 1 → v.number ≡ w.number
    → Joins AreHalvesKept seat v other w (joined v w) nobody
glues seat v other w one_part one_more same s k at apart there =
    let both = joined v w in
    let was : get_elem? s.views other ≡ some w = sym (set_else s.views seat other both apart) ∙ there in
    let mine = k.fits seat v at in
    let theirs = k.fits other w was in
    let joined : Fits k.session_of k.maker k.next seat both = record {
      of_maker = λ is. (let no = (mine.of_maker is).2 in absurd (omega arith));
      below = λ _. mine.below (omega arith);
      shows = λ _. mine.shows (omega arith);
      brought = λ _. theirs.shows (omega arith) ∙ ap k.session_of (sym same);
    } in
    let first : FitsAll k.session_of k.maker k.next (set s.views seat both) =
    fits_set k.session_of k.session_of k.maker k.next k.next s.views seat both k.fits (λ j u _ _ f. f) joined in
    record {
      session_of = k.session_of;
      maker = k.maker;
      next = k.next;
      fits = fits_set k.session_of k.session_of k.maker k.next k.next (set s.views seat both) other nobody first (λ j u _ _ f. f)
          (no_parts k.session_of k.maker k.next other);
      two = λ n.
          (let a = parts_set n s.views seat v both at in
          let b = parts_set n (set s.views seat both) other w nobody there in
          let c : parts_in n both ≡ parts_in n v + parts_in n w =
          cond_sum (eqb v.number n) v.parts w.parts ∙ ap (λ (m : ℕ). cond (eqb v.number n) v.parts 0 + cond (eqb m n) w.parts 0) same in
          let z : parts_in n nobody ≡ 0 = none_in n nobody refl in
          let d = k.two n in
          omega arith);
    }

pub changes : (slots seat : ℕ) (me : Seated) (p : SessionValue) → me.0.parts ≡ 2
    → Allows AreHalvesKept slots seat me 0 (λ n. n) (Changes p (step slots 0 0 0 none) me)
changes slots seat me p whole s k _ at _ =
    let v : Knowledge = me.0 in
    let old = k.fits seat v at in
    let w : Knowledge = record v { session = p; beside = p } in
    let g : ℕ → SessionValue = with_session k.session_of v.number p in
    let mine : Fits g k.maker k.next seat w = record {
      of_maker = old.of_maker;
      below = old.below;
      shows = λ _. sym (session_here k.session_of v.number p v.number refl);
      brought = λ _. sym (session_here k.session_of v.number p v.number refl);
    } in
    let other_number : (j : ℕ) (u : Knowledge) → j ≢ seat → get_elem? s.views j ≡ some u → 0 < u.parts → u.number ≢ v.number = λ j u apart there some_part same.
    (let a = parts_two v.number s.views seat j v u at there apart in
    let b = parts_here v.number v refl in
    let c = parts_here v.number u same in
    let d = k.two v.number in
    absurd (omega arith)) in
    let others : (j : ℕ) (u : Knowledge) → j ≢ seat → get_elem? s.views j ≡ some u → Fits k.session_of k.maker k.next j u
    → Fits g k.maker k.next j u = λ j u apart there f. record {
      of_maker = f.of_maker;
      below = f.below;
      shows = λ some_part. f.shows some_part ∙ sym (session_else k.session_of v.number p u.number (other_number j u apart there some_part));
      brought = λ some_part. f.brought some_part ∙ sym (session_else k.session_of v.number p u.number (other_number j u apart there some_part));
    } in (
      w,
      keeps,
      tt,
      record {
        session_of = g;
        maker = k.maker;
        next = k.next;
        fits = fits_set k.session_of g k.maker k.next k.next s.views seat w k.fits others mine;
        two = λ n. (let a = parts_set n s.views seat v w at in let d = k.two n in omega arith);
      },
      (old.brought (omega arith) ∙ sym (old.shows (omega arith)), refl),
    )

pub looks : (slots seat : ℕ) (me : Seated) → me.0.parts ≡ 2
    → Allows AreHalvesKept slots seat me 0 (λ n. n) (Agrees (step slots 0 0 0 none) me)
looks slots seat me whole s k _ at _ =
    let v : Knowledge = me.0 in
    let old = k.fits seat v at in (
      v,
      keeps,
      tt,
      record {
        session_of = k.session_of;
        maker = k.maker;
        next = k.next;
        fits = fits_set k.session_of k.session_of k.maker k.next k.next s.views seat v k.fits (λ j u _ _ f. f) old;
        two = λ n. (let a = parts_set n s.views seat v v at in let d = k.two n in omega arith);
      },
      (old.brought (omega arith) ∙ sym (old.shows (omega arith)), refl),
    )

get_snoc : {A : Type 0} (l : List A) (a b : A) (k : ℕ) → slice_get (l ++ a ∷ []) k ≡ Some b → (slice_get l k ≡ Some b) ⊎ ((k ≡ length l) × (a ≡ b))
get_snoc [] a b zero e = inr (refl, cc)
get_snoc [] a b (suc k) e = absurd (cc)
get_snoc (x ∷ xs) a b zero e = inl e
get_snoc (x ∷ xs) a b (suc k) e = ⊎_elim (λ (t : slice_get xs k ≡ Some b). inl t) (λ (t : (k ≡ length xs) × (a ≡ b)). inr (ap suc t.0, t.1))
    (get_snoc xs a b k e)

pub IsNew-push : (z : TableId) (l : List HalfValue) (h : HalfValue) → IsNew z l → h ≡ record { table = z; number = length l; session = empty_session }
    → IsNew z (l ++ h ∷ [])
IsNew-push z l h new is k u e =
    ⊎_elim (λ (t : slice_get l k ≡ Some u). new k u t)
    (λ (t : (k ≡ length l) × (h ≡ u)). sym t.1 ∙ (is ∙ ap (λ (n : ℕ). record { table = z; number = n; session = empty_session }) (sym t.0)))
    (get_snoc l h u k e)

pub IsNew-nil : (z : TableId) → IsNew z []
IsNew-nil z k h e = absurd (cc)

-- An event has one reply, unless memory is wanted; and that is wanted only where what is due takes some.
use Rattle.std.proofs.Common.{Bool, None, Option, Some, [], ap, arith, false, inl, inr, refl, subst, sym, true, true≢false, ℕ, ◌<◌, ◌∙◌, ◌∷◌, ◌≡◌, ◌≢◌, ◌≤◌}
use Rattle.std.specs.FinMap.{get}
use Rattle.std.specs.Ordering.{is_lt}
use Rattle.record_values.specs.Orders.{pair_cmp, pair_cmp-IsAntisymmetric, pair_cmp_total, rid_cmp, rid_cmp-IsAntisymmetric, rid_cmp_total}
use Rattle.records.specs.declared.change.Rows.TheVariants.{Deleted, Inserted, Updated}
use Rattle.record_values.specs.declared.error.Error.{Error}
use Rattle.record_values.specs.declared.limits.TheConstants.{ATTEMPTS_PER_CHECKPOINT}
use Rattle.record_values.specs.declared.pair.Pair.{Pair}
use Rattle.record_values.specs.declared.row.Row.{Row}
use Rattle.core_model.specs.States.{State}
use Rattle.core_model.specs.Steps.{CanClean, IsBuilding, MachineStep, Start}
use Rattle.model.specs.declared.life.Life.{Life}
use Rattle.model.specs.declared.life.Life.TheVariants.{Building, Complete}
use Rattle.core_model.specs.Events.{BuildReply, Built, CleanReply, Cleaned, Cleaner, Done, Event, Idle, Kept, Placed, Refused, Rejected, Reply, Scanned}
use Rattle.core_model.specs.Events.{Standing, Wrapped}
use Rattle.core_model.specs.Served.{HasStanding}
use Rattle.core_model.specs.Replies.{IsAllowed, IsBuildDue, IsCleanDue, IsStepDue, IsFirst, IsNextEntry, IsNextPair, Refusals, WantsMemory, accepted}
use Rattle.core_model.specs.Replies.{build_step, change_of, clean_step, no_memory, refusals, refusals_of, refused, refused_last, skipped, unknown}
use Rattle.core_laws.specs.Granted.{IsGranted}
use Rattle.core_laws.proofs.Levels.{level_by}
use Rattle.core_laws.proofs.Ordered.{sorted_one}

same_error : (a b : Error) → (◌≡◌ {A = Option Error} (Some a) (Some b)) → a ≡ b
same_error a b e = cc

no_error : (a : Error) → (◌≡◌ {A = Option Error} (Some a) None) → ⊥
no_error a e = absurd cc

same_row : (a b : Row) → (◌≡◌ {A = Option Row} (Some a) (Some b)) → a ≡ b
same_row a b e = cc

same_pair : (p q : Pair) → (◌≡◌ {A = Option Pair} (Some p) (Some q)) → p ≡ q
same_pair p q e = cc

first_one : (rs : Refusals) (a b : Option Error) → IsFirst rs a → IsFirst rs b → a ≡ b
first_one [] a b f g = f ∙ sym g
first_one (r ∷ rs) a b (inl f) (inl g) = f.1 ∙ sym g.1
first_one (r ∷ rs) a b (inl f) (inr g) = absurd (g.0 f.0)
first_one (r ∷ rs) a b (inr f) (inl g) = absurd (f.0 g.0)
first_one (r ∷ rs) a b (inr f) (inr g) = first_one rs a b f.1 g.1

complete_apart : (life : Life) → life ≡ Complete → IsBuilding life → ⊥
complete_apart life complete building = other building.0 (sym complete ∙ building.1)
  where
    other : (highest : Option Pair) → Complete ≡ Building highest → ⊥
    other highest e = absurd cc

-- whether want of memory is answered
abbrev IsWant : {s : State} {k : Standing} {e : Event} {r : Reply} {t : Option MachineStep} → IsAllowed s k e r t → Type 0
IsWant (unknown a) = ⊥
IsWant (skipped x y) = ⊥
IsWant (refused x y er f) = ⊥
IsWant (refused_last x y f r t d er g) = ⊥
IsWant (no_memory x y f r t d g w) = Unit {0}
IsWant (accepted x y f r t d g) = ⊥

module _ (s : State) (k : Standing) (h : HasStanding s k) where
  entry_one : (p q : Pair) → IsNextEntry s p → IsNextEntry s q → p ≡ q
  entry_one p q f g = level_by pair_cmp_total pair_cmp-IsAntisymmetric p q (pair_cmp p q) refl (g.least p f.there f.above_place)
      (f.least q g.there g.above_place)

  clean_one : (c d : CleanReply) → IsCleanDue s c → IsCleanDue s d → c ≡ d
  clean_one (Cleaned p) (Cleaned q) f g = ap Cleaned (entry_one p q f.0 g.0)
  clean_one (Cleaned p) (Kept q) f g = absurd (g.1 (subst (CanClean s) (entry_one p q f.0 g.0) f.1))
  clean_one (Cleaned p) Wrapped f g = absurd (f.0.there (g p f.0.above_place))
  clean_one (Kept p) (Cleaned q) f g = absurd (f.1 (subst (CanClean s) (entry_one q p g.0 f.0) g.1))
  clean_one (Kept p) (Kept q) f g = ap Kept (entry_one p q f.0 g.0)
  clean_one (Kept p) Wrapped f g = absurd (f.0.there (g p f.0.above_place))
  clean_one Wrapped (Cleaned q) f g = absurd (g.0.there (f q g.0.above_place))
  clean_one Wrapped (Kept q) f g = absurd (g.0.there (f q g.0.above_place))
  clean_one Wrapped Wrapped f g = refl

  -- ---- of what the builder has next, one thing is due
  -- a pair that a page gave, above the last one: none lies below one that comes next
  taken_left : (p : Pair) → s.given p ≡ true → (s.taken p.rid.page ≡ true → s.missed p ≡ true) → ⊥
  taken_left p given left = let once = h.once.given p given in true≢false (sym (left once.0) ∙ once.1)

  not_less : (p q : Pair) → IsNextPair s p → IsNextPair s q → is_lt (pair_cmp p q) ≡ false
  not_less p q f g = by (is_lt (pair_cmp p q)) refl
    where
      by : (b : Bool) → is_lt (pair_cmp p q) ≡ b → is_lt (pair_cmp p q) ≡ false
      by true less = absurd (taken_left p f.given (g.none_left p f.rising less))
      by false e = e

  pair_one : (p q : Pair) → IsNextPair s p → IsNextPair s q → p ≡ q
  pair_one p q f g = level_by pair_cmp_total pair_cmp-IsAntisymmetric p q (pair_cmp p q) refl (not_less p q f g) (not_less q p g f)

  few_many : (n : ℕ) → n < ATTEMPTS_PER_CHECKPOINT → ATTEMPTS_PER_CHECKPOINT ≤ n → ⊥
  few_many n few many = omega (arith, few, many)

  untaken_left : (page : ℕ) → page < s.pages → s.taken page ≡ false → ((n : ℕ) → n < s.pages → s.taken n ≡ true) → ⊥
  untaken_left page inside fresh all = true≢false (sym (all page inside) ∙ fresh)

  build_one : (b c : BuildReply) → IsBuildDue s k b → IsBuildDue s k c → b ≡ c
  build_one Idle Idle f g = refl
  build_one Idle (BuildReply.Marked q m) f g = absurd (complete_apart s.life f g.0)
  build_one Idle (Scanned page) f g = absurd (complete_apart s.life f g.0.0)
  build_one Idle (Placed q) f g = absurd (complete_apart s.life f g.0.0)
  build_one Idle (Rejected q) f g = absurd (complete_apart s.life f g.0.0)
  build_one Idle (Done m) f g = absurd (complete_apart s.life f g.0.0)
  build_one (BuildReply.Marked p n) Idle f g = absurd (complete_apart s.life g f.0)
  build_one (BuildReply.Marked p n) (BuildReply.Marked q m) f g = let same : p ≡ q = same_pair p q (sym f.2 ∙ g.2) in ap (λ x. BuildReply.Marked x n) same
      ∙ ap (BuildReply.Marked q) (f.3 ∙ sym g.3)
  build_one (BuildReply.Marked p n) (Scanned page) f g = absurd (few_many k.attempts g.0.1 f.1)
  build_one (BuildReply.Marked p n) (Placed q) f g = absurd (few_many k.attempts g.0.1 f.1)
  build_one (BuildReply.Marked p n) (Rejected q) f g = absurd (few_many k.attempts g.0.1 f.1)
  build_one (BuildReply.Marked p n) (Done m) f g = absurd (few_many k.attempts g.0.1 f.1)
  build_one (Scanned page) Idle f g = absurd (complete_apart s.life g f.0.0)
  build_one (Scanned page) (BuildReply.Marked q m) f g = absurd (few_many k.attempts f.0.1 g.1)
  build_one (Scanned page) (Scanned other) f g = ap Scanned (f.1 ∙ sym g.1)
  build_one (Scanned page) (Placed q) f g = absurd (untaken_left page f.2 f.3 g.1.all_taken)
  build_one (Scanned page) (Rejected q) f g = absurd (untaken_left page f.2 f.3 g.1.all_taken)
  build_one (Scanned page) (Done m) f g = absurd (untaken_left page f.2 f.3 g.1.all_taken)
  build_one (Placed p) Idle f g = absurd (complete_apart s.life g f.0.0)
  build_one (Placed p) (BuildReply.Marked q m) f g = absurd (few_many k.attempts f.0.1 g.1)
  build_one (Placed p) (Scanned page) f g = absurd (untaken_left page g.2 g.3 f.1.all_taken)
  build_one (Placed p) (Placed q) f g = ap Placed (pair_one p q f.1 g.1)
  build_one (Placed p) (Rejected q) f g = absurd (g.2 (subst (λ x. get s.entries x ≡ None) (pair_one p q f.1 g.1) f.2))
  build_one (Placed p) (Done m) f g = absurd (taken_left p f.1.given (g.1.none_left p f.1.rising))
  build_one (Rejected p) Idle f g = absurd (complete_apart s.life g f.0.0)
  build_one (Rejected p) (BuildReply.Marked q m) f g = absurd (few_many k.attempts f.0.1 g.1)
  build_one (Rejected p) (Scanned page) f g = absurd (untaken_left page g.2 g.3 f.1.all_taken)
  build_one (Rejected p) (Placed q) f g = absurd (f.2 (subst (λ x. get s.entries x ≡ None) (pair_one q p g.1 f.1) g.2))
  build_one (Rejected p) (Rejected q) f g = ap Rejected (pair_one p q f.1 g.1)
  build_one (Rejected p) (Done m) f g = absurd (taken_left p f.1.given (g.1.none_left p f.1.rising))
  build_one (Done n) Idle f g = absurd (complete_apart s.life g f.0.0)
  build_one (Done n) (BuildReply.Marked q m) f g = absurd (few_many k.attempts f.0.1 g.1)
  build_one (Done n) (Scanned page) f g = absurd (untaken_left page g.2 g.3 f.1.all_taken)
  build_one (Done n) (Placed q) f g = absurd (taken_left q g.1.given (f.1.none_left q g.1.rising))
  build_one (Done n) (Rejected q) f g = absurd (taken_left q g.1.given (f.1.none_left q g.1.rising))
  build_one (Done n) (Done m) f g = ap Done (f.2 ∙ sym g.2)

  abbrev AreOne : Reply → Reply → Option MachineStep → Option MachineStep → Type 0
  AreOne r r' t t' = (r ≡ r') × (t ≡ t')

  due_one : (e : Event) → (r r' : Reply) (t t' : Option MachineStep) → IsStepDue s k e r t → IsStepDue s k e r' t' → AreOne r r' t t'
  due_one Event.Begin r r' t t' f g = (f.0 ∙ sym g.0, f.1 ∙ sym g.1)
  due_one (Event.Insert u row) r r' t t' f g =
      let same = level_by rid_cmp_total rid_cmp-IsAntisymmetric f.0 g.0 (rid_cmp f.0 g.0) refl (g.1.least f.0 f.1.free) (f.1.least g.0 g.1.free) in
      (f.2 ∙ ap Reply.Rid same ∙ sym g.2, f.3 ∙ ap (λ p. Some (Start u (change_of s u p (Inserted row)))) same ∙ sym g.3)
  due_one (Event.Delete u p) r r' t t' f g =
      let same = same_row f.0 g.0 (sym f.1 ∙ g.1) in
      (f.2 ∙ sym g.2, f.3 ∙ ap (λ old. Some (Start u (change_of s u p (Deleted old)))) same ∙ sym g.3)
  due_one (Event.Update u p row) r r' t t' f g =
      let same = same_row f.0 g.0 (sym f.1 ∙ g.1) in
      (f.2 ∙ sym g.2, f.3 ∙ ap (λ old. Some (Start u (change_of s u p (Updated old row)))) same ∙ sym g.3)
  due_one (Event.Step u) r r' t t' f g = (f.0 ∙ sym g.0, f.1 ∙ sym g.1)
  due_one (Event.Undo u) r r' t t' f g = (
    elim f.0 [
      | inl none ↦ elim g.0 [ inl none' ↦ none.1 ∙ sym none'.1 | inr some' ↦ absurd (some'.0 none.0) ]
      | inr some ↦ elim g.0 [ inl none' ↦ absurd (some.0 none'.0) | inr some' ↦ some.1 ∙ sym some'.1 ]
    ],
    f.1 ∙ sym g.1,
  )
  due_one (Event.End u) r r' t t' f g = (f.0 ∙ sym g.0, f.1 ∙ sym g.1)
  due_one (Event.Commit u) r r' t t' f g = (f.0 ∙ sym g.0, f.1 ∙ sym g.1)
  due_one Event.Create r r' t t' f g = (f.0 ∙ sym g.0, f.1 ∙ sym g.1)
  due_one Event.Build r r' t t' f g =
      let same = build_one f.0 g.0 f.1 g.1 in
      (f.2 ∙ ap Built same ∙ sym g.2, f.3 ∙ ap build_step same ∙ sym g.3)
  due_one Event.Clean r r' t t' f g =
      let same = clean_one f.0 g.0 f.1 g.1 in
      (f.2 ∙ ap Cleaner same ∙ sym g.2, f.3 ∙ ap (λ c. Some (clean_step c)) same ∙ sym g.3)
  due_one (Event.Get p) r r' t t' f g = (f.0 ∙ sym g.0, f.1 ∙ sym g.1)
  due_one (Event.Find key) r r' t t' f g =
      let same : f.0 ≡ g.0 = sorted_one f.0 g.0 f.1.in_order g.1.in_order (λ q c. (g.1.live q).1 ((f.1.live q).0 c)) (λ q c.
      (f.1.live q).1 ((g.1.live q).0 c)) in
      (f.2 ∙ ap Reply.Found same ∙ sym g.2, f.3 ∙ sym g.3)
  due_one Event.Life r r' t t' f g = (f.0 ∙ sym g.0, f.1 ∙ sym g.1)
  due_one Event.Drop r r' t t' f g = (f.0 ∙ sym g.0, f.1 ∙ sym g.1)

  module _ (e : Event) where
    -- the last refusals of the step that is due
    last_one : (r r' : Reply) (t t' : Option MachineStep) → IsStepDue s k e r t → IsStepDue s k e r' t' → (a b : Option Error) → IsFirst (refusals_of s k t) a
        → IsFirst (refusals_of s k t') b → a ≡ b
    last_one r r' t t' d d' a b f g = first_one (refusals_of s k t') a b (subst (λ x. IsFirst (refusals_of s k x) a) (due_one e r r' t t' d d').1 f) g

    one : (r r' : Reply) (t t' : Option MachineStep) (a : IsAllowed s k e r t) (b : IsAllowed s k e r' t') → (IsWant a → ⊥) → (IsWant b → ⊥) → AreOne r r' t t'
    one r r' t t' (unknown a) (unknown b) n n' = (refl, refl)
    one r r' t t' (unknown a) (skipped x y) n n' = absurd (x a)
    one r r' t t' (unknown a) (refused x y er f) n n' = absurd (x a)
    one r r' t t' (unknown a) (refused_last x y f r0 t0 d er g) n n' = absurd (x a)
    one r r' t t' (unknown a) (no_memory x y f r0 t0 d g w) n n' = absurd (x a)
    one r r' t t' (unknown a) (accepted x y f r0 t0 d g) n n' = absurd (x a)
    one r r' t t' (skipped x y) (unknown a) n n' = absurd (x a)
    one r r' t t' (skipped x y) (skipped x' y') n n' = (refl, refl)
    one r r' t t' (skipped x y) (refused x' y' er f) n n' = absurd (y y')
    one r r' t t' (skipped x y) (refused_last x' y' f r0 t0 d er g) n n' = absurd (y y')
    one r r' t t' (skipped x y) (no_memory x' y' f r0 t0 d g w) n n' = absurd (y y')
    one r r' t t' (skipped x y) (accepted x' y' f r0 t0 d g) n n' = absurd (y y')
    one r r' t t' (refused x y er f) (unknown a) n n' = absurd (x a)
    one r r' t t' (refused x y er f) (skipped x' y') n n' = absurd (y' y)
    one r r' t t' (refused x y er f) (refused x' y' er' f') n n' = (ap Refused (same_error er er' (first_one (refusals s k e) (Some er) (Some er') f f')), refl)
    one r r' t t' (refused x y er f) (refused_last x' y' f' r0 t0 d er' g) n n' = absurd (no_error er (first_one (refusals s k e) (Some er) None f f'))
    one r r' t t' (refused x y er f) (no_memory x' y' f' r0 t0 d g w) n n' = absurd (n' tt)
    one r r' t t' (refused x y er f) (accepted x' y' f' r0 t0 d g) n n' = absurd (no_error er (first_one (refusals s k e) (Some er) None f f'))
    one r r' t t' (refused_last x y f r0 t0 d er g) (unknown a) n n' = absurd (x a)
    one r r' t t' (refused_last x y f r0 t0 d er g) (skipped x' y') n n' = absurd (y' y)
    one r r' t t' (refused_last x y f r0 t0 d er g) (refused x' y' er' f') n n' = absurd (no_error er' (first_one (refusals s k e) (Some er') None f' f))
    one r r' t t' (refused_last x y f r0 t0 d er g) (refused_last x' y' f' r1 t1 d' er' g') n n' =
        (ap Refused (same_error er er' (last_one r0 r1 t0 t1 d d' (Some er) (Some er') g g')), refl)
    one r r' t t' (refused_last x y f r0 t0 d er g) (no_memory x' y' f' r1 t1 d' g' w) n n' = absurd (n' tt)
    one r r' t t' (refused_last x y f r0 t0 d er g) (accepted x' y' f' r1 t1 d' g') n n' = absurd (no_error er (last_one r0 r1 t0 t1 d d' (Some er) None g g'))
    one r r' t t' (no_memory x y f r0 t0 d g w) other n n' = absurd (n tt)
    one r r' t t' (accepted x y f r0 t0 d g) (unknown a) n n' = absurd (x a)
    one r r' t t' (accepted x y f r0 t0 d g) (skipped x' y') n n' = absurd (y' y)
    one r r' t t' (accepted x y f r0 t0 d g) (refused x' y' er' f') n n' = absurd (no_error er' (first_one (refusals s k e) (Some er') None f' f))
    one r r' t t' (accepted x y f r0 t0 d g) (refused_last x' y' f' r1 t1 d' er' g') n n' =
        absurd (no_error er' (last_one r1 r0 t1 t0 d' d (Some er') None g' g))
    one r r' t t' (accepted x y f r0 t0 d g) (no_memory x' y' f' r1 t1 d' g' w) n n' = absurd (n' tt)
    one r r' t t' (accepted x y f r0 t0 d g) (accepted x' y' f' r1 t1 d' g') n n' = due_one e r0 r1 t0 t1 d d'

    -- a reply other than want of memory
    plain : (r : Reply) (t : Option MachineStep) (a : IsAllowed s k e r t) → r ≢ Refused Error.NoMemory → IsWant a → ⊥
    plain r t (unknown a) n w = w
    plain r t (skipped x y) n w = w
    plain r t (refused x y er f) n w = w
    plain r t (refused_last x y f r0 t0 d er g) n w = w
    plain r t (no_memory x y f r0 t0 d g wants) n w = n refl
    plain r t (accepted x y f r0 t0 d g) n w = w

    pub reply_one : (r r' : Reply) (t t' : Option MachineStep) → IsAllowed s k e r t → IsAllowed s k e r' t' → r ≢ Refused Error.NoMemory
        → r' ≢ Refused Error.NoMemory → AreOne r r' t t'
    reply_one r r' t t' a b n n' = one r r' t t' a b (plain r t a n) (plain r' t' b n')

    -- where another reply is allowed too, its step takes memory
    wanted : (r r' : Reply) (t t' : Option MachineStep) (a : IsAllowed s k e r t) (b : IsAllowed s k e r' t') → (IsWant a → ⊥) → IsWant b → WantsMemory s e t
    wanted r r' t t' (unknown a) (no_memory x y f r0 t0 d g w) n is = absurd (x a)
    wanted r r' t t' (skipped x y) (no_memory x' y' f r0 t0 d g w) n is = absurd (y y')
    wanted r r' t t' (refused x y er f) (no_memory x' y' f' r0 t0 d g w) n is = absurd (no_error er (first_one (refusals s k e) (Some er) None f f'))
    wanted r r' t t' (refused_last x y f r0 t0 d er g) (no_memory x' y' f' r1 t1 d' g' w) n is =
        absurd (no_error er (last_one r0 r1 t0 t1 d d' (Some er) None g g'))
    wanted r r' t t' (no_memory x y f r0 t0 d g w) (no_memory x' y' f' r1 t1 d' g' w') n is = absurd (n tt)
    wanted r r' t t' (accepted x y f r0 t0 d g) (no_memory x' y' f' r1 t1 d' g' w) n is = subst (WantsMemory s e) (sym (due_one e r0 r1 t0 t1 d d').1) w
    wanted r r' t t' a (unknown b) n is = absurd is
    wanted r r' t t' a (skipped x y) n is = absurd is
    wanted r r' t t' a (refused x y er f) n is = absurd is
    wanted r r' t t' a (refused_last x y f r0 t0 d er g) n is = absurd is
    wanted r r' t t' a (accepted x y f r0 t0 d g) n is = absurd is

    -- want of memory is answered as such, and in no other way
    answered : (r r' : Reply) (t t' : Option MachineStep) (a : IsAllowed s k e r t) (b : IsAllowed s k e r' t') → r ≢ Refused Error.NoMemory
        → r' ≡ Refused Error.NoMemory → IsWant b
    answered r r' t t' a (unknown b) n is = absurd (n ((one r r' t t' a (unknown b) (plain r t a n) (λ w. w)).0 ∙ is))
    answered r r' t t' a (skipped x y) n is = absurd (n ((one r r' t t' a (skipped x y) (plain r t a n) (λ w. w)).0 ∙ is))
    answered r r' t t' a (refused x y er f) n is = absurd (n ((one r r' t t' a (refused x y er f) (plain r t a n) (λ w. w)).0 ∙ is))
    answered r r' t t' a (refused_last x y f r0 t0 d er g) n is =
        absurd (n ((one r r' t t' a (refused_last x y f r0 t0 d er g) (plain r t a n) (λ w. w)).0 ∙ is))
    answered r r' t t' a (no_memory x y f r0 t0 d g w) n is = tt
    answered r r' t t' a (accepted x y f r0 t0 d g) n is = absurd (n ((one r r' t t' a (accepted x y f r0 t0 d g) (plain r t a n) (λ w. w)).0 ∙ is))

    pub memory_wanted : (r : Reply) (t t' : Option MachineStep) → IsAllowed s k e r t → r ≢ Refused Error.NoMemory → IsAllowed s k e (Refused Error.NoMemory) t'
        → WantsMemory s e t
    memory_wanted r t t' a n b = wanted r (Refused Error.NoMemory) t t' a b (plain r t a n) (answered r (Refused Error.NoMemory) t t' a b n refl)

    -- ---- and that reply is no refusal, nor is the event skipped
    due_granted : (ev : Event) (r : Reply) (t : Option MachineStep) → IsStepDue s k ev r t → IsGranted r
    due_granted Event.Begin r t d = subst IsGranted (sym d.0) tt
    due_granted (Event.Insert u row) r t d = subst IsGranted (sym d.2) tt
    due_granted (Event.Delete u p) r t d = subst IsGranted (sym d.2) tt
    due_granted (Event.Update u p row) r t d = subst IsGranted (sym d.2) tt
    due_granted (Event.Step u) r t d = subst IsGranted (sym d.0) tt
    due_granted (Event.Undo u) r t d = elim d.0 [ inl none ↦ subst IsGranted (sym none.1) tt | inr some ↦ subst IsGranted (sym some.1) tt ]
    due_granted (Event.End u) r t d = subst IsGranted (sym d.0) tt
    due_granted (Event.Commit u) r t d = subst IsGranted (sym d.0) tt
    due_granted Event.Create r t d = subst IsGranted (sym d.0) tt
    due_granted Event.Build r t d = subst IsGranted (sym d.2) tt
    due_granted Event.Clean r t d = subst IsGranted (sym d.2) tt
    due_granted (Event.Get p) r t d = subst IsGranted (sym d.0) tt
    due_granted (Event.Find key) r t d = subst IsGranted (sym d.2) tt
    due_granted Event.Life r t d = subst IsGranted (sym d.0) tt
    due_granted Event.Drop r t d = subst IsGranted (sym d.0) tt

    granted : (r r' : Reply) (t t' : Option MachineStep) (a : IsAllowed s k e r t) (b : IsAllowed s k e r' t') → (IsWant a → ⊥) → IsWant b → IsGranted r
    granted r r' t t' (unknown a) (no_memory x y f r0 t0 d g w) n is = absurd (x a)
    granted r r' t t' (skipped x y) (no_memory x' y' f r0 t0 d g w) n is = absurd (y y')
    granted r r' t t' (refused x y er f) (no_memory x' y' f' r0 t0 d g w) n is = absurd (no_error er (first_one (refusals s k e) (Some er) None f f'))
    granted r r' t t' (refused_last x y f r0 t0 d er g) (no_memory x' y' f' r1 t1 d' g' w) n is =
        absurd (no_error er (last_one r0 r1 t0 t1 d d' (Some er) None g g'))
    granted r r' t t' (no_memory x y f r0 t0 d g w) (no_memory x' y' f' r1 t1 d' g' w') n is = absurd (n tt)
    granted r r' t t' (accepted x y f r0 t0 d g) (no_memory x' y' f' r1 t1 d' g' w) n is = due_granted e r0 t0 d
    granted r r' t t' a (unknown b) n is = absurd is
    granted r r' t t' a (skipped x y) n is = absurd is
    granted r r' t t' a (refused x y er f) n is = absurd is
    granted r r' t t' a (refused_last x y f r0 t0 d er g) n is = absurd is
    granted r r' t t' a (accepted x y f r0 t0 d g) n is = absurd is

    pub memory_granted : (r : Reply) (t t' : Option MachineStep) → IsAllowed s k e r t → r ≢ Refused Error.NoMemory
        → IsAllowed s k e (Refused Error.NoMemory) t' → IsGranted r
    memory_granted r t t' a n b = granted r (Refused Error.NoMemory) t t' a b (plain r t a n) (answered r (Refused Error.NoMemory) t t' a b n refl)

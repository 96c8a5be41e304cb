-- What a copy of a disk of which not all can be read comes to, sector by sector.
use Rattle.std.proofs.Common.{All, ◌≡◌, ◌⊎◌, inl, inr, ⊎_elim, ℕ, ◌+◌, ◌<◌, ◌≤◌, Bool, true, false, List, [], ◌∷◌, ◌++◌, length}
use Rattle.std.proofs.Common.{refl, sym, ◌∙◌, ap, subst, arith}
use Rattle.std.specs.Prelude.{Contains}
use Rattle.std.proofs.lemmas.Bool.{cases_eq, cases_lt}
use Rattle.std.proofs.lemmas.List.Elements.{All-push, All-weaker, Contains-append_left, Contains-push}
use Rattle.std.proofs.lemmas.List.Quantifiers.{all_pairs_push}
use Rattle.sector_device.specs.Disk.{CrashState, sector, SameOutside}
use Rattle.sector_device.specs.DevicePast.{Rises}
use Rattle.store_salvage.specs.Copied.{AreCopiedBut, AreUnread, IsCopiedOr, IsUnread, unread_sector}

-- nothing was written
pub same_here : (S : ℕ → Type 0) (image : CrashState) → SameOutside S image image
same_here S image = record { sectors = refl; same = λ k out. refl }

module _ (unread : List ℕ) (n : ℕ) (from now next : CrashState) (copied : AreCopiedBut unread n from now) (others : SameOutside (λ k. k ≡ n) now next) where
  -- one sector more was read
  pub copied_more : sector next n ≡ sector from n → AreCopiedBut unread (n + 1) from next
  copied_more this k below = ⊎_elim
      (λ (same : k ≡ n). inl (ap (sector next) same ∙ this ∙ sym (ap (sector from) same)))
      (λ other. ⊎_elim
      (λ (is : sector now k ≡ sector from k). inl (others.same k other ∙ is))
      (λ (is : Contains unread k × (sector now k ≡ unread_sector)). inr (is.0, others.same k other ∙ is.1))
      (copied k (omega (arith, below, other))))
      (cases_eq k n)

  -- one more could not be read
  pub unread_more : sector next n ≡ unread_sector → AreCopiedBut (unread ++ n ∷ []) (n + 1) from next
  unread_more this k below = ⊎_elim
      (λ (same : k ≡ n). inr (subst (λ (m : ℕ). Contains (unread ++ n ∷ []) m) (sym same) (Contains-push unread n), ap (sector next) same ∙ this))
      (λ other. ⊎_elim
      (λ (is : sector now k ≡ sector from k). inl (others.same k other ∙ is))
      (λ (is : Contains unread k × (sector now k ≡ unread_sector)).
      inr (Contains-append_left unread (n ∷ []) k is.0, others.same k other ∙ is.1))
      (copied k (omega (arith, below, other))))
      (cases_eq k n)

-- and those behind the last one stay
pub rest_more : (n sectors : ℕ) (first now next : CrashState) → n < sectors → SameOutside (λ k. k < sectors) first now
    → SameOutside (λ k. k ≡ n) now next → SameOutside (λ k. k < sectors) first next
rest_more n sectors first now next below so_far others = record {
  sectors = others.sectors ∙ so_far.sectors;
  same = λ k out. others.same k (λ is. out (omega (arith, is, below)))
      ∙ so_far.same k out;
}

-- ---- one sector

pub was_read : (read : Bool) (from to : CrashState) (n : ℕ) → read ≡ true → IsCopiedOr read from to n → sector to n ≡ sector from n
was_read read from to n is copied = subst (λ (r : Bool). IsCopiedOr r from to n) is copied

pub was_not_read : (read : Bool) (from to : CrashState) (n : ℕ) → read ≡ false → IsCopiedOr read from to n → sector to n ≡ unread_sector
was_not_read read from to n is copied = subst (λ (r : Bool). IsCopiedOr r from to n) is copied

-- ---- why sectors can't be read

-- no sector was copied yet
pub none_unread : (from to : CrashState) (before : ℕ) → AreUnread [] 0 from to before before
none_unread from to before = record {
  rising = λ i j d rises within. absurd (omega (arith, within));
  failed = λ k. before;
  first = refl;
  last = refl;
  later = λ n below. absurd (omega (arith, below));
  each = λ k d within. absurd (omega (arith, within));
}

-- one turn more: up to its beginning as before, and this count from its end on
abbrev pick : {P Q : Type 0} → P ⊎ Q → (now before : ℕ) → ℕ
pick (inl p) now before = now
pick (inr q) now before = before

abbrev and_turn : (ℕ → ℕ) → (n now : ℕ) → ℕ → ℕ
and_turn failed n now k = pick (cases_lt n k) now (failed k)

pick_before : (n k now before : ℕ) (s : (n < k) ⊎ (k ≤ n)) → k ≤ n → pick s now before ≡ before
pick_before n k now before (inl lt) le = absurd (omega (arith, lt, le))
pick_before n k now before (inr ge) le = refl

pick_now : (n k now before : ℕ) (s : (n < k) ⊎ (k ≤ n)) → n < k → pick s now before ≡ now
pick_now n k now before (inl lt) past = refl
pick_now n k now before (inr ge) past = absurd (omega (arith, ge, past))

same_before : (failed : ℕ → ℕ) (n now k : ℕ) → k ≤ n → and_turn failed n now k ≡ failed k
same_before failed n now k le = pick_before n k now (failed k) (cases_lt n k) le

at_end : (failed : ℕ → ℕ) (n now : ℕ) → and_turn failed n now (n + 1) ≡ now
at_end failed n now = pick_now n (n + 1) now (failed (n + 1)) (cases_lt n (n + 1)) (omega arith)

same_why : (P : Type 0) (a b c d : ℕ) → c ≡ a → d ≡ b → P ⊎ Rises a b → P ⊎ Rises c d
same_why P a b c d first second why = rw (first, second) why

module _ (unread : List ℕ) (n : ℕ) (from now next : CrashState) (a b c : ℕ) (so_far : AreUnread unread n from now a b)
    (others : SameOutside (λ k. k ≡ n) now next) (later : b ≤ c) where
  turns : ℕ → ℕ
  turns = and_turn so_far.failed n c

  begins_so : turns 0 ≡ a
  unfolding turns
  begins_so = same_before so_far.failed n c 0 (omega arith) ∙ so_far.first

  still : (k : ℕ) → k ≤ n → turns k ≡ so_far.failed k
  unfolding turns
  still k le = same_before so_far.failed n c k le

  ends_so : turns (n + 1) ≡ c
  unfolding turns
  ends_so = at_end so_far.failed n c

  goes_on : (k : ℕ) → k < n + 1 → turns k ≤ turns (k + 1)
  goes_on k below = ⊎_elim
      (λ (lt : k < n). rw (still k (omega (arith, lt)), still (k + 1) (omega (arith, lt))) (so_far.later k lt))
      (λ (ge : n ≤ k). let same : k ≡ n = omega (arith, below, ge) in
      rw same (rw (still n (omega arith) ∙ so_far.last, ends_so) later))
      (cases_lt k n)

  all_still : All (IsUnread (n + 1) from next turns) unread
  all_still = All-weaker (IsUnread n from now so_far.failed) (IsUnread (n + 1) from next turns)
      (λ k is. (
        omega (arith, is.0),
        others.same k (λ same. omega (arith, same, is.0)) ∙ is.1,
        same_why _ _ _ _ _ (still k (omega (arith, is.0))) (still (k + 1) (omega (arith, is.0))) is.2,
      ))
      unread so_far.each

  -- one sector more was copied
  pub still_unread : AreUnread unread (n + 1) from next a c
  still_unread = record {
    rising = so_far.rising;
    failed = turns;
    first = begins_so;
    last = ends_so;
    later = goes_on;
    each = all_still;
  }

  -- and can't be read
  pub unread_next : sector next n ≡ unread_sector → (length from ≤ n) ⊎ Rises b c → AreUnread (unread ++ n ∷ []) (n + 1) from next a c
  unread_next this why = record {
    rising = all_pairs_push (λ k m. k < m) unread n so_far.rising (λ k d within. (so_far.each k d within).0);
    failed = turns;
    first = begins_so;
    last = ends_so;
    later = goes_on;
    each = All-push (IsUnread (n + 1) from next turns) unread n all_still
        (omega arith, this, same_why _ _ _ _ _ (still n (omega arith) ∙ so_far.last) ends_so why);
  }

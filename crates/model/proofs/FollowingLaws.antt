-- Which records can follow one another.
use Rattle.std.proofs.Common.{refl, inl, Some, Option, is_some, false, true, Bool, None, ◌≡◌, ◌↔◌, ⊎_elim, inr, nat_lt, ℕ, ◌+◌, ◌-◌, ◌<◌, ◌≤◌, List, [], ◌∷◌}
use Rattle.std.proofs.Common.{◌++◌, length, take, drop, get_or, IsTrue, ◌==◌, sym, ap, subst, ◌∙◌, arith, length-append}
use Rattle.std.proofs.lemmas.Bool.{eq-eqb, eqb-true, ltb-true, lt-ltb, cases_lt}
use Rattle.std.proofs.lemmas.List.{take_more, drop_more, length-take-le, take-append-drop, take-append-le}
use Rattle.std.proofs.Math.Seq.{take-length, take-append_seam, get_or-append_seam}
use Rattle.std.proofs.Math.ListN.{get_or-append}
use Rattle.records.specs.ChangeValue.{ChangeValue}
use Rattle.records.specs.RecordValue.{RecordValue}
use Rattle.std.specs.FinMap as map
use Rattle.record_values.specs.declared.txn.TheConstants.{TXNS_MAX}
use Rattle.model.specs.Cells.{Cells, Pending, set_by, cells_after}
use Rattle.model.proofs.CellsLaws.{cells_after_one_more}
use Rattle.model.specs.Following.{IsLastOf, IsAdmitted, CanFollow, AreFollowing, IsFirstUnfit}

-- ---- the last change of a list

pub last_is : (changes : List ChangeValue) (c x : ChangeValue) (p : ℕ) → 1 ≤ length changes → x ≡ get_or changes (length changes - 1) x → x ≡ c → p ≡ c.position
    → IsTrue (p == length (take (length changes - 1) changes)) ↔ IsLastOf changes c
last_is changes c x p some is same place =
    let n = length changes - 1 in
    let up : n + 1 ≡ length changes = omega arith in
    let parts : changes ≡ take n changes ++ c ∷ [] =
    sym (take-length changes) ∙ ap (λ k. take k changes) (sym up) ∙ take_more changes n x (omega arith)
    ∙ ap (λ y. take n changes ++ y ∷ []) (sym is ∙ same) in (
      (λ test. (take n changes, parts, sym place ∙ eqb-true _ _ test)),
      (λ (earlier, all, at). eq-eqb _ _ (omega (
        arith,
        place,
        at,
        ap length all,
        ap length parts,
        length-append earlier (c ∷ []),
        length-append (take n changes) (c ∷ []),
      ))),
    )

pub last_is_not : (changes : List ChangeValue) (c x : ChangeValue) → x ≡ get_or changes (length changes - 1) x → ¬ (x ≡ c) → ¬ IsLastOf changes c
last_is_not changes c x is other (earlier, all, at) =
    let n : length changes - 1 ≡ length earlier = omega (arith, ap length all, length-append earlier (c ∷ [])) in
    other (is ∙ ap (λ k. get_or changes k x) n ∙ ap (λ (xs : List ChangeValue). get_or xs (length earlier) x) all ∙ get_or-append_seam earlier c [] x)

-- ---- records

pub following-append : (pages last : ℕ) (cells : Cells) (records later : List RecordValue) → AreFollowing pages last cells records
    → AreFollowing pages (last + length records) (cells_after cells records) later → AreFollowing pages last cells (records ++ later)
following-append pages last cells [] later before after = subst (λ n. AreFollowing pages n cells later) (omega arith) after
following-append pages last cells (r ∷ records) later before after = (
  before.0,
  following-append pages (last + 1) (set_by cells r.action) records later before.1
      (subst (λ n. AreFollowing pages n (cells_after (set_by cells r.action) records) later) (omega arith) after),
)

pub following_front : (pages last : ℕ) (cells : Cells) (records later : List RecordValue) → AreFollowing pages last cells (records ++ later)
    → AreFollowing pages last cells records
following_front pages last cells [] later all = tt
following_front pages last cells (r ∷ records) later all = (all.0, following_front pages (last + 1) (set_by cells r.action) records later all.1)

pub following_back : (pages last : ℕ) (cells : Cells) (records later : List RecordValue) → AreFollowing pages last cells (records ++ later)
    → AreFollowing pages (last + length records) (cells_after cells records) later
following_back pages last cells [] later all = subst (λ n. AreFollowing pages n cells later) (omega arith) all
following_back pages last cells (r ∷ records) later all =
    subst (λ n. AreFollowing pages n (cells_after (set_by cells r.action) records) later) (omega arith)
    (following_back pages (last + 1) (set_by cells r.action) records later all.1)

-- one record more, at the end
pub following_push : (pages last : ℕ) (cells : Cells) (records : List RecordValue) (r : RecordValue) → AreFollowing pages last cells records
    → CanFollow pages (last + length records) (cells_after cells records) r → AreFollowing pages last cells (records ++ r ∷ [])
following_push pages last cells records r follow can = following-append pages last cells records (r ∷ []) follow (can, tt)

-- each prefix
pub following-take : (pages last : ℕ) (cells : Cells) (records : List RecordValue) (n : ℕ) → AreFollowing pages last cells records
    → AreFollowing pages last cells (take n records)
following-take pages last cells records n follow =
    following_front pages last cells (take n records) (drop n records) (subst (AreFollowing pages last cells) (sym (take-append-drop n records)) follow)

-- where one can't follow, they are not following, whatever comes behind
pub not_following : (pages last : ℕ) (cells : Cells) (records : List RecordValue) (n : ℕ) → IsFirstUnfit pages last cells records n
    → ¬ AreFollowing pages last cells records
not_following pages last cells records n unfit all =
    let parts = subst (AreFollowing pages last cells) unfit.all all in
    let rest = following_back pages last cells unfit.earlier (unfit.unfit ∷ unfit.later) parts in
    unfit.refused (subst (λ k. CanFollow pages k (cells_after cells unfit.earlier) unfit.unfit) (ap (λ k. last + k) (sym unfit.index)) rest.0)

-- ---- room for a transaction

pub room_test : (pending : Pending) (txn n : ℕ) → map.get pending txn ≡ None → n ≡ length (map.entries pending) → IsTrue (nat_lt n TXNS_MAX)
    ↔ IsAdmitted pending txn
room_test pending txn n none is = (
  (λ test. inr (omega (arith, is, ltb-true _ _ test))),
  (λ room. ⊎_elim (λ some. absurd (some none)) (λ less. lt-ltb _ _ (omega (arith, less, is))) room),
)

pub none_is : {A : Type 0} (o : Option A) → is_some o ≡ false → o ≡ None
none_is None e = refl
none_is (Some a) e = absurd cc

pub room_there : (pending : Pending) (txn : ℕ) (b : Bool) → b ≡ is_some (map.get pending txn) → b ≡ true → IsTrue b ↔ IsAdmitted pending txn
room_there pending txn b is e = ((λ test. inl (λ none. absurd (both_ways (sym e ∙ is ∙ ap is_some none)))), (λ room. e))
  where
    both_ways : true ≡ false → ⊥
    both_ways h = absurd cc

-- ---- the records up to an index

module _ (pages last : ℕ) (cells : Cells) (records : List RecordValue) (i : ℕ) (r : RecordValue) (inside : i < length records) (is : r ≡ get_or records i r)
    (before : AreFollowing pages last cells (take i records)) where
  abbrev Can : Type 0
  Can = CanFollow pages (last + i) (cells_after cells (take i records)) r

  size : length (take i records) ≡ i
  size = length-take-le i records (omega arith)

  one_more : take (i + 1) records ≡ take i records ++ r ∷ []
  one_more = take_more records i r inside ∙ ap (λ x. take i records ++ x ∷ []) (sym is)

  pub cells_one_more : cells_after cells (take (i + 1) records) ≡ set_by (cells_after cells (take i records)) r.action
  cells_one_more = ap (cells_after cells) one_more ∙ cells_after_one_more cells (take i records) r

  pub following_one_more : Can → AreFollowing pages last cells (take (i + 1) records)
  following_one_more can =
      let behind : AreFollowing pages (last + length (take i records)) (cells_after cells (take i records)) (r ∷ []) =
      subst (λ n. AreFollowing pages (last + n) (cells_after cells (take i records)) (r ∷ [])) (sym size) (can, tt) in
      subst (AreFollowing pages last cells) (sym one_more) (following-append pages last cells (take i records) (r ∷ []) before behind)

  pub first_unfit : ¬ Can → IsFirstUnfit pages last cells records i
  first_unfit cannot = record {
    earlier = take i records;
    unfit = r;
    later = drop (i + 1) records;
    all = sym (take-append-drop i records) ∙ ap (λ xs. take i records ++ xs) (drop_more records i r inside ∙ ap (λ x. x ∷ drop (i + 1) records) (sym is));
    index = sym size;
    following = before;
    refused = cannot;
  }

-- ---- one first record that can't follow

-- of two ways to part a list, the front that is no longer is the front of the other
pub front : (xs ys : List RecordValue) (x y : RecordValue) (us vs : List RecordValue) → xs ++ x ∷ us ≡ ys ++ y ∷ vs → length xs < length ys
    → (mid : List RecordValue) × (ys ≡ xs ++ x ∷ mid)
front xs ys x y us vs same less =
    let n = length xs in
    let up : n + (length ys - n) ≡ length ys = omega arith in
    let taken : take n ys ≡ xs = sym (take-append-le n ys (y ∷ vs) (omega arith)) ∙ ap (take n) (sym same) ∙ take-append_seam xs (x ∷ us) in
    let next : get_or ys n x ≡ x = sym (get_or-append ys (y ∷ vs) x n less) ∙ ap (λ (l : List RecordValue). get_or l n x) (sym same)
    ∙ get_or-append_seam xs x us x in (
      drop (n + 1) ys,
      sym (take-append-drop n ys) ∙ ap (λ l. l ++ drop n ys) taken
          ∙ ap (λ l. xs ++ l) (drop_more ys n x less ∙ ap (λ r. r ∷ drop (n + 1) ys) next),
    )

not_below : (pages last : ℕ) (cells : Cells) (records : List RecordValue) (m n : ℕ) → IsFirstUnfit pages last cells records m
    → IsFirstUnfit pages last cells records n → ¬ (m < n)
not_below pages last cells records m n p q less =
    let parts = front p.earlier q.earlier p.unfit q.unfit p.later q.later (sym p.all ∙ q.all) (omega (arith, less, p.index, q.index)) in
    not_following pages last cells q.earlier m (record {
      earlier = p.earlier;
      unfit = p.unfit;
      later = parts.0;
      all = parts.1;
      index = p.index;
      following = p.following;
      refused = p.refused;
    }) q.following

pub one_unfit : (pages last : ℕ) (cells : Cells) (records : List RecordValue) (m n : ℕ) → IsFirstUnfit pages last cells records m
    → IsFirstUnfit pages last cells records n → m ≡ n
one_unfit pages last cells records m n p q =
    ⊎_elim (λ less. absurd (not_below pages last cells records m n p q less))
    (λ up. ⊎_elim (λ less. absurd (not_below pages last cells records n m q p less)) (λ down. omega (arith, up, down)) (cases_lt n m))
    (cases_lt m n)

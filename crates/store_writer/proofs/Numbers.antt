-- The records of a run by their numbers.
use Rattle.std.proofs.Common.{◌≡◌, ℕ, ◌+◌, ◌-◌, ◌≤◌, List, [], ◌++◌, length, take, drop, sym, ap, ◌∙◌, arith, length-take, length-drop}
use Rattle.std.proofs.lemmas.List.{drop-drop}
use Rattle.std.proofs.Math.Seq.{take-add, take-append_seam, drop-append_seam}
use Rattle.records.specs.RecordValue.{RecordValue}
use Rattle.model.specs.Following.{AreFollowing}
use Rattle.store_image_model.specs.Run.{Run, IsRun, end_of, cells_at, records_between}
use Rattle.store_image_model.proofs.Runs.{copy_of_run, redone_following}

module _ (run : Run) where
  pub between_split : (l m n : ℕ) → run.last ≤ l → l ≤ m → m ≤ n → records_between run l n ≡ records_between run l m ++ records_between run m n
  between_split l m n low rise up =
      ap (λ k. take k (drop (l - run.last) run.records)) (let e : n - l ≡ (m - l) + (n - m) = omega arith in e)
      ∙ take-add (m - l) (n - m) (drop (l - run.last) run.records)
      ∙ ap (λ (t : List RecordValue). records_between run l m ++ take (n - m) t) (drop-drop (m - l) (l - run.last) run.records
      ∙ ap (λ k. drop k run.records) (let e : (l - run.last) + (m - l) ≡ m - run.last = omega arith in e))

  -- the records between two numbers follow what the first ones left
  pub between_following : (base n : ℕ) → IsRun run → run.last ≤ base → base ≤ end_of run
      → AreFollowing run.geometry.pages base (cells_at run base) (records_between run base n)
  between_following base n is low high = redone_following run base base n (cells_at run base) (copy_of_run run base) is low high

module _ (run : Run) (m n : ℕ) (low : run.last ≤ m) (rise : m ≤ n) (made : n ≤ end_of run) where
  pub length_between : length (records_between run m n) ≡ n - m
  length_between = omega (arith, length-take (n - m) (drop (m - run.last) run.records), length-drop (m - run.last) run.records)

  pub last_between : m + length (records_between run m n) ≡ n
  last_between = omega (arith, length_between)

  -- the first of them, and the others
  module _ (count : ℕ) (within : count ≤ n - m) where
    abbrev mid : ℕ
    mid = m + count

    split : records_between run m n ≡ records_between run m mid ++ records_between run mid n
    split = between_split run m mid n low (omega arith) (omega (arith, within))

    long : length (records_between run m mid) ≡ count
    long = omega (arith, length-take (mid - m) (drop (m - run.last) run.records), length-drop (m - run.last) run.records)

    pub front_between : take count (records_between run m n) ≡ records_between run m mid
    front_between = ap (take count) split ∙ ap (λ k. take k (records_between run m mid ++ records_between run mid n)) (sym long)
        ∙ take-append_seam (records_between run m mid) (records_between run mid n)

    pub back_between : drop count (records_between run m n) ≡ records_between run mid n
    back_between = ap (drop count) split ∙ ap (λ k. drop k (records_between run m mid ++ records_between run mid n)) (sym long)
        ∙ drop-append_seam (records_between run m mid) (records_between run mid n)

-- no record is above a number and up to it
pub none_between : (run : Run) (n m : ℕ) → m ≤ n → records_between run n m ≡ []
none_between run n m le = let zero : m - n ≡ 0 = omega arith in ap (λ k. take k (drop (n - run.last) run.records)) zero

-- Records of a run, by their numbers.
use Rattle.std.proofs.Common.{◌≡◌, ℕ, ◌+◌, ◌-◌, ◌≤◌, List, ◌++◌, length, take, drop, sym, ◌∙◌, ap, arith, length-append, length-drop}
use Rattle.std.proofs.lemmas.List.{take_all, drop-append-le, drop-drop, length-take-le}
use Rattle.std.proofs.Math.Seq.{take-append_seam, drop-append_seam}
use Rattle.records.specs.RecordValue.{RecordValue}
use Rattle.store_image_model.specs.Run.{Run, end_of, records_above, records_between}
use Rattle.store_writer.specs.Writer.{longer}

pub to_end : (run : Run) (m : ℕ) → run.last ≤ m → records_between run m (end_of run) ≡ records_above run m
to_end run m low = take_all (end_of run - m) (records_above run m) (omega (arith, length-drop (m - run.last) run.records))

-- as many as there are behind record m
pub count_to_end : (run : Run) (m : ℕ) → run.last ≤ m → length (records_between run m (end_of run)) ≡ end_of run - m
count_to_end run m low = ap length (to_end run m low) ∙ length-drop (m - run.last) run.records ∙ omega (arith, low)

module _ (run : Run) (m : ℕ) (low : run.last ≤ m) (first rest : List RecordValue) (all : records_between run m (end_of run) ≡ first ++ rest) where
  above_is : records_above run m ≡ first ++ rest
  above_is = sym (to_end run m low) ∙ all

  -- the first of those behind record m
  pub first_behind : first ≡ records_between run m (m + length first)
  first_behind = sym (ap (λ n. take n (records_above run m)) (omega arith) ∙ ap (take (length first)) above_is ∙ take-append_seam first rest)

  pub rest_behind : records_between run (m + length first) (end_of run) ≡ rest
  rest_behind =
      to_end run (m + length first) (omega (arith, low)) ∙ ap (λ n. drop n run.records) (omega (arith, low))
      ∙ sym (drop-drop (length first) (m - run.last) run.records)
      ∙ ap (drop (length first)) above_is ∙ drop-append_seam first rest

  pub within_end : m ≤ end_of run → m + length first ≤ end_of run
  within_end high = omega (arith, high, count_to_end run m low, ap length all, length-append first rest)

-- with more records behind those made
pub with_more : (run : Run) (more : List RecordValue) (m : ℕ) → run.last ≤ m → m ≤ end_of run
    → records_between (longer run more) m (end_of (longer run more)) ≡ records_between run m (end_of run) ++ more
with_more run more m low high =
    to_end (longer run more) m low ∙ drop-append-le (m - run.last) run.records more (omega (arith, low, high))
    ∙ ap (λ (l : List RecordValue). l ++ more) (sym (to_end run m low))

-- as many as there are behind record m, up to n
pub count_between : (run : Run) (m n : ℕ) → run.last ≤ m → n ≤ end_of run → length (records_between run m n) ≡ n - m
count_between run m n low high = length-take-le (n - m) (records_above run m) (omega (arith, length-drop (m - run.last) run.records, low, high))

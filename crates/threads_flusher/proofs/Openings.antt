-- What may be opened again.
use Rattle.std.proofs.Common.{◌≡◌, ◌<◌, ◌≤◌, ◌++◌, ℕ, List, length, take, Option, None, Some, refl, sym, ap, ◌∙◌, subst, ⊎_elim, arith, length-take}
use Rattle.std.proofs.Math.Logic.{∥∥₁_elim, ∥∥₁_map}
use Rattle.std.proofs.lemmas.Bool.{cases_lt}
use Rattle.std.proofs.lemmas.List.{take-take}
use Rattle.std.specs.Coded.{Coded-set, coded_list, coded_option, coded_ℕ, le_prop}
use Rattle.std.specs.FinMap.{get}
use mathlib.Core.HLevel.{⊥_prop}
use Rattle.record_values.specs.Codes.{coded_mark}
use Rattle.records.specs.RecordValue.{RecordValue}
use Rattle.record_values.specs.declared.pair.Mark.{Mark}
use Rattle.record_values.specs.declared.pair.Pair.{Pair}
use Rattle.record_values.specs.declared.row.Row.{Row}
use Rattle.model.specs.Given.{given_after}
use Rattle.model.specs.Table.{IsPairOf, Table}
use Rattle.core_model.specs.Histories.{CanOpen, Opened}
use Rattle.core_model.proofs.ReplyLaws.{served_crashed}
use Rattle.locked_core.specs.View.{CoreValue}
use Rattle.locked_core.specs.Values.{SessionValue}
use Rattle.locked_core.specs.Names.{IsShared}
use Rattle.threads_flusher.specs.Part.{MayOpenAgain}

-- ---- what a core may begin with is told whole

below_whole : (m n : ℕ) → ∥ m < n ∥₁ → m < n
below_whole m n t = ⊎_elim (λ l. l) (λ g. absurd (∥∥₁_elim t ⊥_prop (λ l. omega (arith, l, g)))) (cases_lt m n)

mark_whole : (m n : Option Mark) → ∥ m ≡ n ∥₁ → m ≡ n
mark_whole m n t = ∥∥₁_elim t (Coded-set (coded_option coded_mark) m n) (λ e. e)

no_row : (row : Row) → Some row ≡ None → ⊥
no_row row e = absurd cc

one_row : (a b : Row) → Some a ≡ Some b → a ≡ b
one_row a b e = cc

pair_whole : (table : Table) (p : Pair) → ∥ IsPairOf table p ∥₁ → IsPairOf table p
pair_whole table p t = by (get table p.rid) refl
  where
    by : (o : Option Row) → get table p.rid ≡ o → IsPairOf table p
    by None none = absurd (∥∥₁_elim t ⊥_prop (λ (x : IsPairOf table p). no_row x.row (sym x.is_there ∙ none)))
    by (Some row) some = record {
      row = row;
      is_there = some;
      has_key = ∥∥₁_elim t (Coded-set (coded_list coded_ℕ) row.key p.key) (λ (x : IsPairOf table p).
          ap (λ (r : Row). r.key) (one_row row x.row (sym some ∙ x.is_there)) ∙ x.has_key);
    }

pub can_open_whole : (o : Opened) → ∥ CanOpen o ∥₁ → CanOpen o
can_open_whole o t = record {
  fits = record {
    rows = λ r row there. below_whole r.page o.pages (∥∥₁_map t (λ (x : CanOpen o). x.fits.rows r row there));
    entries = λ p there. below_whole p.rid.page o.pages (∥∥₁_map t (λ (x : CanOpen o). x.fits.entries p there));
    highest = λ p is. below_whole p.rid.page o.pages (∥∥₁_map t (λ (x : CanOpen o). x.fits.highest p is));
    room = ∥∥₁_elim t le_prop (λ (x : CanOpen o). x.fits.room);
  };
  sound = λ p live. pair_whole o.given.table p (∥∥₁_map t (λ (x : CanOpen o). x.sound p live));
  complete = λ r row there covered. mark_whole _ _ (∥∥₁_map t (λ (x : CanOpen o). x.complete r row there covered));
  unmarked = λ r row there marked. ∥∥₁_elim t ⊥_prop (λ (x : CanOpen o). x.unmarked r row there marked);
  empty = λ absent p. mark_whole _ _ (∥∥₁_map t (λ (x : CanOpen o). x.empty absent p));
}

-- ---- what was popped is the first of what was pushed

pushed_open : (o : Opened) (core : CoreValue) (pushed : List RecordValue) (book : List SessionValue) → IsShared o core pushed book → (n : ℕ) → n ≤ length pushed
    → CanOpen (record o { given = given_after o.given (take n pushed) })
pushed_open o core pushed book shared n le =
    let so = shared.register.kept.replied in
    (served_crashed o shared.opens (pushed ++ core.outbox) shared.register.kept.calls so.state so.standing so.served pushed core.outbox refl n le).1

pub popped_open : (o : Opened) (core : CoreValue) (pushed : List RecordValue) (book : List SessionValue) (popped : List RecordValue)
    → popped ≡ take (length popped) pushed → ∥ IsShared o core pushed book ∥₁ → MayOpenAgain o popped
popped_open o core pushed book popped is shared can n le =
    let first : take n popped ≡ take n pushed = ap (take n) is ∙ take-take n (length popped) pushed le in
    let within : n ≤ length pushed = omega (arith, le, ap length is, length-take (length popped) pushed) in
    subst (λ (l : List RecordValue). CanOpen (record o { given = given_after o.given l })) (sym first)
    (can_open_whole (record o { given = given_after o.given (take n pushed) })
    (∥∥₁_map shared (λ (all : IsShared o core pushed book). pushed_open o core pushed book all n within)))

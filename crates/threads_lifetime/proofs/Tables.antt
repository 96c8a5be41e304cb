-- Tables with commits set over them.
use Rattle.std.proofs.Common.{◌≡◌, ◌+◌, ◌≤◌, ℕ, Bool, true, false, cond, List, [], ◌∷◌, refl, sym, ap, ◌∙◌, arith}
use Rattle.std.proofs.lemmas.Bool.{le-leb}
use Rattle.std.specs.FinMap as finite
use Rattle.std.specs.Ordering.{nat_cmp}
use Rattle.std.specs.Prelude.{nat_le}
use Rattle.record_values.specs.Maps.{alike, nat_exact}
use Rattle.records.specs.ChangeValue.{ChangeValue}
use Rattle.core_copies.specs.Shown.{IsCellsOf, list_shown}
use Rattle.core_laws.specs.Holds.{committed_rows, lists_of}
use Rattle.model.proofs.GivenLaws.{given_again}
use Rattle.model.specs.Cells.{Cells}
use Rattle.model.specs.Given.{Given, opening_cells, recovered}
use Rattle.model.specs.Recovery.{all_reverted}
use Rattle.model.specs.Table.{Table, applied}
use Rattle.core_parts.specs.View.{CoreValue}
use Rattle.threads_register.specs.History.{AreRisingTo, commits_up_to, with_commits}
use Rattle.threads_register.specs.Register.{Commits}
use Rattle.threads_sessions.specs.Values.{CommitValue}
use Rattle.txn_table.specs.Table.{TxnState, state_of}
use Rattle.threads_lifetime.proofs.Gathering.{commits_in}
use Rattle.threads_lifetime.specs.Closing.{table_with, up_to}

-- ---- commits with and without their seats

pub with_all : (table : Table) (commits : Commits) → table_with table (commits_in commits) ≡ with_commits table commits
with_all table [] = refl
with_all table (c ∷ cs) = with_all (applied table c.1.writes) cs

pub first_commits : (n : ℕ) (commits : Commits) → up_to n (commits_in commits) ≡ commits_in (commits_up_to n commits)
first_commits n [] = refl
first_commits n (c ∷ cs) = by (nat_le c.1.ticket.«record» n) (first_commits n cs)
  where
    by : (b : Bool) → up_to n (commits_in cs) ≡ commits_in (commits_up_to n cs)
        → cond b (c.1 ∷ up_to n (commits_in cs)) (up_to n (commits_in cs)) ≡ commits_in (cond b (c ∷ commits_up_to n cs) (commits_up_to n cs))
    by true same = ap (λ (l : List CommitValue). c.1 ∷ l) same
    by false same = same

rising_within : (from to : ℕ) (commits : Commits) → AreRisingTo from to commits → from ≤ to
rising_within from to [] h = h
rising_within from to (c ∷ cs) h = omega (arith, h.0, rising_within c.1.ticket.«record» to cs h.1)

-- up to the last record they are all
pub all_up_to : (from to : ℕ) (commits : Commits) → AreRisingTo from to commits → commits_up_to to commits ≡ commits
all_up_to from to [] h = refl
all_up_to from to (c ∷ cs) h =
    ap (λ b. cond b (c ∷ commits_up_to to cs) (commits_up_to to cs)) (le-leb c.1.ticket.«record» to (rising_within c.1.ticket.«record» to cs h.1))
    ∙ ap (λ (l : Commits). c ∷ l) (all_up_to c.1.ticket.«record» to cs h.1)

-- ---- with no active transaction

-- what the core has
abbrev pub held_by : CoreValue → Given
held_by v = record { table = v.heap.rows; entries = v.index.entries; life = v.life; last = v.last }

held_again : (x : Given) → recovered (opening_cells x) x.last ≡ x
held_again x = ap (recovered (opening_cells x)) (let more : x.last ≡ x.last + 0 = omega arith in more) ∙ given_again x

pub rows_alone : (v : CoreValue) → v.txns.active ≡ [] → committed_rows v ≡ v.heap.rows
rows_alone v none = ap (λ (txns : List (ℕ × TxnState)). all_reverted v.heap.rows (finite.entries (lists_of txns))) none
    ∙ ap (λ (x : Given). x.table) (held_again (held_by v))

pub cells_alone : (v : CoreValue) (cells : Cells) → IsCellsOf v cells → v.txns.active ≡ [] → recovered cells v.last ≡ held_by v
cells_alone v cells is none = ap (λ (c : Cells). recovered c v.last) same ∙ held_again (held_by v)
  where
    no_list : cells.pending ≡ finite.empty {X = List ChangeValue} {R = nat_cmp}
    no_list = alike nat_exact cells.pending finite.empty (λ t. is.pending t
        ∙ (ap (λ (txns : List (ℕ × TxnState)). list_shown (state_of t txns)) none ∙ sym (finite.get-empty nat_cmp t)))

    same : cells ≡ opening_cells (held_by v)
    same = λ i. record { rows = is.rows i; entries = is.entries i; pending = no_list i; life = is.life i }

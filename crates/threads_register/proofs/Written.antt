-- What a transaction that commits leaves, and the committed table.
use Rattle.std.proofs.Common.{◌≡◌, ◌≢◌, ℕ, true, cond, List, [], ◌∷◌, ◌++◌, Option, Some, None, inl, inr, refl, sym, ap, ◌∙◌, eq-eqb, ne_eqb}
use Rattle.std.proofs.lemmas.Bool.{cases_eq}
use Rattle.std.specs.FinMap.{get}
use Rattle.std.specs.Ordering.{eq_by_cmp}
use Rattle.std.specs.Prelude.{unwrap_or}
use Rattle.records.specs.ChangeValue.{ChangeValue}
use Rattle.record_values.specs.Maps.{alike, other_key, rid_exact}
use Rattle.record_values.specs.Orders.{rid_cmp}
use Rattle.records.specs.RecordValue.{RecordValue}
use Rattle.records.specs.Spelling.{new_row}
use Rattle.record_values.specs.Values.{Place}
use Rattle.record_values.specs.declared.row.Row.{Row}
use Rattle.model.proofs.TableLaws.{get-applied}
use Rattle.model.specs.Cells.{Cells, cells_after}
use Rattle.model.specs.Committed.{writes_of}
use Rattle.model.specs.Given.{opening_cells}
use Rattle.model.specs.History.{table_after}
use Rattle.model.specs.Table.{applied, written_at}
use Rattle.core_model.proofs.Laws.{faithful, made_cells, made_holds, same_some}
use Rattle.core_model.specs.Changes.{as_list, Changes, latest, Unchanged, ◌▹◌}
use Rattle.core_model.specs.Histories.{CanOpen, no_writes, Opened, write_of}
use Rattle.core_model.specs.Invariants.{applied_of, Invariant, IsHeld, IsHolderOf, made_of}
use Rattle.core_model.specs.States.{Active, Made, State}
use Rattle.core_model.specs.Steps.{is_applied}
use Rattle.core_model.proofs.ReplyLaws.{served_faithful}
use Rattle.core_model.specs.Events.{Event, Reply, Standing}
use Rattle.core_model.specs.Served.{asked_over, HasServed, items_of}
use Rattle.threads_sessions.specs.Values.{ActiveValue}
use Rattle.threads_register.proofs.Lookups.{some_is}
use Rattle.threads_register.proofs.Rows.{written_last}
use Rattle.threads_register.specs.Agreement.{IsSeen, row_held}

-- ---- what changes set

writes_more : (xs : List ChangeValue) (c : ChangeValue) → writes_of (xs ++ c ∷ []) ≡ writes_of xs ++ write_of c ∷ []
writes_more [] c = refl
writes_more (x ∷ xs) c = ap (λ l. write_of x ∷ l) (writes_more xs c)

changes_written : (cs : Changes) (q : Place) (v : Option Row) → written_at (writes_of (as_list cs)) q v ≡ latest cs q v
changes_written Unchanged q v = refl
changes_written (older ▹ c) q v =
    ap (λ ws. written_at ws q v) (writes_more (as_list older) c)
    ∙ (written_last (writes_of (as_list older)) (write_of c) q v ∙ ap (cond (eq_by_cmp rid_cmp q c.rid) (new_row c.rows)) (changes_written older q v))

-- changes of rows that a transaction holds leave the others
unnamed : (holder : Place → Option ℕ) (t : ℕ) (cs : Changes) (q : Place) (v : Option Row) → IsHolderOf holder t cs → holder q ≢ Some t → latest cs q v ≡ v
unnamed holder t Unchanged q v names apart = refl
unnamed holder t (older ▹ c) q v names apart =
    ap (λ b. cond b (new_row c.rows) (latest older q v)) (other_key rid_exact q c.rid (λ e. apart (ap holder e ∙ names.0)))
    ∙ unnamed holder t older q v names.1 apart

applied_all : (cs : Changes) → applied_of cs true ≡ cs
applied_all Unchanged = refl
applied_all (older ▹ c) = refl

-- ---- the rows that a session has of a transaction without an unfinished change leave what its changes leave

module _ (s : State) (holds : Invariant s) (t : ℕ) (x : Active) (active : s.txns t ≡ Some x) (made : x.phase ≡ Made) (a : ActiveValue)
    (seen : IsSeen s t a x) where
  names : IsHolderOf s.holder t x.changes
  names = (holds.coherent.txns t x active).names

  all_made : made_of x ≡ x.changes
  all_made = ap (λ phase. applied_of x.changes (is_applied phase)) made ∙ applied_all x.changes

  mine_at : (q : Place) → s.holder q ≡ Some t → get s.rows q ≡ latest x.changes q (get s.committed q)
  mine_at q mine =
      let held : IsHeld s q t = holds.coherent.held q t mine in
      held.row ∙ (ap (λ (y : Active). latest (made_of y) q (get s.committed q)) (same_some held.active active)
      ∙ ap (λ cs. latest cs q (get s.committed q)) all_made)

  left_at : (q : Place) (o : Option ℕ) → s.holder q ≡ o → unwrap_or (row_held t o (get s.rows q)) (get s.committed q) ≡ latest x.changes q (get s.committed q)
  left_at q None is = sym (unnamed s.holder t x.changes q (get s.committed q) names (λ e. none_some (sym is ∙ e)))
    where
      none_some : None ≡ Some t → ⊥
      none_some e = absurd cc
  left_at q (Some u) is = elim (cases_eq t u) [
    | inl same ↦ ap (λ b. unwrap_or (cond b (Some (get s.rows q)) None) (get s.committed q)) (eq-eqb t u same)
        ∙ mine_at q (is ∙ ap (λ (n : ℕ). Some n) (sym same))
    | inr apart ↦
        ap (λ b. unwrap_or (cond b (Some (get s.rows q)) None) (get s.committed q)) (ne_eqb t u apart)
        ∙ sym (unnamed s.holder t x.changes q (get s.committed q) names (λ e. apart (some_is t u (sym e ∙ is))))
  ]

  pub left_table : applied s.committed a.rows ≡ applied s.committed (writes_of (as_list x.changes))
  left_table = alike rid_exact _ _ (λ q.
      get-applied s.committed a.rows q
      ∙ (seen.one_each q (get s.committed q)
      ∙ (ap (λ (o : Option (Option Row)). unwrap_or o (get s.committed q)) (seen.rows q)
      ∙ (left_at q (s.holder q) refl ∙ (sym (changes_written x.changes q (get s.committed q))
      ∙ sym (get-applied s.committed (writes_of (as_list x.changes)) q))))))

-- ---- the committed table is that of the history

pub committed_is : (o : Opened) → CanOpen o → (made : List RecordValue) (pairs : List (Event × Reply)) (s : State) (k : Standing) → HasServed o made pairs s k
    → s.committed ≡ table_after o.given.table (items_of no_writes pairs)
committed_is o can made pairs s k h =
    let cells : Cells = cells_after (opening_cells o.given) made in
    let has = made_cells o can made (items_of no_writes pairs) (asked_over no_writes pairs) s h.log in
    let holds = made_holds o can made (items_of no_writes pairs) (asked_over no_writes pairs) s h.log in
    sym ((faithful s holds).back cells has) ∙ (served_faithful o can made pairs s k h).0.back cells has

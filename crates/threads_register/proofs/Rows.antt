-- Rows of which each place stands once.
use Rattle.std.proofs.Common.{◌≡◌, ◌≢◌, Bool, true, false, cond, List, [], ◌∷◌, ◌++◌, Option, None, Some, filter, not, inl, inr, refl, sym, ap, ◌∙◌}
use Rattle.std.specs.FinMap.{get}
use Rattle.std.specs.Option.{option_map}
use Rattle.std.specs.Ordering.{eq_by_cmp}
use Rattle.std.specs.Prelude.{unwrap_or}
use Rattle.record_values.specs.Maps.{other_key, rid_exact, same_key}
use Rattle.record_values.specs.Orders.{rid_cmp}
use Rattle.record_values.specs.Values.{Place}
use Rattle.record_values.specs.declared.row.Row.{Row}
use Rattle.model.specs.Table.{written_at}
use Rattle.model.specs.declared.write.Write.{Write}
use Rattle.core_model.proofs.Laws.{rid_decided}
use Rattle.core_parts.specs.View.{CoreValue}
use Rattle.threads_sessions.specs.Steps.{rows_now}
use Rattle.threads_sessions.specs.Values.{is_at, with_write}
use Rattle.threads_register.proofs.Lookups.{is_same, itself, not_same, row_again, row_apart, row_set, same_place}
use Rattle.threads_register.specs.Agreement.{IsOneEach, row_at}

here : (q r : Place) → q ≡ r → eq_by_cmp rid_cmp q r ≡ true
here q r is = ap (λ (p : Place). eq_by_cmp rid_cmp p r) is ∙ same_key rid_exact r

pub written_last : (ws : List Write) (w : Write) (q : Place) (v : Option Row)
    → written_at (ws ++ w ∷ []) q v ≡ cond (eq_by_cmp rid_cmp q w.rid) w.row (written_at ws q v)
written_last [] w q v = refl
written_last (x ∷ xs) w q v = written_last xs w q (cond (eq_by_cmp rid_cmp q x.rid) x.row v)

pub none_each : IsOneEach []
none_each q v = refl

-- the others stay
written_apart : (q : Place) (w : Write) (ws : List Write) (v : Option Row) → q ≢ w.rid
    → written_at (filter (λ x. not (is_at w.rid x)) ws) q v ≡ written_at ws q v
written_apart q w [] v apart = refl
written_apart q w (x ∷ xs) v apart = by (is_at w.rid x) refl (λ u. written_apart q w xs u apart)
  where
    by : (b : Bool) → is_at w.rid x ≡ b → ((u : Option Row) → written_at (filter (λ y. not (is_at w.rid y)) xs) q u ≡ written_at xs q u)
        → written_at (cond (not b) (x ∷ filter (λ y. not (is_at w.rid y)) xs) (filter (λ y. not (is_at w.rid y)) xs)) q v
        ≡ written_at xs q (cond (eq_by_cmp rid_cmp q x.rid) x.row v)
    by true e rest = rest v ∙ sym (ap (λ b. written_at xs q (cond b x.row v)) (other_key rid_exact q x.rid (λ is. apart (is ∙ sym (same_place w.rid x.rid e)))))
    by false e rest = rest (cond (eq_by_cmp rid_cmp q x.rid) x.row v)

-- a row that is set last, in place of what was at its place
abbrev others : Write → List Write → List Write
others w ws = filter (λ x. not (is_at w.rid x)) ws

pub changed_each : (w : Write) (ws : List Write) → IsOneEach ws → IsOneEach (with_write w ws)
changed_each w ws h q v =
    written_last (others w ws) w q v ∙ elim (rid_decided q w.rid) [
      | inl is ↦ ap (λ b. cond b w.row (written_at (others w ws) q v)) (here q w.rid is)
          ∙ sym (ap (λ (o : Option (Option Row)). unwrap_or o v) (ap (λ (r : Place). row_at r (with_write w ws)) is ∙ row_set w ws))
      | inr apart ↦
          ap (λ b. cond b w.row (written_at (others w ws) q v)) (other_key rid_exact q w.rid apart)
          ∙ (written_apart q w ws v apart ∙ (h q v ∙ sym (ap (λ (o : Option (Option Row)). unwrap_or o v) (row_apart q w ws apart))))
    ]

-- the rows read anew
same_or : (o : Option (Option Row)) (r : Option Row) → unwrap_or (option_map (λ (x : Option Row). r) o) r ≡ r
same_or None r = refl
same_or (Some x) r = refl

pub again_each : (core : CoreValue) (ws : List Write) → IsOneEach (rows_now core ws)
again_each core [] q v = refl
again_each core (w ∷ ws) q v =
    let later : List Write = rows_now core ws in
    let row : Option Row = get core.heap.rows w.rid in
    elim (rid_decided q w.rid) [
      | inl is ↦
          ap (λ b. written_at later q (cond b row v)) (here q w.rid is)
          ∙ (again_each core ws q row
          ∙ (ap (λ (o : Option (Option Row)). unwrap_or o row) (row_again core q ws
          ∙ ap (λ (r : Place). option_map (λ (x : Option Row). get core.heap.rows r) (row_at q ws)) is)
          ∙ (same_or (row_at q ws) row ∙ sym (ap (λ b. unwrap_or (cond b (Some row) (row_at q later)) v) (ap (λ (r : Place). is_same r w.rid) is
          ∙ itself w.rid)))))
      | inr apart ↦
          ap (λ b. written_at later q (cond b row v)) (other_key rid_exact q w.rid apart)
          ∙ (again_each core ws q v ∙ sym (ap (λ b. unwrap_or (cond b (Some row) (row_at q later)) v) (not_same q w.rid apart)))
    ]

-- A core with no transaction can be opened again from its cells.
use Rattle.std.proofs.Common.{Bool, List, None, Option, Some, [], ap, arith, false, inl, inr, refl, subst, sym, true, true≢false, ℕ, ◌+◌, ◌<◌, ◌∙◌, ◌∷◌, ◌≡◌}
use Rattle.std.proofs.Common.{◌≢◌, ◌≤◌}
use Rattle.std.specs.Cmp.{nat_cmp_total}
use Rattle.std.specs.FinMap.{entries, get, len, nat_cmp-IsAntisymmetric, remove}
use Rattle.std.specs.Ordering.{nat_cmp}
use Rattle.record_values.specs.Values.{Place}
use Rattle.record_values.specs.declared.pair.Mark.TheVariants.{Live, Marked}
use Rattle.record_values.specs.declared.pair.Pair.{Pair}
use Rattle.record_values.specs.declared.row.Row.{Row}
use Rattle.record_values.specs.Entries.{Index}
use Rattle.model.specs.declared.life.Life.{Life}
use Rattle.model.specs.declared.life.Life.TheVariants.{Absent, Building, Complete}
use Rattle.core_model.proofs.Frames.{nat_decided, txn_here}
use Rattle.core_model.proofs.Insides.{new_inside, old_inside, with_inside}
use Rattle.core_model.proofs.Histories.{complete_by}
use Rattle.core_model.proofs.Latest.{not_none}
use Rattle.core_model.proofs.Orders.{update_apart, update_here, update_twice}
use Rattle.core_model.proofs.Places.{fewer_lacking, grown_by, lacking_less}
use Rattle.core_model.proofs.Runs.{other_pledges}
use Rattle.core_model.proofs.Sums.{left_apart, reserved_left}
use Rattle.core_model.proofs.Txns.{end_keeps, taken_off_whole, undo_whole}
use Rattle.core_model.specs.Changes.{Changes, Unchanged, latest, new_pair, old_pair, pair_of, ◌▹◌}
use Rattle.core_model.specs.Histories.{CanOpen, IsCovered, highest_of}
use Rattle.core_model.specs.Invariants.{HasPlaces, IsBusyWith, IsCoherent, IsHeld, IsHolderOf, IsStateInside, IsUnfinished, applied_of, IsVisibleOrAhead}
use Rattle.core_model.specs.Invariants.{lacking, lacks}
use Rattle.core_model.proofs.Undone.{IsListing, entries_undone, restarted, rows_back, rows_undone}
use Rattle.core_model.specs.States.{Active, Phase, State}
use Rattle.core_model.specs.Steps.{all_reserved, freed, is_applied, is_indexed, reserved, update, with_entry, without_newest}
use Rattle.record_values.specs.Orders.{is_above}

module _ (s : State) (i : IsCoherent s) (n : IsStateInside s) (quiet : (t : ℕ) (x : Active) → s.txns t ≡ Some x → x.changes ≡ Unchanged) where
  not_busy : (cs : Changes) (phase : Phase) (r : Place) → cs ≡ Unchanged → IsBusyWith cs phase r → ⊥
  not_busy Unchanged phase r e h = h
  not_busy (older ▹ c) phase r e h = absurd (cc)

  not_unfinished : (r : Place) → IsUnfinished s r → ⊥
  not_unfinished r h = not_busy h.txn.changes h.txn.phase r (quiet h.transaction h.txn h.active) h.busy

  none_made : (cs : Changes) (b : Bool) → cs ≡ Unchanged → applied_of cs b ≡ Unchanged
  none_made Unchanged b e = refl
  none_made (older ▹ c) b e = absurd (cc)

  -- the rows are the committed table
  committed_by : (r : Place) (o : Option ℕ) → s.holder r ≡ o → get s.rows r ≡ get s.committed r
  committed_by r None e = i.free r e
  committed_by r (Some t) e =
      let h : IsHeld s r t = i.held r t e in
      h.row ∙ ap (λ cs. latest cs r (get s.committed r)) (none_made h.txn.changes (is_applied h.txn.phase) (quiet t h.txn h.active))

  pub only_committed : (r : Place) → get s.rows r ≡ get s.committed r
  only_committed r = committed_by r (s.holder r) refl

  covered_by : (life : Life) → s.life ≡ life → (p : Pair) → IsCovered life (highest_of life) p → IsCovered life s.bound p
  covered_by Absent e p c = c
  covered_by (Building h) e p c = below (is_above s.bound p) refl
    where
      below : (b : Bool) → is_above s.bound p ≡ b → is_above s.bound p ≡ false
      below true a = absurd (true≢false (sym (i.behind h e p a) ∙ c))
      below false a = a
  covered_by Complete e p c = c

  opens_complete : (r : Place) (row : Row) → get s.rows r ≡ Some row → IsCovered s.life (highest_of s.life) (pair_of r row)
      → get s.entries (pair_of r row) ≡ Some Live
  opens_complete r row e c = elim (i.visible r row e (not_unfinished r)) [
    | inl live ↦ live
    | inr w ↦ absurd (complete_by s.life s.bound s.missed (pair_of r row) w.1 (covered_by s.life refl (pair_of r row) c))
  ]

  unmarked_by : (p : Pair) → IsVisibleOrAhead s p → get s.entries p ≢ Some Marked
  unmarked_by p (inl live) e = absurd (cc)
  unmarked_by p (inr w) e = not_none e w.0

  opens : (last : ℕ) → len s.entries ≤ s.places → CanOpen (restarted s [] last)
  opens last fits = record {
    fits = record { rows = i.inside; entries = n.entries; highest = n.highest; room = fits };
    sound = i.sound;
    complete = opens_complete;
    unmarked = λ r row e. unmarked_by (pair_of r row) (i.visible r row e (not_unfinished r));
    empty = i.empty;
  }

-- ---- the changes that are left are taken back
abbrev rolled : State → ℕ → Changes → State
rolled s t cs = record s {
  rows = rows_undone cs s.rows;
  entries = entries_undone (is_indexed s.life) cs s.entries;
  txns = update nat_cmp s.txns t None;
  holder = λ r. freed t (s.holder r);
}

rolled_keeps : (t : ℕ) (cs : Changes) (s : State) → IsCoherent s → (phase : Phase) (rolling : Bool)
    → s.txns t ≡ Some (record { changes = cs; phase = phase; rolling = rolling }) → IsCoherent (rolled s t cs)
rolled_keeps t Unchanged s i phase rolling active = end_keeps s i t (record { changes = Unchanged; phase = phase; rolling = rolling }) active refl
rolled_keeps t (older ▹ c) s i phase rolling active =
    let s' : State = taken_off_whole s t c older (new_pair (is_indexed s.life) c) (old_pair (is_indexed s.life) c) in
    let i' : IsCoherent s' = undo_whole s t c older i phase rolling active in
    subst (λ f. IsCoherent (record (rolled s t (older ▹ c)) { txns = f })) (update_twice nat_cmp s.txns t (Some (without_newest older)) None)
    (rolled_keeps t older s' i' (without_newest older).phase (without_newest older).rolling (txn_here s t (without_newest older)))

rolled_by : (t : ℕ) (x : Active) (cs : Changes) (s : State) → IsCoherent s → s.txns t ≡ Some x → x.changes ≡ cs → IsCoherent (rolled s t cs)
rolled_by t x cs s i active e = subst (λ l. IsCoherent (rolled s t l)) e (rolled_keeps t x.changes s i x.phase x.rolling active)

-- ---- their places
module _ (indexed : Bool) where
  undone_grown : (cs : Changes) (entries : Index) → len (entries_undone indexed cs entries) ≤ len entries + lacking indexed entries cs
  undone_grown Unchanged entries = omega arith
  undone_grown (older ▹ c) entries =
      let marked : Index = with_entry entries (new_pair indexed c) Marked in
      let put : Index = with_entry marked (old_pair indexed c) Live in
      let first : len marked ≡ len entries + lacks entries (new_pair indexed c) = grown_by entries Marked (new_pair indexed c) in
      let second : len put ≡ len marked + lacks marked (old_pair indexed c) = grown_by marked Live (old_pair indexed c) in
      let fewer : lacks marked (old_pair indexed c) ≤ lacks entries (old_pair indexed c) =
      fewer_lacking entries Marked (new_pair indexed c) (old_pair indexed c) in
      let one : lacking indexed marked older ≤ lacking indexed entries older =
      lacking_less indexed entries marked (fewer_lacking entries Marked (new_pair indexed c)) older in
      let two : lacking indexed put older ≤ lacking indexed marked older =
      lacking_less indexed marked put (fewer_lacking marked Live (old_pair indexed c)) older in
      let rest : len (entries_undone indexed older put) ≤ len put + lacking indexed put older = undone_grown older put in
      omega (arith, first, second, fewer, one, two, rest)

  undone_fewer : (cs : Changes) (entries : Index) (q : Option Pair) → lacks (entries_undone indexed cs entries) q ≤ lacks entries q
  undone_fewer Unchanged entries q = omega arith
  undone_fewer (older ▹ c) entries q =
      let marked : Index = with_entry entries (new_pair indexed c) Marked in
      let put : Index = with_entry marked (old_pair indexed c) Live in
      let one : lacks marked q ≤ lacks entries q = fewer_lacking entries Marked (new_pair indexed c) q in
      let two : lacks put q ≤ lacks marked q = fewer_lacking marked Live (old_pair indexed c) q in
      let rest : lacks (entries_undone indexed older put) q ≤ lacks put q = undone_fewer older put q in
      omega (arith, one, two, rest)

rolled_places : (s : State) (t : ℕ) (x : Active) (cs : Changes) → HasPlaces s → s.txns t ≡ Some x → x.changes ≡ cs
    → HasPlaces (record (rolled s t cs) { pledges = remove s.pledges t })
rolled_places s t x cs p active e = record {
  fits =
      let sums : all_reserved (remove s.pledges t) + reserved s.pledges t ≡ all_reserved s.pledges = reserved_left s.pledges t in
      let fits : len s.entries + all_reserved s.pledges ≤ s.places = p.fits in
      let enough : lacking (is_indexed s.life) s.entries cs ≤ reserved s.pledges t =
      subst (λ l. lacking (is_indexed s.life) s.entries l ≤ reserved s.pledges t) e (p.enough t x active) in
      let grown : len (entries_undone (is_indexed s.life) cs s.entries) ≤ len s.entries + lacking (is_indexed s.life) s.entries cs =
      undone_grown (is_indexed s.life) cs s.entries in
      omega (arith, sums, fits, enough, grown);
  enough = λ u y a. elim (nat_decided u t) [
    | inl same ↦ absurd (not_none a (ap (update nat_cmp s.txns t None) same ∙ update_here nat_cmp_total s.txns t None))
    | inr n ↦
        let before : lacking (is_indexed s.life) s.entries y.changes ≤ reserved s.pledges u =
        p.enough u y (sym (update_apart nat_cmp-IsAntisymmetric s.txns t None u n) ∙ a) in
        let fewer : lacking (is_indexed s.life) (entries_undone (is_indexed s.life) cs s.entries) y.changes ≤ lacking (is_indexed s.life) s.entries y.changes =
        lacking_less (is_indexed s.life) s.entries (entries_undone (is_indexed s.life) cs s.entries)
        (undone_fewer (is_indexed s.life) cs s.entries) y.changes in
        rw (left_apart s.pledges t u n) (omega (arith, before, fewer))
  ];
}

-- ---- they stay in the store's pages
undone_inside : (pages : ℕ) (indexed : Bool) (holder : Place → Option ℕ) (t : ℕ) → ((r : Place) → holder r ≡ Some t → r.page < pages) → (cs : Changes)
    → IsHolderOf holder t cs → (entries : Index)
    → ((p : Pair) → get entries p ≢ None → p.rid.page < pages) → (p : Pair) → get (entries_undone indexed cs entries) p ≢ None → p.rid.page < pages
undone_inside pages indexed holder t held Unchanged names entries h = h
undone_inside pages indexed holder t held (older ▹ c) names entries h =
    let l : c.rid.page < pages = held c.rid names.0 in
    undone_inside pages indexed holder t held older names.1 _
    (with_inside pages (with_entry entries (new_pair indexed c) Marked) (old_pair indexed c) Live (old_inside pages indexed c l)
    (with_inside pages entries (new_pair indexed c) Marked (new_inside pages indexed c l) h))

rolled_inside : (s : State) (t : ℕ) (x : Active) (cs : Changes) → IsCoherent s → IsStateInside s → s.txns t ≡ Some x → x.changes ≡ cs
    → IsStateInside (record (rolled s t cs) { pledges = remove s.pledges t })
rolled_inside s t x cs i h active e = record {
  entries = undone_inside s.pages (is_indexed s.life) s.holder t (λ r k. (i.held r t k).inside) cs
      (subst (λ l. IsHolderOf s.holder t l) e (i.txns t x active).names) s.entries h.entries;
  bound = h.bound;
  highest = h.highest;
  given = h.given;
}

pub record CanRestart (s : State) (ls : List (ℕ × Changes)) (last : ℕ) : Type 0 where
  pub table : (r : Place) → get (rows_back ls s.rows) r ≡ get s.committed r
  pub opens : CanOpen (restarted s ls last)

pub can_restart : (ls : List (ℕ × Changes)) (last : ℕ) (s : State) → IsCoherent s → IsStateInside s → HasPlaces s → IsListing s.txns ls → CanRestart s ls last
can_restart [] last s i n p quiet = record {
  table = only_committed s i n quiet;
  opens = opens s i n quiet last (let fits : len s.entries + all_reserved s.pledges ≤ s.places = p.fits in omega (arith, fits));
}
can_restart (l ∷ ls) last s i n p listing =
    let s' : State = record (rolled s l.0 l.1) { pledges = remove s.pledges l.0 } in
    let after : CanRestart s' ls last =
    can_restart ls last s' (other_pledges (rolled s l.0 l.1) (remove s.pledges l.0) (rolled_by l.0 listing.0.0 l.1 s i listing.0.1 listing.0.2))
    (rolled_inside s l.0 listing.0.0 l.1 i n listing.0.1 listing.0.2)
    (rolled_places s l.0 listing.0.0 l.1 p listing.0.1 listing.0.2) listing.1 in
    record { table = after.table; opens = after.opens }

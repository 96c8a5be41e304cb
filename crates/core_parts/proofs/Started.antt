-- The first step of a change: what the core shows after it.
use Rattle.core_model.specs.Changes.{as_list, ◌▹◌}
use Rattle.std.proofs.Common.{Bool, List, None, Option, Some, [], ap, arith, cond, eqb, false, inl, inr, length, refl, subst, sym, true, ℕ, ◌++◌, ◌+◌, ◌-◌, ◌∙◌}
use Rattle.std.proofs.Common.{◌∷◌, ◌≡◌, ◌≢◌}
use Rattle.std.specs.FinMap.{get, insert, len, len-insert}
use Rattle.std.specs.Option.{option_map}
use Rattle.records.specs.ChangeValue.{ChangeValue}
use Rattle.record_values.specs.Maps.{set_at}
use Rattle.record_values.specs.Orders.{rid_cmp, rid_cmp-IsAntisymmetric, rid_cmp_total}
use Rattle.records.specs.Spelling.{new_row}
use Rattle.record_values.specs.Values.{Place}
use Rattle.record_values.specs.declared.pair.Pair.{Pair}
use Rattle.record_values.specs.declared.pair.Mark.{Mark}
use Rattle.record_values.specs.declared.pair.Mark.TheVariants.{Marked}
use Rattle.record_values.specs.declared.limits.TheConstants.{PLACES_PER_CHANGE}
use Rattle.record_values.specs.Orders.{pair_cmp_total}
use Rattle.marked_index.specs.Index.{pledges_used}
use Rattle.record_values.specs.Entries.{Index}
use Rattle.core_model.specs.States.{OldMarked}
use Rattle.txn_table.specs.declared.progress.Progress.TheVariants.{OwesRow}
use Rattle.std.proofs.Common.{is_some, ◌-◌, ◌≤◌}
use Rattle.model.specs.Pairs.{is_indexed, new_pair, old_pair}
use Rattle.txn_table.specs.Table as table
use Rattle.txn_table.specs.Table.{TxnState, change_noted, holder_of, put_at, rolls}
use Rattle.txn_table.proofs.TableLaws.{holder_of-noted_other, holder_of-put_at, state_of-with_state}
use Rattle.txn_table.specs.declared.progress.Progress.{Progress}
use Rattle.txn_table.specs.declared.progress.Progress.TheVariants.{Ready}
use Rattle.core_model.proofs.Laws.{rid_decided, update_apart, update_here}
use Rattle.core_model.specs.States.{State}
use Rattle.core_model.specs.Steps as core
use Rattle.core_model.specs.Steps.{Start, update, after, places_of, reserved, row_made, started, txn_at, with_places}
use Rattle.core_model.specs.Events.{Standing}
use Rattle.core_parts.specs.View.{CoreValue, IsProgressOf, Shows}
use Rattle.core_parts.specs.Moves.{txn_shown}
use Rattle.core_parts.specs.Private.{first_made, mark_first, change_begun, reserved_of, row_first, row_progress}
use Rattle.core_parts.proofs.Moved.{HasMoved, is_ready, listed, moved_shown, places_are, same_number}

pub either : {X : Type 0} (b : Bool) (p q r : X) → cond b p (cond b q r) ≡ cond b p r
either true p q r = refl
either false p q r = refl

pub long : (f : TxnState → TxnState) (t : ℕ) (es : List (ℕ × TxnState)) → length (table.with_state f t es) ≡ length es
long f t [] = refl
long f t (e ∷ es) = by (eqb t e.0) (long f t es)
  where
    by : (b : Bool) → length (table.with_state f t es) ≡ length es → length (cond b ((e.0, f e.1) ∷ es) (e ∷ table.with_state f t es)) ≡ length (e ∷ es)
    by true rest = refl
    by false rest = omega (arith, rest)

-- ---- the table's states and holders
module _ (es : List (ℕ × TxnState)) (t : ℕ) (x : TxnState) (here : table.state_of t es ≡ Some x) where
  pub state_set : (f : TxnState → TxnState) (u : ℕ) → table.state_of u (table.with_state f t es) ≡ cond (eqb u t) (Some (f x)) (table.state_of u es)
  state_set f u = state_of-with_state f t u es ∙ ap (λ o. cond (eqb u t) (option_map f o) (table.state_of u es)) here

module _ (es : List (ℕ × TxnState)) (t : ℕ) (x : TxnState) (here : table.state_of t es ≡ Some x) (c : ChangeValue) (p : Progress) (n : ℕ) where
  late : table.state_of t (table.with_state (change_noted c) t es) ≡ Some (change_noted c x)
  late = state_set es t x here (change_noted c) t ∙ ap (λ b. cond b (Some (change_noted c x)) (table.state_of t es)) (same_number t t refl)

  pub states_changed : (u : ℕ) → table.state_of u (change_begun es t c p n) ≡ cond (eqb u t) (Some (put_at p n (change_noted c x))) (table.state_of u es)
  states_changed u =
      state_set (table.with_state (change_noted c) t es) t (change_noted c x) late (put_at p n) u
      ∙ ap (cond (eqb u t) (Some (put_at p n (change_noted c x)))) (state_set es t x here (change_noted c) u)
      ∙ either (eqb u t) (Some (put_at p n (change_noted c x))) (Some (change_noted c x)) (table.state_of u es)

  pub many_changed : length (change_begun es t c p n) ≡ length es
  many_changed = long (put_at p n) t (table.with_state (change_noted c) t es) ∙ long (change_noted c) t es

  pub holder_apart : (q : Place) → q ≢ c.rid → holder_of q (change_begun es t c p n) ≡ holder_of q es
  holder_apart q other = holder_of-put_at p n t q (table.with_state (change_noted c) t es) ∙ holder_of-noted_other t c q es other

-- ---- a place for an entry that is added
grown_by : (n l : ℕ) (o : Option Mark) → l ≡ cond (is_some o) n (n + 1) → l - n ≡ pledges_used o
grown_by n l None e = omega (arith, e)
grown_by n l (Some m) e = omega (arith, e)

pub grown : (m : Index) (p : Pair) (mark : Mark) → len (set_at m p (Some mark)) - len m ≡ pledges_used (get m p)
grown m p mark = grown_by (len m) (len (set_at m p (Some mark))) (get m p) (len-insert pair_cmp_total m p mark)

pub used_few : (o : Option Mark) → pledges_used o ≤ 1
used_few None = omega arith
used_few (Some m) = omega arith

-- where a change moves a pair there is an index
pub has_index : (b : Bool) (c : ChangeValue) (p : Pair) → old_pair b c ≡ Some p → b ≡ true
has_index false c p e = absurd cc
has_index true c p e = refl

-- ---- the row is set first
pub phase_is : (o : Option Pair) → IsProgressOf (row_progress o) (row_made o)
phase_is None = refl
phase_is (Some p) = refl

pub none_rolls : (o : Option Pair) → rolls (row_progress o) ≡ false
none_rolls None = refl
none_rolls (Some p) = refl

module _ (v : CoreValue) (s : State) (k : Standing) (h : Shows v s k) (t : ℕ) (x : TxnState) (here : table.state_of t v.txns.active ≡ Some x)
    (ready : x.progress ≡ Ready) (c : ChangeValue) where
  abbrev indexed : Bool
  indexed = is_indexed v.life

  same_index : is_indexed s.life ≡ indexed
  same_index = ap is_indexed h.life

  same_places : reserved_of (txn_shown v t) ≡ x.reserved
  same_places = ap reserved_of here

  now_reserved : reserved s.pledges t ≡ reserved_of (txn_shown v t)
  now_reserved = places_are v s k h t x here ∙ sym same_places

  holder_is : (es : List (ℕ × TxnState)) → holder_of c.rid es ≡ Some t → ((q : Place) → q ≢ c.rid → holder_of q es ≡ holder_of q v.txns.active) → (q : Place)
      → update rid_cmp s.holder c.rid (Some t) q ≡ holder_of q es
  holder_is es held others q = elim (rid_decided q c.rid) [
    | inl same ↦ ap (update rid_cmp s.holder c.rid (Some t)) same ∙ update_here rid_cmp_total s.holder c.rid (Some t) ∙ sym held
        ∙ ap (λ p. holder_of p es) (sym same)
    | inr other ↦ update_apart rid_cmp-IsAntisymmetric s.holder c.rid (Some t) q other ∙ h.holder q ∙ sym (others q other)
  ]

  one_more : as_list ((txn_at s t).changes ▹ c) ≡ x.changes ++ c ∷ []
  one_more = ap (λ cs. cs ++ c ∷ []) (listed v s k h t x here)

  same_standing : record k { made = k.made + 1 } ≡ record k { made = v.last + 1 }
  same_standing = ap (λ n. record k { made = n + 1 }) h.made

  old_is : (o : Option Pair) → old_pair indexed c ≡ o → old_pair (is_indexed s.life) c ≡ o
  old_is o e = ap (λ b. old_pair b c) same_index ∙ e

  module _ (none : old_pair indexed c ≡ None) (held : holder_of c.rid (row_first v t c).txns.active ≡ Some t) where
    abbrev set_txn : TxnState
    set_txn = put_at (row_progress (new_pair indexed c)) (reserved_of (txn_shown v t) + places_of indexed) (change_noted c x)

    abbrev set_state : State
    set_state = record (started s t (txn_at s t) c None) { pledges = with_places s t (places_of (is_indexed s.life)) s.entries }

    set_is : after s (Start t c) ≡ set_state
    set_is = ap (λ o. record (started s t (txn_at s t) c o)
        { pledges = with_places s t (places_of (is_indexed s.life)) (started s t (txn_at s t) c o).entries }) (old_is None none)

    set_places : reserved s.pledges t + places_of (is_indexed s.life) - (len s.entries - len s.entries) ≡ reserved_of (txn_shown v t) + places_of indexed
    set_places = sums _ _ (len s.entries) _ _ now_reserved (ap places_of same_index)
      where
        sums : (n1 n2 n n3 n4 : ℕ) → n1 ≡ n3 → n2 ≡ n4 → n1 + n2 - (n - n) ≡ n3 + n4
        sums n1 n2 n n3 n4 e f = omega (arith, e, f)

    did_set : HasMoved v s k h t x here set_txn (row_first v t c) set_state (record k { made = k.made + 1 })
    did_set = record {
      rows = ap (λ m. set_at m c.rid (new_row c.rows)) h.rows;
      entries = h.entries;
      txn = core.with_change (txn_at s t) c (row_made (new_pair (is_indexed s.life) c));
      txns = refl;
      is = record {
        changes = one_more;
        phase = subst (λ b. IsProgressOf (row_progress (new_pair indexed c)) (row_made (new_pair b c))) (sym same_index) (phase_is (new_pair indexed c));
        rolling = (is_ready v s k h t x here ready).1 ∙ sym (none_rolls (new_pair indexed c));
      };
      holder = holder_is (row_first v t c).txns.active held
          (holder_apart v.txns.active t x here c (row_progress (new_pair indexed c)) (reserved_of (txn_shown v t) + places_of indexed));
      places = ap (insert s.pledges t) set_places;
      pledged = sums _ _ _ _ same_places;
      states = states_changed v.txns.active t x here c _ _;
      rest = record {
        life = refl;
        pages = refl;
        capacity = refl;
        cleaned = refl;
        scan = refl;
        tried = refl;
        attempts = refl;
        commits = refl;
        begun = refl;
        many = many_changed v.txns.active t x here c _ _;
        same_life = refl;
        same_pages = refl;
        same_places = refl;
        same_cleaned = refl;
        same_bound = refl;
        same_given = refl;
        same_missed = refl;
        same_taken = refl;
      };
      standing = same_standing;
    }
      where
        sums : (pledged places r res : ℕ) → r ≡ res → pledged + places + res ≡ pledged + (r + places)
        sums pledged places r res e = omega (arith, e)

    pub row_shown : Shows (row_first v t c) (after s (Start t c)) (record k { made = k.made + 1 })
    row_shown = subst (λ z. Shows (row_first v t c) z (record k { made = k.made + 1 })) (sym set_is)
        (moved_shown v s k h t x here set_txn (row_first v t c) set_state (record k { made = k.made + 1 }) did_set)

  -- ---- the entry of the old row is marked first
  module _ (p : Pair) (some : old_pair indexed c ≡ Some p) (held : holder_of c.rid (mark_first v t c p).txns.active ≡ Some t) where
    abbrev left_over : ℕ
    left_over = PLACES_PER_CHANGE - pledges_used (get v.index.entries p)

    abbrev mark_txn : TxnState
    mark_txn = put_at OwesRow (reserved_of (txn_shown v t) + left_over) (change_noted c x)

    abbrev mark_state : State
    mark_state = record (started s t (txn_at s t) c (Some p)) { pledges = with_places s t (places_of (is_indexed s.life)) (set_at s.entries p (Some Marked)) }

    mark_is : after s (Start t c) ≡ mark_state
    mark_is = ap (λ o. record (started s t (txn_at s t) c o)
        { pledges = with_places s t (places_of (is_indexed s.life)) (started s t (txn_at s t) c o).entries }) (old_is (Some p) some)

    mark_places : reserved s.pledges t + places_of (is_indexed s.life) - (len (set_at s.entries p (Some Marked)) - len s.entries)
        ≡ reserved_of (txn_shown v t) + left_over
    mark_places = sums _ _ _ _ _ now_reserved (ap places_of (same_index ∙ has_index indexed c p some)) (grown s.entries p Marked
        ∙ ap (λ m. pledges_used (get m p)) h.entries) (used_few (get v.index.entries p))
      where
        sums : (r places u r' u' : ℕ) → r ≡ r' → places ≡ PLACES_PER_CHANGE → u ≡ u' → u' ≤ 1 → r + places - u ≡ r' + (PLACES_PER_CHANGE - u')
        sums r places u r' u' e f g few = omega (arith, e, f, g, few)

    did_mark : HasMoved v s k h t x here mark_txn (mark_first v t c p) mark_state (record k { made = k.made + 1 })
    did_mark = record {
      rows = h.rows;
      entries = ap (λ m. set_at m p (Some Marked)) h.entries;
      txn = core.with_change (txn_at s t) c OldMarked;
      txns = refl;
      is = record { changes = one_more; phase = refl; rolling = (is_ready v s k h t x here ready).1 };
      holder = holder_is (mark_first v t c p).txns.active held (holder_apart v.txns.active t x here c OwesRow (reserved_of (txn_shown v t) + left_over));
      places = ap (insert s.pledges t) mark_places;
      pledged = sums v.index.pledged left_over _ _ same_places;
      states = states_changed v.txns.active t x here c OwesRow (reserved_of (txn_shown v t) + left_over);
      rest = record {
        life = refl;
        pages = refl;
        capacity = refl;
        cleaned = refl;
        scan = refl;
        tried = refl;
        attempts = refl;
        commits = refl;
        begun = refl;
        many = many_changed v.txns.active t x here c OwesRow (reserved_of (txn_shown v t) + left_over);
        same_life = refl;
        same_pages = refl;
        same_places = refl;
        same_cleaned = refl;
        same_bound = refl;
        same_given = refl;
        same_missed = refl;
        same_taken = refl;
      };
      standing = same_standing;
    }
      where
        sums : (pledged places r res : ℕ) → r ≡ res → pledged + places + res ≡ pledged + (r + places)
        sums pledged places r res e = omega (arith, e)

    pub mark_shown : Shows (mark_first v t c p) (after s (Start t c)) (record k { made = k.made + 1 })
    mark_shown = subst (λ z. Shows (mark_first v t c p) z (record k { made = k.made + 1 })) (sym mark_is)
        (moved_shown v s k h t x here mark_txn (mark_first v t c p) mark_state (record k { made = k.made + 1 }) did_mark)

  -- ---- either
  pub first_shown : (o : Option Pair) → old_pair indexed c ≡ o → holder_of c.rid (first_made v t c o).txns.active ≡ Some t
      → Shows (first_made v t c o) (after s (Start t c)) (record k { made = k.made + 1 })
  first_shown None e held = row_shown e held
  first_shown (Some p) e held = mark_shown p e held

-- An image of its store has room for the cells of a core.
use Rattle.std.proofs.Common.{◌≡◌, ◌≢◌, ℕ, ◌+◌, ◌<◌, ◌≤◌, Bool, true, false, cond, List, [], ◌∷◌, length, Option, Some, None, unwrap_or, eqb, refl, sym, ap}
use Rattle.std.proofs.Common.{subst, ◌∙◌, arith}
use Rattle.std.proofs.lemmas.List.Elements.{All-cons, All-nil}
use Rattle.std.proofs.Math.Logic.{∥∥₁_elim}
use Rattle.std.specs.Coded.{Coded-set, Unit-prop, coded_ℕ, le_prop}
use Rattle.std.specs.FinMap.{empty, entries, get, get-empty, len, len-empty, len-entries}
use Rattle.std.specs.Prelude.{IsSome}
use Rattle.records.specs.ChangeValue.{ChangeValue}
use Rattle.record_values.specs.GeometryValue.{GeometryValue}
use Rattle.record_values.specs.Maps.{alike, nat_exact}
use Rattle.record_values.specs.Orders.{pair_cmp, rid_cmp}
use Rattle.record_values.specs.Values.{Place}
use Rattle.records.specs.declared.change.TheConstants.{CHANGES_MAX}
use Rattle.record_values.specs.declared.pair.Mark.{Mark}
use Rattle.record_values.specs.declared.pair.Pair.{Pair}
use Rattle.record_values.specs.declared.row.Row.{Row}
use Rattle.model.specs.declared.life.Life.{Life}
use Rattle.model.specs.declared.life.Life.TheVariants.{Building}
use Rattle.model.specs.Cells.{Cells, Pending, list_of}
use Rattle.model.specs.Table.{Table}
use Rattle.model.specs.Following.{ArePlaced}
use Rattle.model.specs.Inside.{AreChangesWithin, AreInside}
use Rattle.model.proofs.PlacedLaws.{placed_one_more}
use Rattle.txn_table.specs.Sound.{EachSoundTxn, IsSoundTable}
use Rattle.txn_table.specs.Table.{TxnState, has_any, state_of}
use Rattle.core_model.specs.Changes.{Changes, Unchanged, as_list, ◌▹◌}
use Rattle.core_model.specs.Invariants.{IsHolderOf, IsNumbered}
use Rattle.core_model.specs.States.{State}
use Rattle.core_model.specs.Events.{Standing}
use Rattle.core_parts.specs.View.{AreOne, CoreValue, IsSafe, IsState}
use Rattle.store_reader.specs.Source.{FitsImage}
use Rattle.store_image_model.specs.declared.chunk.CopyPlace.{CopyPlace}
use Rattle.store_image_model.specs.declared.chunk.Piece.{Piece}
use Rattle.core_copies.specs.Pieces.{AreEntriesOf, IsPageOf, IsPieceOf, IsStartOf}
use Rattle.core_copies.specs.Private.{unlisted}
use Rattle.core_copies.specs.Shown.{FitsStoreOf, IsCellsOf, list_shown}
use Rattle.core_copies.proofs.Paged.{AreRowsInside}

-- ---- the changes of a transaction

-- each is at its position, and of a row of the pages
numbered : (holder : Place → Option ℕ) (pages : ℕ) (t : ℕ) → ((r : Place) → holder r ≡ Some t → r.page < pages) → (changes : Changes)
    → IsHolderOf holder t changes → IsNumbered changes → ArePlaced pages 0 (as_list changes)
numbered holder pages t held Unchanged names is = tt
numbered holder pages t held (older ▹ c) names is =
    placed_one_more pages 0 (as_list older) c (numbered holder pages t held older names.1 is.1) (omega (arith, is.0)) (held c.rid names.0)

placed_prop : (pages n : ℕ) (changes : List ChangeValue) (a b : ArePlaced pages n changes) → a ≡ b
placed_prop pages n [] a b = Unit-prop a b
placed_prop pages n (c ∷ changes) a b = λ i. (Coded-set coded_ℕ c.position n a.0 b.0 i, le_prop a.1 b.1 i, placed_prop pages (n + 1) changes a.2 b.2 i)

placed_within : (pages n : ℕ) (changes : List ChangeValue) → ArePlaced pages n changes → AreChangesWithin pages changes
placed_within pages n [] placed = All-nil (λ (c : ChangeValue). c.rid.page < pages)
placed_within pages n (c ∷ changes) placed = All-cons (λ (c : ChangeValue). c.rid.page < pages) c changes placed.1
    (placed_within pages (n + 1) changes placed.2)

same_state : (x y : TxnState) → (◌≡◌ {A = Option TxnState} (Some x) (Some y)) → x ≡ y
same_state x y e = cc

no_state : (x : TxnState) → (◌≡◌ {A = Option TxnState} None (Some x)) → ⊥
no_state x e = absurd cc

few_changes : (t : ℕ) (es : List (ℕ × TxnState)) (x : TxnState) → EachSoundTxn es → state_of t es ≡ Some x → length x.changes ≤ CHANGES_MAX
few_changes t [] x each here = absurd (no_state x here)
few_changes t (e ∷ es) x each here = by (few_changes t es x each.1) (eqb t e.0) here
  where
    by : (state_of t es ≡ Some x → length x.changes ≤ CHANGES_MAX) → (b : Bool) → cond b (Some e.1) (state_of t es) ≡ Some x → length x.changes ≤ CHANGES_MAX
    by rest true is = subst (λ (y : TxnState). length y.changes ≤ CHANGES_MAX) (same_state e.1 x is) each.0.few
    by rest false is = rest is

-- ---- what is known of a core

pub record IsKnown (v : CoreValue) : Type 0 where
  pub rows : AreRowsInside v.heap
  pub entries : (p : Pair) → get v.index.entries p ≢ None → p.rid.page < v.heap.pages
  pub highest : (p : Pair) → v.life ≡ Building (Some p) → p.rid.page < v.heap.pages
  pub room : len v.index.entries ≤ v.index.capacity
  pub placed : (t : ℕ) (x : TxnState) → state_of t v.txns.active ≡ Some x → ArePlaced v.heap.pages 0 x.changes

module _ (v : CoreValue) (s : State) (k : Standing) (st : IsState v s k) where
  entries_inside : (p : Pair) → get v.index.entries p ≢ None → p.rid.page < v.heap.pages
  entries_inside p there = subst (λ n. p.rid.page < n) st.shown.pages
      (st.fit.inside.entries p (λ none. there (ap (λ m. get m p) (sym st.shown.entries) ∙ none)))

  highest_inside : (p : Pair) → v.life ≡ Building (Some p) → p.rid.page < v.heap.pages
  highest_inside p is = subst (λ n. p.rid.page < n) st.shown.pages (st.fit.inside.highest p (st.shown.life ∙ is))

  entries_room : len v.index.entries ≤ v.index.capacity
  entries_room =
      let fits = st.fit.places.fits in
      let few : len s.entries ≤ s.places = omega (arith, fits) in
      subst (λ n. len v.index.entries ≤ n) st.shown.places (subst (λ m. len m ≤ s.places) st.shown.entries few)

  changes_placed : (t : ℕ) (x : TxnState) → AreOne (Some x) (s.txns t) → ArePlaced v.heap.pages 0 x.changes
  changes_placed t x one =
      let fit = st.fit.txns t one.0 one.1 in
      subst (λ n. ArePlaced n 0 x.changes) st.shown.pages
      (subst (ArePlaced s.pages 0) one.2.changes (numbered s.holder s.pages t (λ r at. st.fit.held r t at) one.0.changes fit.names fit.numbered))

module _ (v : CoreValue) (safe : ∥ IsSafe v ∥₁) where
  pub entries_known : (p : Pair) → get v.index.entries p ≢ None → p.rid.page < v.heap.pages
  entries_known p there = ∥∥₁_elim safe le_prop (λ (h : IsSafe v). entries_inside v h.state h.standing h.is p there)

  pub known : AreRowsInside v.heap → IsKnown v
  known rows = record {
    rows = rows;
    entries = entries_known;
    highest = λ p is. ∥∥₁_elim safe le_prop (λ (h : IsSafe v). highest_inside v h.state h.standing h.is p is);
    room = ∥∥₁_elim safe le_prop (λ (h : IsSafe v). entries_room v h.state h.standing h.is);
    placed = λ t x here. ∥∥₁_elim safe (placed_prop v.heap.pages 0 x.changes) (λ (h : IsSafe v).
        changes_placed v h.state h.standing h.is t x (subst (λ o. AreOne o (h.state.txns t)) here (h.is.shown.txns t)));
  }

-- ---- the cells

module _ (v : CoreValue) (is : IsKnown v) (sound : IsSoundTable v.txns) (cells : Cells) (h : IsCellsOf v cells) where
  -- what holds of no change, and of the changes of each active transaction
  each_list : (P : List ChangeValue → Type 0) → P [] → ((t : ℕ) (x : TxnState) → state_of t v.txns.active ≡ Some x → P x.changes) → (t : ℕ)
      → P (list_of cells.pending t)
  each_list P none each t = subst P (sym (ap (λ (o : Option (List ChangeValue)). unwrap_or o []) (h.pending t))) (by (state_of t v.txns.active) refl)
    where
      held : (x : TxnState) → state_of t v.txns.active ≡ Some x → (b : Bool) → P (unwrap_or (cond b (Some x.changes) None) [])
      held x here true = each t x here
      held x here false = none

      by : (o : Option TxnState) → state_of t v.txns.active ≡ o → P (unwrap_or (list_shown o) [])
      by None here = none
      by (Some x) here = held x here (has_any x.rows)

  is_some : (q : Place) (row : Row) → get cells.rows q ≡ Some row → IsSome (get v.heap.rows q)
  is_some q row at = subst IsSome (sym (ap (λ m. get m q) (sym h.rows) ∙ at)) refl

  pub are_inside : AreInside v.heap.pages cells
  are_inside = record {
    rows = λ q row at. (is.rows q (is_some q row at)).0;
    entries = λ p there. is.entries p (λ none. there (ap (λ m. get m p) h.entries ∙ none));
    changes = each_list (AreChangesWithin v.heap.pages) (placed_within v.heap.pages 0 [] tt) (λ t x here.
        placed_within v.heap.pages 0 x.changes (is.placed t x here));
    life = λ p at. is.highest p (sym h.life ∙ at);
  }

  fits_own : (slots : ℕ) → length (entries cells.pending) ≤ length v.txns.active
      → FitsImage (record { pages = v.heap.pages; entries = v.index.capacity; slots = slots }) cells
  fits_own slots few = record {
    inside = are_inside;
    slots = λ q row at. (is.rows q (is_some q row at)).1;
    room = let room = is.room in let same : length (entries cells.entries) ≡ len v.index.entries = ap (λ m. length (entries m)) h.entries
        ∙ sym (len-entries v.index.entries) in omega (arith, room, same);
    txns = omega (arith, few, sound.few);
    changes = each_list (λ list. length list ≤ CHANGES_MAX) (omega arith) (λ t x here. few_changes t v.txns.active x sound.txns here);
    placed = each_list (ArePlaced v.heap.pages 0) tt is.placed;
  }

  pub fits_store : length (entries cells.pending) ≤ length v.txns.active → FitsStoreOf v cells
  fits_store few g of = subst (λ (g : GeometryValue). FitsImage g cells) (λ i. record { pages = of.pages i; entries = of.entries i; slots = g.slots })
      (fits_own g.slots few)

-- an image has room for life and lists of cells that it has room for
start_fits : (g : GeometryValue) (cells : Cells) → FitsImage g cells
    → FitsImage g (record { rows = empty; entries = empty; pending = cells.pending; life = cells.life })
start_fits g cells fits = record {
  inside = record {
    rows = λ q row at. absurd (no_row row (sym (get-empty rid_cmp q) ∙ at));
    entries = λ p there. absurd (there (get-empty pair_cmp p));
    changes = fits.inside.changes;
    life = fits.inside.life;
  };
  slots = λ q row at. absurd (no_row row (sym (get-empty rid_cmp q) ∙ at));
  room = omega (arith, no_entries);
  txns = fits.txns;
  changes = fits.changes;
  placed = fits.placed;
}
  where
    no_row : (row : Row) → (◌≡◌ {A = Option Row} None (Some row)) → ⊥
    no_row row e = absurd cc

    no_entries : length (entries (empty {X = Mark} {R = pair_cmp})) ≡ 0
    no_entries = sym (len-entries (empty {X = Mark} {R = pair_cmp})) ∙ len-empty pair_cmp Mark

pub is_start : (v : CoreValue) → IsKnown v → IsSoundTable v.txns → (life : Life) (lists : Pending) → life ≡ v.life
    → ((t : ℕ) → get lists t ≡ list_shown (state_of t v.txns.active)) → len lists ≤ length v.txns.active
    → (cells : Cells) → IsCellsOf v cells → IsStartOf v cells life lists
is_start v is sound life lists life_is each few cells h = record {
  life-is = life_is ∙ sym h.life;
  lists-are = same;
  inside = are_inside v is sound cells h;
  fits = λ g of. subst (λ (x : Life × Pending). FitsImage g (record { rows = empty; entries = empty; pending = x.1; life = x.0 })) (λ i.
      (sym (life_is ∙ sym h.life) i, sym same i)) (start_fits g cells (fits_store v is sound cells h fewer g of));
}
  where
    same : lists ≡ cells.pending
    same = alike nat_exact lists cells.pending (λ t. each t ∙ sym (h.pending t))

    fewer : length (entries cells.pending) ≤ length v.txns.active
    fewer = subst (λ (m : Pending). length (entries m) ≤ length v.txns.active) same (let counted = len-entries lists in omega (arith, few, counted))

pub is_whole : (v : CoreValue) → IsKnown v → IsSoundTable v.txns → (cells : Cells) → cells.rows ≡ v.heap.rows → cells.entries ≡ v.index.entries
    → ((t : ℕ) → get cells.pending t ≡ list_shown (state_of t v.txns.active)) → len cells.pending ≤ length v.txns.active → cells.life ≡ v.life
    → IsCellsOf v cells × FitsStoreOf v cells
is_whole v is sound cells rows entries_are each few life =
    (h, fits_store v is sound cells h (let counted = len-entries cells.pending in omega (arith, few, counted)))
  where
    h : IsCellsOf v cells
    h = record { rows = rows; entries = entries_are; pending = each; life = life }

-- ---- pieces of the cells without lists are those of the cells

pub is_page : (v : CoreValue) (page : ℕ) (rows : Table) → IsPageOf (unlisted v) page rows → (cells : Cells) → IsCellsOf v cells → IsPageOf cells page rows
is_page v page rows is cells h = record {
  rows-are = record { there = λ q same. is.rows-are.there q same ∙ ap (λ m. get m q) (sym h.rows); elsewhere = is.rows-are.elsewhere };
  slots = is.slots;
}

pub are_entries : (v : CoreValue) (above : Option Pair) (entries : List (Pair × Mark)) → AreEntriesOf v (unlisted v) above entries → (cells : Cells)
    → IsCellsOf v cells → AreEntriesOf v cells above entries
are_entries v above entries are cells h = record {
  more = are.more;
  listed = are.listed;
  most = are.most;
  full = λ last at. let next = are.full last at in record {
    further = next.further;
    there = λ p not up. next.there p not up
        ∙ ap (λ m. get m p) (sym h.entries);
    below = next.below;
    past = next.past;
  };
  rest = λ none. let next = are.rest none in record { there = λ p not. next.there p not ∙ ap (λ m. get m p) (sym h.entries); below = next.below };
  inside = are.inside;
}

pub at_place : {A : Type 0} (v : CoreValue) (cells : Cells) (piece : Piece A) (place other : CopyPlace) → place ≡ other → IsPieceOf v cells other piece
    → IsPieceOf v cells place piece
at_place v cells piece place other is of = subst (λ (p : CopyPlace). IsPieceOf v cells p piece) (sym is) of

-- What the cells hold stays in the store's pages by records that can follow, and so does what is recovered.
use Rattle.std.proofs.Common.{◌≡◌, ℕ, ◌+◌, ◌<◌, Bool, true, false, cond, List, [], ◌∷◌, All, Option, Some, None, unwrap_or, refl, sym, ap, subst, ◌∙◌}
use Rattle.std.proofs.lemmas.List.Elements.{All-head, All-tail, All-same, All-nil}
use Rattle.std.specs.List.{AllByRecursion}
use Rattle.std.specs.Ordering.{eq_by_cmp, nat_cmp}
use Rattle.std.specs.FinMap as map
use Rattle.record_values.specs.Values.{Place}
use Rattle.records.specs.ChangeValue.{ChangeValue}
use Rattle.records.specs.RecordValue.{RecordValue}
use Rattle.records.specs.Spelling.{old_row, new_row}
use Rattle.record_values.specs.Orders.{pair_cmp, rid_cmp}
use Rattle.record_values.specs.Maps.{set_at, pair_exact, key_is, get-set_at}
use Rattle.record_values.specs.declared.row.Row.{Row}
use Rattle.record_values.specs.declared.pair.Pair.{Pair}
use Rattle.record_values.specs.declared.pair.Mark.{Mark}
use Rattle.record_values.specs.declared.pair.Mark.TheVariants.{Live, Marked}
use Rattle.records.specs.declared.record.Part.TheVariants.{Slot, OldEntry, NewEntry}
use Rattle.records.specs.declared.record.TxnAction.{TxnAction}
use Rattle.records.specs.declared.record.TxnAction.TheVariants.{Forward, Undo, Commit, End}
use Rattle.records.specs.declared.record.IndexAction.{IndexAction}
use Rattle.records.specs.declared.record.IndexAction.TheVariants.{Create, BuildPlace, BuildCheckpoint, BuildDone, Clean, Drop}
use Rattle.records.specs.declared.record.Action.{Action}
use Rattle.records.specs.declared.record.Action.TheVariants.{OfTxn, OfIndex}
use Rattle.model.specs.declared.life.Life.{Life}
use Rattle.model.specs.declared.life.Life.TheVariants.{Absent}
use Rattle.record_values.specs.Entries.{Index}
use Rattle.model.specs.Pairs.{gone, is_indexed, new_pair, old_pair, pair_at, pair_of, same_key, with_entry}
use Rattle.model.specs.Cells.{Cells, Pending, cells_after, entries_by_index, entries_by_txn, life_by_index, list_of, set_by, with_list}
use Rattle.model.specs.Following.{AreFollowing, CanFollowBy, CanFollowIndex, CanFollowTxn}
use Rattle.model.specs.Given.{all_entries_reverted, entries_reverted, entries_without, recovered}
use Rattle.model.specs.Inside.{AreEntriesWithin, AreInside, IsGivenInside, IsLifeWithin}
use Rattle.model.proofs.PlacesLaws.{recovered_within, set_within, step_in, with_list_here}
use Rattle.model.proofs.RecoveryLaws.{each_named}

module _ (pages : ℕ) where
  abbrev Here : ChangeValue → Type 0
  Here c = c.rid.page < pages

  -- ---- an entry

  pub set_inside : (entries : Index) (p : Pair) (mark : Option Mark) → p.rid.page < pages → AreEntriesWithin pages entries
      → AreEntriesWithin pages (set_at entries p mark)
  set_inside entries p mark inside is q there = by_key (eq_by_cmp pair_cmp q p) refl
    where
      by_key : (b : Bool) → eq_by_cmp pair_cmp q p ≡ b → q.rid.page < pages
      by_key true same = subst (λ (x : Pair). x.rid.page < pages) (sym (key_is pair_exact q p same)) inside
      by_key false other = is q (λ none. there (get-set_at pair_exact entries p mark q ∙ ap (λ b. cond b mark (map.get entries q)) other ∙ none))

  -- the pair, where there is one, is of a place in the pages
  abbrev IsPairHere : Option Pair → Type 0
  IsPairHere o = (p : Pair) → o ≡ Some p → p.rid.page < pages

  some_here : (rid : Place) (row : Row) → rid.page < pages → IsPairHere (Some (pair_of rid row))
  some_here rid row inside p e = let same : pair_of rid row ≡ p = cc in subst (λ (x : Pair). x.rid.page < pages) same inside

  none_here : IsPairHere None
  none_here p e = absurd cc

  pair_here : (rid : Place) (row : Option Row) → rid.page < pages → IsPairHere (pair_at rid row)
  pair_here rid None inside = none_here
  pair_here rid (Some row) inside = some_here rid row inside

  gone_here : (indexed : Bool) (rid : Place) (row other : Option Row) → rid.page < pages → IsPairHere (gone indexed rid row other)
  gone_here false rid row other inside = none_here
  gone_here true rid None other inside = none_here
  gone_here true rid (Some row) None inside = some_here rid row inside
  gone_here true rid (Some row) (Some other) inside = by_key (same_key row other)
    where
      by_key : (b : Bool) → IsPairHere (cond b None (Some (pair_of rid row)))
      by_key true = none_here
      by_key false = some_here rid row inside

  marked_inside : (entries : Index) (o : Option Pair) (mark : Mark) → IsPairHere o → AreEntriesWithin pages entries
      → AreEntriesWithin pages (with_entry entries o mark)
  marked_inside entries None mark here is = is
  marked_inside entries (Some p) mark here is = set_inside entries p (Some mark) (here p refl) is

  -- ---- a record

  entries_txn : (cells : Cells) (txn : ℕ) (action : TxnAction) → CanFollowTxn pages cells txn action → AreEntriesWithin pages cells.entries
      → AreEntriesWithin pages (entries_by_txn cells.entries action)
  entries_txn cells txn (Forward Slot c) can is = is
  entries_txn cells txn (Forward OldEntry c) can is =
      marked_inside cells.entries (pair_at c.rid (old_row c.rows)) Marked (pair_here c.rid (old_row c.rows) can.0) is
  entries_txn cells txn (Forward NewEntry c) can is =
      marked_inside cells.entries (pair_at c.rid (new_row c.rows)) Live (pair_here c.rid (new_row c.rows) can.0) is
  entries_txn cells txn (Undo Slot c last) can is = is
  entries_txn cells txn (Undo OldEntry c last) can is =
      marked_inside cells.entries (pair_at c.rid (old_row c.rows)) Live (pair_here c.rid (old_row c.rows) can.0) is
  entries_txn cells txn (Undo NewEntry c last) can is =
      marked_inside cells.entries (pair_at c.rid (new_row c.rows)) Marked (pair_here c.rid (new_row c.rows) can.0) is
  entries_txn cells txn Commit can is = is
  entries_txn cells txn End can is = is

  entries_index : (cells : Cells) (action : IndexAction) → CanFollowIndex pages cells.life action → AreEntriesWithin pages cells.entries
      → AreEntriesWithin pages (entries_by_index cells.entries action)
  entries_index cells Create can is = is
  entries_index cells (BuildPlace pair) can is = set_inside cells.entries pair (Some Live) can.0 is
  entries_index cells (BuildCheckpoint pair) can is = is
  entries_index cells BuildDone can is = is
  entries_index cells (Clean pair) can is = set_inside cells.entries pair None can.0 is
  entries_index cells Drop can is = λ p e. absurd (e (map.get-empty pair_cmp p))

  life_index : (life : Life) (action : IndexAction) → CanFollowIndex pages life action → IsLifeWithin pages life
      → IsLifeWithin pages (life_by_index life action)
  life_index life Create can is p e = absurd cc
  life_index life (BuildPlace pair) can is p e = is p e
  life_index life (BuildCheckpoint pair) can is p e = let same : pair ≡ p = cc in subst (λ (x : Pair). x.rid.page < pages) same can.0
  life_index life BuildDone can is p e = absurd cc
  life_index life (Clean pair) can is p e = is p e
  life_index life Drop can is p e = absurd cc

  pub step_inside : (cells : Cells) (action : Action) → CanFollowBy pages cells action → AreInside pages cells → AreInside pages (set_by cells action)
  step_inside cells (OfTxn txn action) can is =
      let both = step_in pages cells (OfTxn txn action) can (is.rows, is.changes) in
      record { rows = both.0; entries = entries_txn cells txn action can is.entries; changes = both.1; life = is.life }
  step_inside cells (OfIndex action) can is =
      record { rows = is.rows; entries = entries_index cells action can is.entries; changes = is.changes; life = life_index cells.life action can is.life }

  pub after_inside : (last : ℕ) (cells : Cells) (records : List RecordValue) → AreFollowing pages last cells records → AreInside pages cells
      → AreInside pages (cells_after cells records)
  after_inside last cells [] following is = is
  after_inside last cells (r ∷ records) following is =
      after_inside (last + 1) (set_by cells r.action) records following.1 (step_inside cells r.action following.0.allowed is)

  -- ---- changes taken back

  without_inside : (indexed : Bool) (entries : Index) (c : ChangeValue) → c.rid.page < pages → AreEntriesWithin pages entries
      → AreEntriesWithin pages (entries_without indexed entries c)
  without_inside indexed entries c inside is =
      marked_inside (with_entry entries (new_pair indexed c) Marked) (old_pair indexed c) Live
      (gone_here indexed c.rid (old_row c.rows) (new_row c.rows) inside)
      (marked_inside entries (new_pair indexed c) Marked (gone_here indexed c.rid (new_row c.rows) (old_row c.rows) inside) is)

  reverted_inside : (indexed : Bool) (entries : Index) (changes : List ChangeValue) → All Here changes → AreEntriesWithin pages entries
      → AreEntriesWithin pages (entries_reverted indexed entries changes)
  reverted_inside indexed entries [] here is = is
  reverted_inside indexed entries (c ∷ changes) here is =
      without_inside indexed (entries_reverted indexed entries changes) c (All-head Here c changes here)
      (reverted_inside indexed entries changes (All-tail Here c changes here) is)

  all_inside : (indexed : Bool) (pending : Pending) (part : List (ℕ × List ChangeValue)) (entries : Index) → ((txn : ℕ) → All Here (list_of pending txn))
      → AllByRecursion (λ e. list_of pending e.0 ≡ e.1) part
      → AreEntriesWithin pages entries → AreEntriesWithin pages (all_entries_reverted indexed entries part)
  all_inside indexed pending [] entries here names is = is
  all_inside indexed pending (e ∷ part) entries here names is =
      all_inside indexed pending part (entries_reverted indexed entries e.1) here names.1
      (reverted_inside indexed entries e.1 (All-same Here _ _ (sym names.0) (here e.0)) is)

  pub recovered_inside : (cells : Cells) (last : ℕ) → AreInside pages cells → IsGivenInside pages (recovered cells last)
  recovered_inside cells last is = record {
    rows = recovered_within pages cells is.changes is.rows;
    entries = all_inside (is_indexed cells.life) cells.pending (map.entries cells.pending) cells.entries is.changes (each_named cells.pending) is.entries;
    life = is.life;
  }

  -- ---- one cell

  pub row_inside : (cells : Cells) (rid : Place) (row : Option Row) → rid.page < pages → AreInside pages cells
      → AreInside pages (record cells { rows = set_at cells.rows rid row })
  row_inside cells rid row inside is = record {
    rows = set_within pages cells.rows rid row inside is.rows;
    entries = is.entries;
    changes = is.changes;
    life = is.life;
  }

  pub entry_inside : (cells : Cells) (p : Pair) (mark : Option Mark) → p.rid.page < pages → AreInside pages cells
      → AreInside pages (record cells { entries = set_at cells.entries p mark })
  entry_inside cells p mark inside is = record {
    rows = is.rows;
    entries = set_inside cells.entries p mark inside is.entries;
    changes = is.changes;
    life = is.life;
  }

  pub list_inside : (cells : Cells) (txn : ℕ) (changes : List ChangeValue) → All Here changes → AreInside pages cells
      → AreInside pages (record cells { pending = with_list cells.pending txn (Some changes) })
  list_inside cells txn changes here is = record {
    rows = is.rows;
    entries = is.entries;
    changes = with_list_here pages cells.pending txn (Some changes) here is.changes;
    life = is.life;
  }

  pub life_inside : (cells : Cells) (life : Life) → IsLifeWithin pages life → AreInside pages cells → AreInside pages (record cells { life = life })
  life_inside cells life within is = record { rows = is.rows; entries = is.entries; changes = is.changes; life = within }

  pub nothing_inside : AreInside pages (record { rows = map.empty; entries = map.empty; pending = map.empty; life = Absent })
  nothing_inside = record {
    rows = λ q row found. let none : map.get {X = Row} {R = rid_cmp} map.empty q ≡ None = map.get-empty rid_cmp q in absurd cc;
    entries = λ p there. absurd (there (map.get-empty pair_cmp p));
    changes = λ txn. All-same Here _ _ (ap (λ (o : Option (List ChangeValue)). unwrap_or o []) (map.get-empty nat_cmp txn)) (All-nil Here);
    life = λ p e. absurd cc;
  }

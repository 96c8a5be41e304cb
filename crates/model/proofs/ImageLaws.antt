-- Records that are redone over an image give the cells that they were made in.
use Rattle.std.proofs.Common.{◌≡◌, ◌⊎◌, ◌≤◌, ◌+◌, ℕ, zero, suc, List, [], ◌∷◌, take, Option, Some, None, Bool, true, false, true≢false, inl, inr, refl, sym, ap}
use Rattle.std.proofs.Common.{subst, ◌∙◌, arith}
use Rattle.std.specs.Ordering.{eq_by_cmp}
use Rattle.std.specs.declared.cmp.Ordering.{Ordering}
use Rattle.std.specs.FinMap as map
use Rattle.std.specs.FinMap.{FinMap}
use Rattle.record_values.specs.Values.{Place}
use Rattle.records.specs.RecordValue.{RecordValue}
use Rattle.records.specs.Spelling.{old_row, new_row}
use Rattle.record_values.specs.Maps.{IsExact, set_at, alike, rid_exact, pair_exact, key_is, same_key, get-set_at_same, get-set_at_other}
use Rattle.record_values.specs.declared.row.Row.{Row}
use Rattle.record_values.specs.declared.pair.Mark.{Mark}
use Rattle.record_values.specs.declared.pair.Mark.TheVariants.{Live, Marked}
use Rattle.record_values.specs.declared.pair.Pair.{Pair}
use Rattle.records.specs.declared.record.Part.TheVariants.{Slot, OldEntry, NewEntry}
use Rattle.records.specs.declared.record.TxnAction.{TxnAction}
use Rattle.records.specs.declared.record.TxnAction.TheVariants.{Forward, Undo, Commit, End}
use Rattle.records.specs.declared.record.IndexAction.TheVariants.{Create, BuildPlace, BuildCheckpoint, BuildDone, Clean, Drop}
use Rattle.records.specs.declared.record.Action.{Action}
use Rattle.records.specs.declared.record.Action.TheVariants.{OfTxn, OfIndex}
use Rattle.model.specs.Pairs.{pair_at, with_entry}
use Rattle.model.specs.Table.{Table}
use Rattle.record_values.specs.Entries.{Index}
use Rattle.model.specs.Cells.{Cells, cells_after, set_by, rows_by, entries_by, pending_by, life_by, list_of}
use Rattle.model.specs.Following.{AllowsPart, AreFollowing, CanFollow, CanFollowBy, CanFollowIndex, CanFollowTxn, IsAdmitted, IsLastOf, IsNextOn}
use Rattle.model.specs.Images.{IsCopied}

module _ {K X : Type 0} {R : K → K → Ordering} where
  -- what is at this key is the same whatever was there, or stays
  abbrev Settles : K → (FinMap R X → FinMap R X) → Type 0
  Settles q f = ((m n : FinMap R X) → map.get (f m) q ≡ map.get (f n) q) ⊎ ((m : FinMap R X) → map.get (f m) q ≡ map.get m q)

  stays : (q : K) → Settles q (λ m. m)
  stays q = inr (λ m. refl)

  one_set : (exact : IsExact R) (k : K) (v : Option X) (q : K) → Settles q (λ m. set_at m k v)
  one_set exact k v q = by_test (eq_by_cmp R q k) refl
    where
      here : q ≡ k → (m : FinMap R X) → map.get (set_at m k v) q ≡ v
      here e m = ap (map.get (set_at m k v)) e ∙ get-set_at_same exact m k v

      by_test : (b : Bool) → eq_by_cmp R q k ≡ b → Settles q (λ m. set_at m k v)
      by_test true e = inl (λ m n. here (key_is exact q k e) m ∙ sym (here (key_is exact q k e) n))
      by_test false e = inr (λ m. get-set_at_other exact m k v q (λ same. true≢false (sym (ap (λ w. eq_by_cmp R w k) same ∙ same_key exact k) ∙ e)))

  module _ (by : FinMap R X → Action → FinMap R X) (one : (a : Action) (q : K) → Settles q (λ m. by m a)) where
    after : FinMap R X → List RecordValue → FinMap R X
    after m [] = m
    after m (r ∷ records) = after (by m r.action) records

    agree : (q : K) (records : List RecordValue) (m n : FinMap R X) → map.get m q ≡ map.get n q → map.get (after m records) q ≡ map.get (after n records) q
    unfolding after
    agree q [] m n e = e
    agree q (r ∷ records) m n e = agree q records (by m r.action) (by n r.action)
        (elim (one r.action q) [ inl same ↦ same m n | inr stays ↦ stays m ∙ e ∙ sym (stays n) ])

    copied : (q : K) (log : List RecordValue) (n k : ℕ) → n ≤ k → (base image : FinMap R X) → map.get image q ≡ map.get (after base (take n log)) q
        → map.get (after image (take k log)) q ≡ map.get (after base (take k log)) q
    unfolding after
    copied q log zero k le base image e = agree q (take k log) image base e
    copied q log (suc n) zero le base image e = absurd (omega (arith, le))
    copied q [] (suc n) (suc k) le base image e = e
    copied q (r ∷ log) (suc n) (suc k) le base image e = elim (one r.action q) [
      | inl same ↦ agree q (take k log) (by image r.action) (by base r.action) (same image base)
      | inr stays ↦ copied q log n k (omega (arith, le)) (by base r.action) (by image r.action) (stays image ∙ e)
    ]

marks_settle : (rid : Place) (row : Option Row) (mark : Mark) (q : Pair) → Settles q (λ (m : Index). with_entry m (pair_at rid row) mark)
marks_settle rid None mark q = stays q
marks_settle rid (Some row) mark q = one_set pair_exact (record { key = row.key; rid = rid }) (Some mark) q

one_row : (a : Action) (q : Place) → Settles q (λ (m : Table). rows_by m a)
one_row (OfTxn txn (Forward Slot c)) q = one_set rid_exact c.rid (new_row c.rows) q
one_row (OfTxn txn (Forward OldEntry c)) q = stays q
one_row (OfTxn txn (Forward NewEntry c)) q = stays q
one_row (OfTxn txn (Undo Slot c last)) q = one_set rid_exact c.rid (old_row c.rows) q
one_row (OfTxn txn (Undo OldEntry c last)) q = stays q
one_row (OfTxn txn (Undo NewEntry c last)) q = stays q
one_row (OfTxn txn Commit) q = stays q
one_row (OfTxn txn End) q = stays q
one_row (OfIndex a) q = stays q

one_entry : (a : Action) (q : Pair) → Settles q (λ (m : Index). entries_by m a)
one_entry (OfTxn txn (Forward Slot c)) q = stays q
one_entry (OfTxn txn (Forward OldEntry c)) q = marks_settle c.rid (old_row c.rows) Marked q
one_entry (OfTxn txn (Forward NewEntry c)) q = marks_settle c.rid (new_row c.rows) Live q
one_entry (OfTxn txn (Undo Slot c last)) q = stays q
one_entry (OfTxn txn (Undo OldEntry c last)) q = marks_settle c.rid (old_row c.rows) Live q
one_entry (OfTxn txn (Undo NewEntry c last)) q = marks_settle c.rid (new_row c.rows) Marked q
one_entry (OfTxn txn Commit) q = stays q
one_entry (OfTxn txn End) q = stays q
one_entry (OfIndex Create) q = stays q
one_entry (OfIndex (BuildPlace p)) q = one_set pair_exact p (Some Live) q
one_entry (OfIndex (BuildCheckpoint p)) q = stays q
one_entry (OfIndex BuildDone) q = stays q
one_entry (OfIndex (Clean p)) q = one_set pair_exact p None q
one_entry (OfIndex Drop) q = inl (λ m n. refl)

rows_are : (cells : Cells) (records : List RecordValue) → (cells_after cells records).rows ≡ after rows_by one_row cells.rows records
unfolding after
rows_are cells [] = refl
rows_are cells (r ∷ records) = rows_are (set_by cells r.action) records

entries_are : (cells : Cells) (records : List RecordValue) → (cells_after cells records).entries ≡ after entries_by one_entry cells.entries records
unfolding after
entries_are cells [] = refl
entries_are cells (r ∷ records) = entries_are (set_by cells r.action) records

same_pending : (a b : Cells) (records : List RecordValue) → a.pending ≡ b.pending → (cells_after a records).pending ≡ (cells_after b records).pending
same_pending a b [] e = e
same_pending a b (r ∷ records) e = same_pending (set_by a r.action) (set_by b r.action) records (ap (λ p. pending_by p r.action) e)

same_life : (a b : Cells) (records : List RecordValue) → a.life ≡ b.life → (cells_after a records).life ≡ (cells_after b records).life
same_life a b [] e = e
same_life a b (r ∷ records) e = same_life (set_by a r.action) (set_by b r.action) records (ap (λ l. life_by l r.action) e)

pub redone_image : (cells : Cells) (log : List RecordValue) (m : ℕ) (image : Cells) → IsCopied cells log m image → (k : ℕ) → m ≤ k
    → cells_after image (take k log) ≡ cells_after cells (take k log)
redone_image cells log m image h k le =
    let rows : (cells_after image (take k log)).rows ≡ (cells_after cells (take k log)).rows = alike rid_exact _ _ row_is in
    let entries : (cells_after image (take k log)).entries ≡ (cells_after cells (take k log)).entries = alike pair_exact _ _ entry_is in
    let pending : (cells_after image (take k log)).pending ≡ (cells_after cells (take k log)).pending = same_pending image cells (take k log) h.pending in
    let life : (cells_after image (take k log)).life ≡ (cells_after cells (take k log)).life = same_life image cells (take k log) h.life in
    λ i. record { rows = rows i; entries = entries i; pending = pending i; life = life i }
  where
    row_is : (q : Place) → map.get (cells_after image (take k log)).rows q ≡ map.get (cells_after cells (take k log)).rows q
    row_is q =
        let at : (n : ℕ) × (n ≤ m) × (map.get image.rows q ≡ map.get (cells_after cells (take n log)).rows q) = h.rows q in
        ap (λ (m : Table). map.get m q) (rows_are image (take k log))
        ∙ copied rows_by one_row q log at.0 k (omega (arith, at.1, le)) cells.rows image.rows (at.2
        ∙ ap (λ (m : Table). map.get m q) (rows_are cells (take at.0 log)))
        ∙ ap (λ (m : Table). map.get m q) (sym (rows_are cells (take k log)))

    entry_is : (p : Pair) → map.get (cells_after image (take k log)).entries p ≡ map.get (cells_after cells (take k log)).entries p
    entry_is p =
        let at : (n : ℕ) × (n ≤ m) × (map.get image.entries p ≡ map.get (cells_after cells (take n log)).entries p) = h.entries p in
        ap (λ (m : Index). map.get m p) (entries_are image (take k log))
        ∙ copied entries_by one_entry p log at.0 k (omega (arith, at.1, le)) cells.entries image.entries (at.2
        ∙ ap (λ (m : Index). map.get m p) (entries_are cells (take at.0 log)))
        ∙ ap (λ (m : Index). map.get m p) (sym (entries_are cells (take k log)))

-- whether a record can follow hangs on the lists and the life alone
follows_too : (pages last : ℕ) (a b : Cells) (r : RecordValue) → a.pending ≡ b.pending → a.life ≡ b.life → CanFollow pages last a r → CanFollow pages last b r
follows_too pages last a b r p l h = record { number = h.number; allowed = by_action r.action h.allowed }
  where
    by_txn : (txn : ℕ) (action : TxnAction) → CanFollowTxn pages a txn action → CanFollowTxn pages b txn action
    by_txn txn (Forward part c) h = (
      h.0,
      subst (λ life. AllowsPart life part) l h.1,
      subst (λ pending. IsNextOn (list_of pending txn) c) p h.2,
      subst (λ pending. IsAdmitted pending txn) p h.3,
    )
    by_txn txn (Undo part c last) h = (h.0, subst (λ life. AllowsPart life part) l h.1, subst (λ pending. IsLastOf (list_of pending txn) c) p h.2)
    by_txn txn Commit h = tt
    by_txn txn End h = tt

    by_action : (action : Action) → CanFollowBy pages a action → CanFollowBy pages b action
    by_action (OfTxn txn action) h = by_txn txn action h
    by_action (OfIndex action) h = subst (λ life. CanFollowIndex pages life action) l h

follow_too : (pages last : ℕ) (a b : Cells) (records : List RecordValue) → a.pending ≡ b.pending → a.life ≡ b.life → AreFollowing pages last a records
    → AreFollowing pages last b records
follow_too pages last a b [] p l h = tt
follow_too pages last a b (r ∷ records) p l h = (
  follows_too pages last a b r p l h.0,
  follow_too pages (last + 1) (set_by a r.action) (set_by b r.action) records (ap (λ m. pending_by m r.action) p) (ap (λ life. life_by life r.action) l) h.1,
)

pub image_follows : (pages last : ℕ) (cells : Cells) (log : List RecordValue) (m : ℕ) (image : Cells) → IsCopied cells log m image
    → (records : List RecordValue) → AreFollowing pages last cells records → AreFollowing pages last image records
image_follows pages last cells log m image h records follow = follow_too pages last cells image records (sym h.pending) (sym h.life) follow

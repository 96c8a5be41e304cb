-- Records that are redone one after the other.
use Rattle.std.proofs.Common.{◌≡◌, ℕ, ◌+◌, ◌<◌, List, [], length, take, get_or, sym, ap, subst, ◌∙◌, arith}
use Rattle.std.proofs.lemmas.List.{length-take-le}
use Rattle.records.specs.RecordValue.{RecordValue}
use Rattle.model.specs.Cells.{cells_after}
use Rattle.model.specs.Following.{AreFollowing, CanFollow, IsFirstUnfit}
use Rattle.model.proofs.FollowingLaws.{cells_one_more, first_unfit, following_one_more}
use Rattle.store_reader.specs.Store.{CanRedo, StoreValue, after_record, after_records}

pub none_yet : (v : StoreValue) → v ≡ after_records v []
none_yet v = λ i. record { geometry = v.geometry; cells = v.cells; last = same i }
  where
    same : v.last ≡ v.last + 0
    same = omega arith

-- the records up to index i are redone, and the next is r
module _ (v now : StoreValue) (records : List RecordValue) (i : ℕ) (r : RecordValue) (inside : i < length records) (is : r ≡ get_or records i r)
    (following : AreFollowing v.geometry.pages v.last v.cells (take i records)) (reached : now ≡ after_records v (take i records)) where
  size : length (take i records) ≡ i
  size = length-take-le i records (omega arith)

  abbrev Can : Type 0
  Can = CanFollow v.geometry.pages (v.last + i) (cells_after v.cells (take i records)) r

  can_here : CanRedo now r → Can
  can_here can = subst (λ n. CanFollow v.geometry.pages (v.last + n) (cells_after v.cells (take i records)) r) size
      (subst (λ (w : StoreValue). CanRedo w r) reached can)

  can_back : Can → CanRedo now r
  can_back can = subst (λ (w : StoreValue). CanRedo w r) (sym reached)
      (subst (λ n. CanFollow v.geometry.pages (v.last + n) (cells_after v.cells (take i records)) r) (sym size) can)

  pub following_more : CanRedo now r → AreFollowing v.geometry.pages v.last v.cells (take (i + 1) records)
  following_more can = following_one_more v.geometry.pages v.last v.cells records i r inside is following (can_here can)

  pub unfit_here : ¬ CanRedo now r → IsFirstUnfit v.geometry.pages v.last v.cells records i
  unfit_here cannot = first_unfit v.geometry.pages v.last v.cells records i r inside is following (λ can. cannot (can_back can))

  pub reached_more : (next : StoreValue) → CanRedo now r → next ≡ after_record now r → next ≡ after_records v (take (i + 1) records)
  reached_more next can then =
      let number : r.number ≡ v.last + length (take (i + 1) records) = all_of (can_here can).number (length-take-le (i + 1) records (omega arith)) in
      let cells : cells_after v.cells (take (i + 1) records) ≡ (after_record (after_records v (take i records)) r).cells =
      cells_one_more v.geometry.pages v.last v.cells records i r inside is following in
      then ∙ ap (λ (w : StoreValue). after_record w r) reached ∙ (λ j. record { geometry = v.geometry; cells = sym cells j; last = number j })
    where
      all_of : r.number ≡ (v.last + i) + 1 → length (take (i + 1) records) ≡ i + 1 → r.number ≡ v.last + length (take (i + 1) records)
      all_of a b = omega (arith, a, b)

-- Each value has one spelling, and two values that have a spelling have two.
use Rattle.std.proofs.Common.{◌≡◌, List, ℕ, Option, sym, ap, ◌∙◌}
use Rattle.record_values.specs.declared.row.Row.{Row}
use Rattle.record_values.specs.declared.pair.Pair.{Pair}
use Rattle.record_values.specs.declared.pair.Mark.{Mark}
use Rattle.records.specs.Spelling.{PairFitsIn}
use Rattle.record_values.specs.declared.version.Version.{Version}
use Rattle.records.proofs.Steps.{some_is}
use Rattle.store_image_parts.specs.declared.head.Head.{Head}
use Rattle.store_image_parts.specs.declared.header.Header.{Header}
use Rattle.store_image_parts.specs.declared.item.UndoItem.{UndoItem}
use Rattle.store_image_parts.specs.Spelling.{row_in, entry_in, head, item_in, header_in, RowFitsInIfSome, HeadFitsIfSome, ItemFitsIn, HeaderFitsIn}
use Rattle.store_image_parts.specs.Reading.{row_at, header_at, head_at, item_at, entry_at}
use Rattle.store_image_parts.proofs.Again.{IsReadAgain, header_read_again, head_read_again, item_read_again, entry_read_again, row_read_again}

both : {X : Type 0} (at : List ℕ → Option (X × List ℕ)) (a b : List ℕ) (x y : X) → IsReadAgain at a x → IsReadAgain at b y → a ≡ b → x ≡ y
both {X} at a b x y p q same = ap (λ (z : X × List ℕ). z.0) (some_is (x, p.0) (y, q.0) (sym p.1 ∙ ap at same ∙ q.1))

pub one_header : (v : Version) (h k : Header) → HeaderFitsIn v h → HeaderFitsIn v k → header_in v h ≡ header_in v k → h ≡ k
one_header v h k p q same = both (header_at v) (header_in v h) (header_in v k) h k (header_read_again v h p) (header_read_again v k q) same

pub one_head : (h k : Option Head) → HeadFitsIfSome h → HeadFitsIfSome k → head h ≡ head k → h ≡ k
one_head h k p q same = both head_at (head h) (head k) h k (head_read_again h p) (head_read_again k q) same

pub one_item : (v : Version) (i j : UndoItem) → ItemFitsIn v i → ItemFitsIn v j → item_in v i ≡ item_in v j → i ≡ j
one_item v i j p q same = both (item_at v) (item_in v i) (item_in v j) i j (item_read_again v i p) (item_read_again v j q) same

pub one_row : (v : Version) (o p : Option Row) → RowFitsInIfSome v o → RowFitsInIfSome v p → row_in v o ≡ row_in v p → o ≡ p
one_row v o p f g same = both (row_at v) (row_in v o) (row_in v p) o p (row_read_again v o f) (row_read_again v p g) same

pub one_entry : (v : Version) (d e : Pair × Mark) → PairFitsIn v d.0 → PairFitsIn v e.0 → entry_in v d ≡ entry_in v e → d ≡ e
one_entry v d e p q same = both (entry_at v) (entry_in v d) (entry_in v e) d e (entry_read_again v d p) (entry_read_again v e q) same

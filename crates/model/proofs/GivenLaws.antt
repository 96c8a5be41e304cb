-- Laws of what a store gives.
use Rattle.std.proofs.Common.{◌≡◌, ℕ, ◌+◌, ◌≤◌, List, [], ◌∷◌, ◌++◌, length, take, Some, refl, sym, ap, ◌∙◌, append-nil, arith}
use Rattle.std.proofs.lemmas.List.{length-append}
use Rattle.std.specs.FinMap as map
use Rattle.std.specs.Ordering.{nat_cmp}
use Rattle.records.specs.ChangeValue.{ChangeValue}
use Rattle.records.specs.RecordValue.{RecordValue}
use Rattle.record_values.specs.declared.pair.Mark.TheVariants.{Live}
use Rattle.record_values.specs.declared.pair.Pair.{Pair}
use Rattle.model.specs.Cells.{Cells, cells_after}
use Rattle.model.specs.History.{Item, AreRising, life_after, table_after, up_to}
use Rattle.model.specs.Given.{Given, IsBeginning, all_entries_reverted, given_after, opening_cells, recovered}
use Rattle.model.specs.Pairs.{is_indexed}
use Rattle.model.specs.Recovery.{all_reverted}
use Rattle.model.specs.Images.{IsCopied}
use Rattle.model.specs.Table.{IsPairOf}
use Rattle.model.proofs.CellsLaws.{cells_after-append}
use Rattle.model.proofs.HistoryLaws.{up_to-append, up_to_none}
use Rattle.model.proofs.ImageLaws.{redone_image}

-- without a record it is what was given
pub given_again : (given : Given) → given_after given [] ≡ given
given_again given =
    λ i. record {
      table = all_reverted given.table (none_left i);
      entries = all_entries_reverted (is_indexed given.life) given.entries (none_left i);
      life = given.life;
      last = no_more i;
    }
  where
    none_long : (l : List (ℕ × List ChangeValue)) → length l ≡ 0 → l ≡ []
    none_long [] e = refl
    none_long (x ∷ l) e = absurd (omega (arith, e))

    none_left : map.entries (map.empty {X = List ChangeValue} {R = nat_cmp}) ≡ []
    none_left = none_long _ (sym (map.len-entries map.empty) ∙ map.len-empty nat_cmp (List ChangeValue))

    no_more : given.last + 0 ≡ given.last
    no_more = omega arith

-- what was given is a beginning of any history from there on
pub begins_itself : (given : Given) (items : List Item) → AreRising given.last items
    → ((p : Pair) → map.get given.entries p ≡ Some Live → IsPairOf given.table p) → IsBeginning given items given.last given
begins_itself given items rising shown = record {
  has_floor = omega arith;
  table = ap (table_after given.table) (sym (up_to_none given.last given.last items (omega arith) rising));
  life = ap (life_after given.life) (sym (up_to_none given.last given.last items (omega arith) rising));
  shown = shown;
}

-- and stays one as the history goes on
pub goes_further : (opening : Given) (items later : List Item) (floor : ℕ) (given : Given) → IsBeginning opening items floor given → AreRising given.last later
    → IsBeginning opening (items ++ later) floor given
goes_further opening items later floor given h rising =
    let same : up_to given.last (items ++ later) ≡ up_to given.last items =
    up_to-append given.last items later ∙ ap (λ l. up_to given.last items ++ l) (up_to_none given.last given.last later (omega arith) rising)
    ∙ append-nil (up_to given.last items) in
    record {
      has_floor = h.has_floor;
      table = h.table ∙ ap (table_after opening.table) (sym same);
      life = h.life
          ∙ ap (life_after opening.life) (sym same);
      shown = h.shown;
    }

pub lower_floor : (opening : Given) (items : List Item) (floor lower : ℕ) (given : Given) → IsBeginning opening items floor given → lower ≤ floor
    → IsBeginning opening items lower given
lower_floor opening items floor lower given h le = record { has_floor = omega (arith, le, h.has_floor); table = h.table; life = h.life; shown = h.shown }

-- an image with its log gives what all records up to there give
pub image_gives : (opening : Given) (before log : List RecordValue) (m : ℕ) (image : Cells) → IsCopied (cells_after (opening_cells opening) before) log m image
    → (k : ℕ) → m ≤ k
    → recovered (cells_after image (take k log)) (opening.last + length before + length (take k log)) ≡ given_after opening (before ++ take k log)
image_gives opening before log m image h k le =
    let cells : cells_after image (take k log) ≡ cells_after (opening_cells opening) (before ++ take k log) =
    redone_image (cells_after (opening_cells opening) before) log m image h k le ∙ sym (cells_after-append (opening_cells opening) before (take k log)) in
    let last : opening.last + length before + length (take k log) ≡ opening.last + length (before ++ take k log) = all_of (length-append before (take k log)) in
    λ i. recovered (cells i) (last i)
  where
    all_of : length (before ++ take k log) ≡ length before + length (take k log)
        → opening.last + length before + length (take k log) ≡ opening.last + length (before ++ take k log)
    all_of e = omega (arith, e)

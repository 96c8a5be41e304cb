-- What is known of pages stays known.
use Rattle.std.proofs.Common.{◌≡◌, ◌≢◌, ◌⊎◌, inl, inr, ⊎_elim, ℕ, ◌+◌, ◌-◌, ◌<◌, ◌≤◌, Bool, true, false, List, [], ◌∷◌, length, take, drop, Option, Some, None}
use Rattle.std.proofs.Common.{IfSome, refl, sym, ap, subst, ◌∙◌, arith, length-set}
use Rattle.std.specs.Prelude.{nat_lt, if◌then◌else◌, slice_index_or, slice_set}
use Rattle.std.specs.Option.{option_map_or}
use Rattle.std.specs.FinMap as map
use Rattle.std.proofs.lemmas.Bool.{cases_eq, cases_lt, ltb-false}
use Rattle.std.proofs.lemmas.List.{get_or-set_same, get_or-set_other}
use Rattle.sector_device.specs.Disk.{CrashState, sector, SameOutside}
use Rattle.record_values.specs.GeometryValue.{GeometryValue}
use Rattle.record_values.specs.Values.{Place}
use Rattle.record_values.specs.Maps.{rid_exact, get-set_at_other}
use Rattle.record_values.specs.declared.row.Row.{Row}
use Rattle.record_values.specs.declared.version.Version.TheVariants.{Two}
use Rattle.records.specs.RecordValue.{RecordValue}
use Rattle.records.specs.Spelling.{new_row, old_row}
use Rattle.records.specs.declared.record.Part.TheVariants.{Slot, OldEntry, NewEntry}
use Rattle.records.specs.declared.record.TxnAction.TheVariants.{Forward, Undo, Commit, End}
use Rattle.records.specs.declared.record.Action.{Action}
use Rattle.records.specs.declared.record.Action.TheVariants.{OfTxn, OfIndex}
use Rattle.model.specs.Table.{Table}
use Rattle.model.specs.Cells.{Cells, cells_after, rows_by, set_by}
use Rattle.model.specs.Following.{AreFollowing}
use Rattle.store_image_half.specs.Layout.{page_at, page_bytes, row_of, InPages}
use Rattle.store_image_half.specs.Image.{HasEdges, IsRow}
use Rattle.store_image_half.specs.Part.{HasPage}
use Rattle.store_image_half.proofs.Bytes.{bytes_same}
use Rattle.flip_image.specs.declared.half.Half.{Half}
use Rattle.flip_image.specs.declared.half.Half.TheVariants.{A, B}
use Rattle.flip_image.specs.Layout.{header_sector, other, InHalf, InHalfImage}
use Rattle.flip_image.proofs.Sides.{image_inside, other_apart}
use Rattle.store_image_model.specs.Run.{Run, IsRun, end_of, cells_at, records_between}
use Rattle.store_image_model.proofs.Runs.{reached}
use Rattle.store_writer.specs.Known.{HasPageNow, HasUnchanged, IsUnchanged, KnowsPages, place_set, SamePages, with_change, with_changes, with_number}
use Rattle.store_writer.proofs.Halves.{SameIn, in_from_outside}
use Rattle.store_writer.proofs.Numbers.{back_between, between_following, front_between}

-- ---- what a record sets

-- a row that a record doesn't set stays
row_stays : (rows : Table) (a : Action) (q : Place) → ((p : Place) → place_set a ≡ Some p → q ≢ p) → map.get (rows_by rows a) q ≡ map.get rows q
row_stays rows (OfTxn txn (Forward Slot c)) q apart = get-set_at_other rid_exact rows c.rid (new_row c.rows) q (apart c.rid refl)
row_stays rows (OfTxn txn (Forward OldEntry c)) q apart = refl
row_stays rows (OfTxn txn (Forward NewEntry c)) q apart = refl
row_stays rows (OfTxn txn (Undo Slot c last)) q apart = get-set_at_other rid_exact rows c.rid (old_row c.rows) q (apart c.rid refl)
row_stays rows (OfTxn txn (Undo OldEntry c last)) q apart = refl
row_stays rows (OfTxn txn (Undo NewEntry c last)) q apart = refl
row_stays rows (OfTxn txn Commit) q apart = refl
row_stays rows (OfTxn txn End) q apart = refl
row_stays rows (OfIndex a) q apart = refl

-- the numbers with one set, where the page has one
set_number : (changed : List ℕ) (page number : ℕ) → page < length changed → slice_index_or (with_number changed page number) page 0 ≡ number
set_number changed page number low = by (nat_lt page (length changed)) refl
  where
    by : (b : Bool) → nat_lt page (length changed) ≡ b → slice_index_or (if b then slice_set changed page number else changed) page 0 ≡ number
    by true is = get_or-set_same changed page number 0 low
    by false is = absurd (omega (arith, low, ltb-false page (length changed) is))

other_number : (changed : List ℕ) (page number p : ℕ) → p ≢ page → slice_index_or (with_number changed page number) p 0 ≡ slice_index_or changed p 0
other_number changed page number p apart = by (nat_lt page (length changed))
  where
    by : (b : Bool) → slice_index_or (if b then slice_set changed page number else changed) p 0 ≡ slice_index_or changed p 0
    by true = get_or-set_other changed page p number 0 apart
    by false = refl

as_many : (changed : List ℕ) (page number : ℕ) → length (with_number changed page number) ≡ length changed
as_many changed page number = by (nat_lt page (length changed))
  where
    by : (b : Bool) → length (if b then slice_set changed page number else changed) ≡ length changed
    by true = length-set changed page number
    by false = refl

pub as_many_then : (changed : List ℕ) (r : RecordValue) → length (with_change changed r) ≡ length changed
as_many_then changed r = by (place_set r.action)
  where
    by : (o : Option Place) → length (option_map_or (λ (q : Place). with_number changed q.page r.number) o changed) ≡ length changed
    by None = refl
    by (Some q) = as_many changed q.page r.number

-- a page's number stays where a record sets no row of it, and else is the record's
number_then : (changed : List ℕ) (r : RecordValue) (page : ℕ) → page < length changed
    → ((slice_index_or (with_change changed r) page 0 ≡ slice_index_or changed page 0) × ((p : Place) → place_set r.action ≡ Some p → p.page ≢ page))
    ⊎ (slice_index_or (with_change changed r) page 0 ≡ r.number)
number_then changed r page low = by (place_set r.action)
  where
    same_place : (q p : Place) → Some q ≡ Some p → q ≡ p
    same_place q p e = cc e

    by : (o : Option Place)
        → ((slice_index_or (option_map_or (λ (q : Place). with_number changed q.page r.number) o changed) page 0 ≡ slice_index_or changed page 0)
        × ((p : Place) → o ≡ Some p → p.page ≢ page))
        ⊎ (slice_index_or (option_map_or (λ (q : Place). with_number changed q.page r.number) o changed) page 0 ≡ r.number)
    by None = inl (refl, λ p e. absurd (cc e))
    by (Some q) = ⊎_elim
        (λ here. inr (ap (λ k. slice_index_or (with_number changed q.page r.number) k 0) (sym here)
        ∙ set_number changed q.page r.number (omega (arith, low, here))))
        (λ apart. inl (
          other_number changed q.page r.number page (λ e. apart (sym e)),
          λ p e there. apart (ap (λ (x : Place). x.page) (same_place q p e) ∙ there),
        ))
        (cases_eq q.page page)

-- nothing is known
pub known_nothing : (run : Run) (half : Half) (image : CrashState) (handed : ℕ) (changed : List ℕ) (here there : Option ℕ) → changed ≡ [] → here ≡ None
    → there ≡ None → KnowsPages run half image handed changed here there
known_nothing run half image handed changed here there none one two = record {
  few = omega (arith, ap length none);
  since = λ page inside. absurd (omega (arith, inside, ap length none));
  current = subst (λ (o : Option ℕ). IfSome o (HasUnchanged run half image handed changed)) (sym one) tt;
  idle = subst (λ (o : Option ℕ). IfSome o (HasUnchanged run (other half) image handed changed)) (sym two) tt;
}

-- the same, said of equal parts
pub known_noted : (run : Run) (half : Half) (image : CrashState) (m n : ℕ) (changed changed_now : List ℕ) (here there here_now there_now : Option ℕ) → m ≡ n
    → changed_now ≡ changed → here_now ≡ here → there_now ≡ there → KnowsPages run half image m changed here there
    → KnowsPages run half image n changed_now here_now there_now
known_noted run half image m n changed changed_now here there here_now there_now same list one two is =
    subst (λ k. KnowsPages run half image k changed_now here_now there_now) same
    (subst (λ (l : List ℕ). KnowsPages run half image m l here_now there_now) (sym list)
    (subst (λ (o : Option ℕ). KnowsPages run half image m changed o there_now) (sym one)
    (subst (λ (o : Option ℕ). KnowsPages run half image m changed here o) (sym two) is)))

-- ---- one record more was handed in

-- a page as it is, where its rows stay
pub page_stays : (run : Run) (half : Half) (image : CrashState) (m n page : ℕ)
    → ((q : Place) → q.page ≡ page → map.get (cells_at run n).rows q ≡ map.get (cells_at run m).rows q) → HasPageNow run half image m page
    → HasPageNow run half image n page
page_stays run half image m n page same is = record {
  has = record {
    edges = is.has.edges;
    slots = λ slot below. subst (λ (o : Option Row). IsRow (row_of Two (page_bytes image (header_sector run.geometry half) page) slot) o)
        (sym (same (record { page = page; slot = slot }) refl)) (is.has.slots slot below);
  };
  slots = λ q r here there. is.slots q r here (sym (same q here) ∙ there);
}

module _ (run : Run) (is : IsRun run) (handed : ℕ) (opened : run.last ≤ handed) (made : handed + 1 ≤ end_of run) (r : RecordValue)
    (next : records_between run handed (handed + 1) ≡ r ∷ []) where
  cells_then : cells_at run (handed + 1) ≡ set_by (cells_at run handed) r.action
  cells_then = sym (reached run handed (handed + 1) opened (omega arith)) ∙ ap (cells_after (cells_at run handed)) next

  number_is : r.number ≡ handed + 1
  number_is = (subst (AreFollowing run.geometry.pages handed (cells_at run handed)) next
      (between_following run handed (handed + 1) is opened (omega (arith, made)))).0.number

  row_then : (page : ℕ) → ((p : Place) → place_set r.action ≡ Some p → p.page ≢ page) → (q : Place) → q.page ≡ page
      → map.get (cells_at run (handed + 1)).rows q ≡ map.get (cells_at run handed).rows q
  row_then page apart q here =
      ap (λ (x : Cells). map.get x.rows q) cells_then
      ∙ row_stays (cells_at run handed).rows r.action q (λ p set same. apart p set (ap (λ (x : Place). x.page) (sym same) ∙ here))

  module _ (changed : List ℕ) where
    since_then : ((page : ℕ) → page < length changed → IsUnchanged run (slice_index_or changed page 0) handed page) → (page : ℕ) → page < length changed
        → IsUnchanged run (slice_index_or (with_change changed r) page 0) (handed + 1) page
    since_then old page low n q late up here = ⊎_elim
        (λ stays. ⊎_elim
        (λ before. old page low n q (omega (arith, late, stays.0)) (omega (arith, before)) here ∙ sym (row_then page stays.1 q here))
        (λ now. let last : n ≡ handed + 1 = omega (arith, up, now) in ap (λ k. map.get (cells_at run k).rows q) last)
        (cases_lt n (handed + 1)))
        (λ set. let last : n ≡ handed + 1 = omega (arith, late, up, set, number_is) in ap (λ k. map.get (cells_at run k).rows q) last)
        (number_then changed r page low)

    pages_then : (half : Half) (image : CrashState) (low : ℕ) → HasUnchanged run half image handed changed low
        → HasUnchanged run half image (handed + 1) (with_change changed r) low
    pages_then half image low old = record {
      within = omega (arith, old.within);
      pages = λ page inside below.
          let here : page < length changed = omega (arith, inside, as_many_then changed r) in
          ⊎_elim
          (λ stays. page_stays run half image handed (handed + 1) page (row_then page stays.1) (old.pages page here (omega (arith, below, stays.0))))
          (λ set. absurd (omega (arith, below, set, number_is, old.within)))
          (number_then changed r page here);
    }

    if_pages_then : (half : Half) (image : CrashState) (low : Option ℕ) → IfSome low (HasUnchanged run half image handed changed)
        → IfSome low (HasUnchanged run half image (handed + 1) (with_change changed r))
    if_pages_then half image None old = old
    if_pages_then half image (Some low) old = pages_then half image low old

    known_then : (half : Half) (image : CrashState) (here there : Option ℕ) → KnowsPages run half image handed changed here there
        → KnowsPages run half image (handed + 1) (with_change changed r) here there
    known_then half image here there old = record {
      few = omega (arith, old.few, as_many_then changed r);
      since = λ page inside. since_then old.since page (omega (arith, inside, as_many_then changed r));
      current = if_pages_then half image here old.current;
      idle = if_pages_then (other half) image there old.idle;
    }

-- ---- and more of them

pub known_with : (run : Run) → IsRun run → (half : Half) (image : CrashState) (here there : Option ℕ) (records : List RecordValue) (handed : ℕ)
    (changed : List ℕ) → run.last ≤ handed → handed + length records ≤ end_of run → records ≡ records_between run handed (handed + length records)
    → KnowsPages run half image handed changed here there
    → KnowsPages run half image (handed + length records) (with_changes changed records) here there
known_with run is half image here there [] handed changed opened made are known =
    subst (λ n. KnowsPages run half image n changed here there) (let e : handed ≡ handed + 0 = omega arith in e) known
known_with run is half image here there (r ∷ rs) handed changed opened made are known =
    let last : ℕ = handed + length (r ∷ rs) in
    let many : length (r ∷ rs) ≡ length rs + 1 = omega arith in
    let rise : handed ≤ last = omega arith in
    let first : records_between run handed (handed + 1) ≡ r ∷ [] =
    sym (front_between run handed last opened rise made 1 (omega (arith, many))) ∙ ap (take 1) (sym are) in
    let after : (handed + 1) + length rs ≡ last = omega (arith, many) in
    let rest : rs ≡ records_between run (handed + 1) ((handed + 1) + length rs) =
    ap (drop 1) are ∙ back_between run handed last opened rise made 1 (omega (arith, many)) ∙ ap (records_between run (handed + 1)) (sym after) in
    subst (λ n. KnowsPages run half image n (with_changes (with_change changed r) rs) here there) after
    (known_with run is half image here there rs (handed + 1) (with_change changed r) (omega (arith, opened)) (omega (arith, made, after)) rest
    (known_then run is handed opened (omega (arith, made, many)) r first changed half image here there known))

-- ---- other sectors were written

-- a sector of a page is one of the pages
page_inside : (g : GeometryValue) (first page k : ℕ) → page < g.pages → k < 16 → InPages g first (page_at first page + k)
page_inside g first page k low less = (omega arith, omega (arith, low, less))

-- and one of the half's image
pages_inside : (g : GeometryValue) (half : Half) (n : ℕ) → InPages g (header_sector g half) n → InHalfImage g half n
pages_inside g half n inside = (omega (arith, inside.0), omega (arith, inside.1))

pub page_apart : (run : Run) (half : Half) (image c : CrashState) (handed page : ℕ) → page < run.geometry.pages
    → ((k : ℕ) → k < 16 → sector c (page_at (header_sector run.geometry half) page + k) ≡ sector image (page_at (header_sector run.geometry half) page + k))
    → HasPageNow run half image handed page → HasPageNow run half c handed page
page_apart run half image c handed page low same is =
    let first : ℕ = header_sector run.geometry half in
    let bytes : page_bytes c first page ≡ page_bytes image first page = bytes_same image c (page_at first page) 16 same in
    record {
      has = record {
        edges = subst (HasEdges Two) (sym bytes) is.has.edges;
        slots = λ slot below. subst (λ (b : List ℕ). IsRow (row_of Two b slot) (map.get (cells_at run handed).rows (record { page = page; slot = slot })))
            (sym bytes) (is.has.slots slot below);
      };
      slots = is.slots;
    }

-- where its image stays
pub pages_in : (g : GeometryValue) (half : Half) (image c : CrashState) → SameIn (InHalfImage g half) image c → SamePages g half image c
pages_in g half image c same n inside = same.same n (pages_inside g half n inside)

-- a half that isn't written
pub pages_beside : (g : GeometryValue) (half : Half) (image c : CrashState) → SameOutside (InHalf g (other half)) image c → SamePages g half image c
pages_beside g half image c same =
    pages_in g half image c (in_from_outside (InHalfImage g half) _ image c (λ n inside. other_apart g half n (image_inside g half n inside)) same)

pub unchanged_apart : (run : Run) (half : Half) (image c : CrashState) → SamePages run.geometry half image c → (handed : ℕ) (changed : List ℕ)
    → length changed ≤ run.geometry.pages → (low : Option ℕ) → IfSome low (HasUnchanged run half image handed changed)
    → IfSome low (HasUnchanged run half c handed changed)
unchanged_apart run half image c same handed changed few None is = is
unchanged_apart run half image c same handed changed few (Some low) is = record {
  within = is.within;
  pages = λ page inside below.
      page_apart run half image c handed page (omega (arith, inside, few)) (λ k less.
      same _ (page_inside run.geometry (header_sector run.geometry half) page k (omega (arith, inside, few)) less)) (is.pages page inside below);
}

pub known_apart : (run : Run) (half : Half) (image c : CrashState) (handed : ℕ) (changed : List ℕ) (here there : Option ℕ)
    → SamePages run.geometry half image c → SamePages run.geometry (other half) image c
    → KnowsPages run half image handed changed here there → KnowsPages run half c handed changed here there
known_apart run half image c handed changed here there one two is = record {
  few = is.few;
  since = is.since;
  current = unchanged_apart run half image c one handed changed is.few here is.current;
  idle = unchanged_apart run (other half) image c two handed changed is.few there is.idle;
}

-- the other half was written, and something else is known of it
pub known_idle : (run : Run) (half : Half) (image c : CrashState) (handed : ℕ) (changed : List ℕ) (here there now : Option ℕ)
    → SamePages run.geometry half image c → IfSome now (HasUnchanged run (other half) c handed changed)
    → KnowsPages run half image handed changed here there → KnowsPages run half c handed changed here now
known_idle run half image c handed changed here there now one idle is = record {
  few = is.few;
  since = is.since;
  current = unchanged_apart run half image c one handed changed is.few here is.current;
  idle = idle;
}

-- where more records are made, what is known is so for a longer run
pub known_longer : (run longer : Run) (half : Half) (image : CrashState) (handed : ℕ) (changed : List ℕ) (here there : Option ℕ)
    → longer.geometry ≡ run.geometry → ((n : ℕ) → n ≤ handed → cells_at longer n ≡ cells_at run n) → KnowsPages run half image handed changed here there
    → KnowsPages longer half image handed changed here there
known_longer run longer half image handed changed here there g_is same is = record {
  few = subst (λ (g : GeometryValue). length changed ≤ g.pages) (sym g_is) is.few;
  since = λ page inside n q late up at.
      ap (λ (x : Cells). map.get x.rows q) (same n up) ∙ is.since page inside n q late up at
      ∙ sym (ap (λ (x : Cells). map.get x.rows q) (same handed (omega arith)));
  current = if_longer half here is.current;
  idle = if_longer (other half) there is.idle;
}
  where
    page_longer : (h : Half) (page : ℕ) → HasPageNow run h image handed page → HasPageNow longer h image handed page
    page_longer h page now = record {
      has = subst (λ (g : GeometryValue). HasPage (header_sector g h) image page (cells_at longer handed).rows) (sym g_is)
          (subst (λ (x : Cells). HasPage (header_sector run.geometry h) image page x.rows) (sym (same handed (omega arith))) now.has);
      slots = subst (λ (x : Cells). (q : Place) (r : Row) → q.page ≡ page → map.get x.rows q ≡ Some r → q.slot < 63) (sym (same handed (omega arith)))
          now.slots;
    }

    if_longer : (h : Half) (low : Option ℕ) → IfSome low (HasUnchanged run h image handed changed) → IfSome low (HasUnchanged longer h image handed changed)
    if_longer h None is = is
    if_longer h (Some low) is = record { within = is.within; pages = λ page inside below. page_longer h page (is.pages page inside below) }

-- An image is written part by part.
use Rattle.std.proofs.Common.{◌≡◌, inl, inr, ⊎_elim, ℕ, zero, suc, ◌+◌, ◌-◌, ◌*◌, ◌/◌, ◌%◌, ◌<◌, ◌≤◌, List, [], ◌∷◌, ◌++◌, length, map, Option, Some, refl, sym}
use Rattle.std.proofs.Common.{ap, ◌∙◌, subst, arith, length-append}
use Rattle.std.proofs.lemmas.Bool.{cases_lt}
use Rattle.std.specs.Prelude.{slice_get}
use Rattle.std.specs.FinMap.{entries, get, empty, get-empty, len-entries, len-empty}
use Rattle.std.specs.Option.{option_map}
use Rattle.std.proofs.lemmas.List.{length-map}
use Rattle.std.proofs.lemmas.Option.{slice_get-map, slice_get_within, none-some}
use Rattle.sector_device.specs.Disk.{CrashState, sector, SameOutside}
use Rattle.sector_device.specs.DevicePast.{DevicePast}
use Rattle.records.specs.ChangeValue.{ChangeValue}
use Rattle.record_values.specs.declared.version.Version.TheVariants.{Two}
use Rattle.record_values.specs.GeometryValue.{GeometryValue}
use Rattle.record_values.specs.Orders.{rid_cmp, pair_cmp}
use Rattle.record_values.specs.declared.row.Row.{Row}
use Rattle.record_values.specs.declared.pair.Pair.{Pair}
use Rattle.record_values.specs.declared.pair.Mark.{Mark}
use Rattle.model.specs.Table.{Table}
use Rattle.record_values.specs.Entries.{Index}
use Rattle.model.specs.Cells.{Cells}
use Rattle.store_image_half.specs.Layout.{heads_at, undo_at, page_at, entries_at, page_bytes, row_of, InImage, InPage, InEntries}
use Rattle.store_image_half.specs.Image.{IsHeader, AreHeads, HoldsList, IsItem, HasEdges, IsRow, IsEntry, IsImage, row_bytes, entry_bytes, header_of, head_of}
use Rattle.store_image_half.specs.Image.{item_of, InLists, InStart}
use Rattle.store_image_half.specs.Part.{IsImagePart, HasPage, IsWithPage}
use Rattle.store_image_half.specs.Source.{FitsImage}
use Rattle.store_image_half.specs.Steps.{WritesIn}
use Rattle.store_image_half.proofs.Joined.{writes_then, writes_wider}
use Rattle.store_image_half.proofs.Kept.{piece_kept, list_kept, bytes_kept}
use Rattle.store_image_half.proofs.Writing.{list_short}

-- ---- a list behind another

slice_get-append_front : {X : Type 0} (xs ys : List X) (i : ℕ) → i < length xs → slice_get (xs ++ ys) i ≡ slice_get xs i
slice_get-append_front [] ys i less = absurd (omega (arith, less))
slice_get-append_front (x ∷ xs) ys zero less = refl
slice_get-append_front (x ∷ xs) ys (suc i) less = slice_get-append_front xs ys i (omega (arith, less))

slice_get-append_back : {X : Type 0} (xs ys : List X) (i : ℕ) → length xs ≤ i → slice_get (xs ++ ys) i ≡ slice_get ys (i - length xs)
slice_get-append_back [] ys i past = ap (slice_get ys) (let e : i ≡ i - 0 = omega arith in e)
slice_get-append_back (x ∷ xs) ys zero past = absurd (omega (arith, past))
slice_get-append_back (x ∷ xs) ys (suc i) past = slice_get-append_back xs ys i (omega (arith, past))
    ∙ ap (slice_get ys) (let e : i - length xs ≡ suc i - suc (length xs) = omega arith in e)

-- ---- what is there, and what comes to it

-- what is there stays while other sectors are written
module _ (g : GeometryValue) (first : ℕ) (image c : CrashState) (pages : ℕ) (cells : Cells) (P : ℕ
    → Type 0) (same : SameOutside P image c) (is : IsImagePart g first image pages cells)
    (front : (n : ℕ) → heads_at first ≤ n → n < page_at first 0 → ¬ P n) (behind : (n : ℕ) → page_at first 0 ≤ n → n < page_at first pages → ¬ P n)
    (last : (i : ℕ) → i < length (entries cells.entries) → ¬ P (entries_at g first + i / 8)) where
  list_stays : (h : ℕ) (list : ℕ × List ChangeValue) → slice_get (entries cells.pending) h ≡ Some list → HoldsList g first c h list.1
  list_stays h list at_h =
      let few : h < 16 = omega (arith, slice_get_within (entries cells.pending) h list at_h, length-map (entries cells.pending) head_of, is.heads-are.count) in
      let short : length list.1 ≤ 64 =
      (is.heads-are.fits h (head_of list) (slice_get-map head_of (entries cells.pending) h ∙ ap (option_map head_of) at_h)).changes in
      record {
        positions = (is.lists h list at_h).positions;
        items = λ p x at_p.
            let low : p < 64 = omega (arith, slice_get_within list.1 p x at_p, short) in
            piece_kept P image c same (λ b. IsItem g b (item_of x)) (undo_at first) 512 1 (64 * h + p)
            (front (undo_at first + (64 * h + p) / 1) (omega (arith, few, low)) (omega (arith, few, low))) ((is.lists h list at_h).items p x at_p);
      }

  page_stays : (page : ℕ) → page < pages → page_bytes c first page ≡ page_bytes image first page
  page_stays page below = bytes_kept P image c same first page (λ k low. behind (page_at first page + k) (omega arith) (omega (arith, low, below)))

  pub part_kept : IsImagePart g first c pages cells
  part_kept = record {
    low = is.low;
    room = is.room;
    heads-are = subst (λ (b : List ℕ). AreHeads b (map head_of (entries cells.pending)))
        (sym (same.same (heads_at first) (front (heads_at first) (omega arith) (omega arith)))) is.heads-are;
    lists = list_stays;
    edges = λ page below. subst (HasEdges Two) (sym (page_stays page below)) (is.edges page below);
    rows = λ q page slot. subst (λ (b : List ℕ). IsRow (row_of Two b q.slot) (get cells.rows q)) (sym (page_stays q.page page)) (is.rows q page slot);
    within = is.within;
    entries = λ i e at_i. piece_kept P image c same (λ b. IsEntry g b e) (entries_at g first) 64 8 i
        (last i (slice_get_within (entries cells.entries) i e at_i)) (is.entries i e at_i);
  }

module _ (g : GeometryValue) (first : ℕ) (image c : CrashState) where
  -- it is told by the sectors of an image
  pub part_told : length c ≡ length image → ((n : ℕ) → InImage g first n → sector c n ≡ sector image n) → (pages : ℕ) (cells : Cells)
      → IsImagePart g first image pages cells → IsImagePart g first c pages cells
  part_told long same pages cells is = part_kept g first image c pages cells (λ n. ¬ InImage g first n)
      (record { sectors = long; same = λ n inside. same n (inside_of n inside) }) is
      (λ n low high out. out (omega (arith, low), omega (arith, high)))
      (λ n low high out. out (omega (arith, low), omega (arith, high, is.low)))
      (λ i below out. out (omega arith, omega (arith, below, is.room)))
    where
      inside_of : (n : ℕ) → (¬ (¬ InImage g first n)) → InImage g first n
      inside_of n inside = ⊎_elim (λ low. absurd (inside (λ is. omega (arith, low, is.0)))) (λ high.
          ⊎_elim (λ below. (high, below)) (λ past. absurd (inside (λ is. omega (arith, past, is.1)))) (cases_lt n (entries_at g first + (g.entries + 7) / 8)))
          (cases_lt n first)

  -- its next page is written
  pub part_page : (page : ℕ) (cells : Cells) (rows : Table) → page < g.pages → IsImagePart g first image page cells → SameOutside (InPage first page) image c
      → HasPage first c page rows → IsWithPage page cells.rows rows
      → IsImagePart g first c (page + 1) (record cells { rows = rows })
  part_page page cells rows below is same has more =
      let kept = part_kept g first image c page cells (InPage first page) same is
      (λ n low high in_it. omega (arith, high, in_it.0)) (λ n low high in_it. omega (arith, high, in_it.0)) (λ i few in_it. omega (arith, below, in_it.1)) in
      record {
        low = omega (arith, below);
        room = kept.room;
        heads-are = kept.heads-are;
        lists = kept.lists;
        edges = λ k less. ⊎_elim (λ before. kept.edges k before) (λ late.
            subst (λ (x : ℕ). HasEdges Two (page_bytes c first x)) (let e : page ≡ k = omega (arith, less, late) in e) has.edges) (cases_lt k page);
        rows = λ q less slot. ⊎_elim
            (λ before. subst (λ (o : Option Row). IsRow (row_bytes c first q.page q.slot) o) (sym (more.earlier q before)) (kept.rows q before slot))
            (λ late. subst (λ (x : ℕ). IsRow (row_bytes c first x q.slot) (get rows (record { page = x; slot = q.slot })))
            (let e : page ≡ q.page = omega (arith, less, late) in e) (has.slots q.slot slot))
            (cases_lt q.page page);
        within = more.within;
        entries = kept.entries;
      }

  -- its next entries are written, where those before them fill their sectors
  pub part_entries : (pages : ℕ) (cells : Cells) (index : Index) (more : List (Pair × Mark)) → IsImagePart g first image pages cells
      → length (entries cells.entries) % 8 ≡ 0 → entries index ≡ entries cells.entries ++ more
      → length (entries cells.entries) + length more ≤ g.entries → SameOutside (InEntries g first (length (entries cells.entries)) (length more)) image c
      → ((i : ℕ) (e : Pair × Mark) → slice_get more i ≡ Some e → IsEntry g (entry_bytes g c first (length (entries cells.entries) + i)) e)
      → IsImagePart g first c pages (record cells { entries = index })
  part_entries pages cells index more is full all room same written =
      let old = entries cells.entries in
      let kept = part_kept g first image c pages cells (InEntries g first (length old) (length more)) same is
      (λ n low high in_it. omega (arith, high, in_it.0)) (λ n low high in_it. omega (arith, high, is.low, in_it.0)) (λ i few in_it.
      omega (arith, few, full, in_it.0)) in
      record {
        low = kept.low;
        room = omega (arith, ap length all, length-append old more, room);
        heads-are = kept.heads-are;
        lists = kept.lists;
        edges = kept.edges;
        rows = kept.rows;
        within = kept.within;
        entries = λ i e at_i.
            let there : slice_get (old ++ more) i ≡ Some e = ap (λ (l : List (Pair × Mark)). slice_get l i) (sym all) ∙ at_i in
            ⊎_elim
            (λ below. kept.entries i e (sym (slice_get-append_front old more i below) ∙ there))
            (λ past. subst (λ k. IsEntry g (entry_bytes g c first k) e) (let s : length old + (i - length old) ≡ i = omega (arith, past) in s)
            (written (i - length old) e (sym (slice_get-append_back old more i past) ∙ there)))
            (cases_lt i (length old));
      }

  -- with all pages, and the header, it is the image
  pub part_whole : (base : ℕ) (cells : Cells) → IsImagePart g first image g.pages cells → SameOutside (λ n. n ≡ first) image c
      → IsHeader g (sector c first) (header_of base cells) → IsImage g first c base cells
  part_whole base cells is same header =
      let kept = part_kept g first image c g.pages cells (λ n. n ≡ first) same is
      (λ n low high in_it. omega (arith, low, in_it)) (λ n low high in_it. omega (arith, low, in_it)) (λ i few in_it. omega (arith, in_it)) in
      record {
        header-is = header;
        heads-are = kept.heads-are;
        lists = kept.lists;
        edges = kept.edges;
        rows = kept.rows;
        within = kept.within;
        entries = kept.entries;
      }

-- it begins with the lists
pub part_began : (g : GeometryValue) (first : ℕ) (image : CrashState) (cells : Cells)
    → AreHeads (sector image (heads_at first)) (map head_of (entries cells.pending))
    → ((h : ℕ) (list : ℕ × List ChangeValue) → slice_get (entries cells.pending) h ≡ Some list → HoldsList g first image h list.1)
    → cells.rows ≡ empty → cells.entries ≡ empty → IsImagePart g first image 0 cells
part_began g first image cells heads lists rows index =
    let none : length (entries cells.entries) ≡ 0 = ap (λ (m : Index). length (entries m)) index
    ∙ sym (len-entries (empty {K = Pair} {X = Mark} {R = pair_cmp})) ∙ len-empty pair_cmp Mark in
    record {
      low = omega arith;
      room = omega (arith, none);
      heads-are = heads;
      lists = lists;
      edges = λ page below. absurd (omega (arith, below));
      rows = λ q below. absurd (omega (arith, below));
      within = λ q r there. absurd (none-some r (sym (ap (λ (m : Table). get m q) rows ∙ get-empty rid_cmp q) ∙ there));
      entries = λ i e at_i. absurd (omega (arith, slice_get_within (entries cells.entries) i e at_i, none));
    }

-- ---- its start is written

module _ (first : ℕ) (cells : Cells) (old mid : DevicePast) where
  pub start_lists : WritesIn (InLists first cells) old mid → WritesIn (InStart first cells) old mid
  start_lists part = writes_wider (InStart first cells) (InLists first cells) old mid (λ n is. inr is) part

  pub start_heads : (new : DevicePast) → WritesIn (InLists first cells) old mid → WritesIn (λ n. n ≡ heads_at first) mid new
      → WritesIn (InStart first cells) old new
  start_heads new lists part = writes_then (InStart first cells) (λ n. n ≡ heads_at first) old mid new (λ n is. inl is) (start_lists lists) part

module _ (g : GeometryValue) (first : ℕ) (cells : Cells) (fits : FitsImage g cells) (mid new : DevicePast) (part : WritesIn (λ n. n ≡ heads_at first) mid new)
    (lists : (h : ℕ) (list : ℕ × List ChangeValue) → slice_get (entries cells.pending) h ≡ Some list → HoldsList g first mid.disk.content h list.1) where
  shown : (h : ℕ) (list : ℕ × List ChangeValue) → slice_get (entries cells.pending) h ≡ Some list → HoldsList g first new.disk.content h list.1
  shown h list at_h = list_kept (λ n. n ≡ heads_at first) mid.disk.content new.disk.content part.outside g first h list.1 (λ p low is. omega (arith, is))
      (list_short g cells fits h list at_h) (lists h list at_h)

  pub started : AreHeads (sector new.disk.content (heads_at first)) (map head_of (entries cells.pending))
      → IsImagePart g first new.disk.content 0 (record cells { rows = empty; entries = empty })
  started heads = part_began g first new.disk.content (record cells { rows = empty; entries = empty }) heads shown refl refl

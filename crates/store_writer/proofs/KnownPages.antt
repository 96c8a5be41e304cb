-- What becomes of what is known of pages where an image is written, made current or passed over.
use Rattle.std.proofs.Common.{◌≡◌, ◌≢◌, ◌⊎◌, inl, inr, ⊎_elim, ℕ, ◌+◌, ◌*◌, ◌-◌, ◌<◌, ◌≤◌, ◌==◌, Bool, true, false, cond, List, length, take, drop, Option}
use Rattle.std.proofs.Common.{Some, None}
use Rattle.std.proofs.Common.{IfSome, refl, sym, ap, subst, ◌∙◌, arith}
use Rattle.std.specs.Prelude.{nat_lt, replicate, slice_get, slice_index_or}
use Rattle.std.specs.FinMap as map
use Rattle.std.proofs.lemmas.Bool.{cases_eq, cases_lt, eqb-true, eqb-false}
use Rattle.std.proofs.lemmas.List.{get_or-replicate, length-replicate}
use Rattle.std.proofs.lemmas.Option.{slice_get_within}
use Rattle.sector_device.specs.Disk.{CrashState, sector, SameOutside}
use Rattle.record_values.specs.GeometryValue.{GeometryValue}
use Rattle.record_values.specs.Values.{Place}
use Rattle.record_values.specs.Maps.{rid_exact}
use Rattle.record_values.specs.declared.pair.Pair.{Pair}
use Rattle.record_values.specs.declared.row.Row.{Row}
use Rattle.record_values.specs.declared.version.Version.TheVariants.{Two}
use Rattle.records.specs.ChangeValue.{ChangeValue}
use Rattle.records.specs.RecordValue.{RecordValue}
use Rattle.model.specs.Table.{Table}
use Rattle.model.specs.Cells.{Cells, cells_after, list_of}
use Rattle.model.specs.declared.life.Life.{Life}
use Rattle.gate_log.specs.Area.{IsGate}
use Rattle.store_reader.specs.Contents.{log_area}
use Rattle.store_image_half.specs.Layout.{heads_at, page_at, page_bytes, row_of, InPage, InPages}
use Rattle.store_image_half.specs.Image.{InLists, InStart, IsRow}
use Rattle.store_image_half.specs.Part.{HasPage}
use Rattle.store_image_half.specs.Source.{FitsImage}
use Rattle.flip_image.specs.declared.half.Half.{Half}
use Rattle.flip_image.specs.declared.half.Half.TheVariants.{A, B}
use Rattle.flip_image.specs.Layout.{header_sector, other}
use Rattle.flip_image.specs.Store.{HoldsImage}
use Rattle.store_image_model.specs.Partly.{ArePageRows}
use Rattle.store_image_model.specs.Run.{Run, IsCopiedFrom, cells_at, records_above}
use Rattle.store_image_model.proofs.Runs.{reached}
use Rattle.sector_device.specs.DevicePast.{DevicePast}
use Rattle.store_image_model.specs.declared.chunk.CopyPlace.{CopyPlace}
use Rattle.store_writer.specs.declared.copying.Copying.TheVariants.{Steps}
use Rattle.store_writer.specs.declared.image.NewImage.{NewImage}
use Rattle.store_writer.specs.declared.image.Stage.TheVariants.{Partly}
use Rattle.store_writer.specs.declared.writer.Writer.{Writer}
use Rattle.store_writer.specs.Copying.{IsCopying, next_place, page_behind}
use Rattle.store_writer.specs.Image.{IsContent, IsPart, IsUnderway}
use Rattle.store_writer.specs.Parts.{handed_of}
use Rattle.store_image_model.specs.declared.chunk.CopyPlace.TheVariants as place
use Rattle.store_writer.specs.Writer.{IsAsTaken, IsLogFull, IsPageChunk, IsWriter, StandsFor}
use Rattle.store_writer.specs.Known.{HasPageNow, HasUnchanged, IsKnown, IsUnchanged, KnowsPages, SamePages}
use Rattle.store_writer.proofs.Knowing.{known_apart, known_idle, page_apart, unchanged_apart}
use Rattle.store_writer.proofs.Listed.{list_at}
use Rattle.store_writer.proofs.Opening.{kept_writer, waits_all}
use Rattle.store_writer.proofs.Places.{at_page, behind_page, place_at}
use Rattle.store_writer.proofs.Stepwise.{at_stage, page_part}

-- ---- where an image begins

-- the heads and the undo items of some cells lie before the pages
pub start_before : (g : GeometryValue) (first : ℕ) (cells : Cells) → FitsImage g cells → (n : ℕ) → InStart first cells n → n < page_at first 0
start_before g first cells fits n is = ⊎_elim (λ heads. omega (arith, heads)) of_list is
  where
    of_list : InLists first cells n → n < page_at first 0
    of_list (h, list, there, at) =
        let few : h < 16 = omega (arith, slice_get_within (map.entries cells.pending) h list there, fits.txns) in
        let short : length list.1 ≤ 64 = subst (λ (cs : List ChangeValue). length cs ≤ 64) (list_at cells h list there) (fits.changes list.0) in
        omega (arith, at.1, few, short)

-- no gate of the log is a sector of the pages
pub no_gate : (g : GeometryValue) (half : Half) (n : ℕ) → InPages g (header_sector g half) n → ¬ IsGate (log_area g half) n
no_gate g half n inside (slot, below, is) = omega (arith, inside.1, is)

-- numbers are kept from now on, and no half has a page
pub begun : (run : Run) (half : Half) (image : CrashState) (handed pages : ℕ) → pages ≡ run.geometry.pages
    → KnowsPages run half image handed (replicate pages handed) None None
begun run half image handed pages all = record {
  few = omega (arith, length-replicate pages handed, all);
  since = λ page inside n q late up here.
      let low : page < pages = omega (arith, inside, length-replicate pages handed) in
      let is : slice_index_or (replicate pages handed) page 0 ≡ handed = get_or-replicate pages page handed 0 low in
      let same : n ≡ handed = omega (arith, late, up, is) in
      ap (λ k. map.get (cells_at run k).rows q) same;
  current = tt;
  idle = tt;
}

-- ---- where a page is written

module _ (run : Run) (half : Half) (image c : CrashState) (handed number page : ℕ) (rows : Table) (below : page < run.geometry.pages)
    (same : SameOutside (InPage (header_sector run.geometry half) page) image c) (has : HasPage (header_sector run.geometry half) c page rows)
    (rows_are : ArePageRows (cells_at run number) page rows) (slots : (q : Place) (r : Row) → map.get rows q ≡ Some r → q.slot < 63) (up : number ≤ handed)
    (changed : List ℕ) (few : length changed ≤ run.geometry.pages)
    (since : (p : ℕ) → p < length changed → IsUnchanged run (slice_index_or changed p 0) handed p) where
  -- the page itself
  this_page : (inside : page < length changed) → slice_index_or changed page 0 ≤ number → HasPageNow run half c handed page
  this_page inside low =
      let row_is : (q : Place) → q.page ≡ page → map.get rows q ≡ map.get (cells_at run handed).rows q = λ q here.
      rows_are.there q here ∙ since page inside number q low up here in
      record {
        has = record {
          edges = has.edges;
          slots = λ slot short. subst (λ (o : Option Row). IsRow (row_of Two (page_bytes c (header_sector run.geometry half) page) slot) o)
              (row_is (record { page = page; slot = slot }) refl) (has.slots slot short);
        };
        slots = λ q r here there. slots q r (row_is q here ∙ there);
      }

  -- and another one
  apart : (p k : ℕ) → p ≢ page → k < 16 → ¬ InPage (header_sector run.geometry half) page (page_at (header_sector run.geometry half) p + k)
  apart p k other less (at, before) = ⊎_elim
      (λ lower. omega (arith, at, lower, less))
      (λ higher. omega (arith, before, higher, other, less))
      (cases_lt p page)

  pub page_written : (low : ℕ) → low ≤ number → HasUnchanged run half image handed changed low → HasUnchanged run half c handed changed low
  page_written low late is = record {
    within = is.within;
    pages = λ p inside under. ⊎_elim
        (λ here. subst (HasPageNow run half c handed) (sym here)
        (this_page (omega (arith, inside, here)) (omega (arith, late, ap (λ k. slice_index_or changed k 0) (sym here), under))))
        (λ other. page_apart run half image c handed p (omega (arith, inside, few)) (λ k less. same.same _ (apart p k other less)) (is.pages p inside under))
        (cases_eq p page);
  }

-- ---- where an image is made current

-- an image that was copied from one record to another has the pages that no record above the first one changed
pub image_pages : (run : Run) (half : Half) (image : CrashState) (handed base number : ℕ) (copied : Cells) → run.last ≤ base → base ≤ number → number ≤ handed
    → HoldsImage run.geometry half image base copied → IsCopiedFrom run base number copied → (changed : List ℕ) → length changed ≤ run.geometry.pages
    → ((p : ℕ) → p < length changed → IsUnchanged run (slice_index_or changed p 0) handed p) → HasUnchanged run half image handed changed base
image_pages run half image handed base number copied opened rise up held copies changed few since = record {
  within = omega (arith, rise, up);
  pages = λ page inside low.
      let row_is : (q : Place) → q.page ≡ page → map.get copied.rows q ≡ map.get (cells_at run handed).rows q = λ q here.
      let (k, until, was) = copies.rows q in
      let count : k ≡ base + k - base = omega arith in
      was
      ∙ ap (λ m. map.get (cells_after (cells_at run base) (take m (records_above run base))).rows q) count
      ∙ ap (λ (x : Cells). map.get x.rows q) (reached run base (base + k) opened (omega arith))
      ∙ since page inside (base + k) q (omega (arith, low)) (omega (arith, until, up, rise)) here in
      record {
        has = record {
          edges = held.edges page (omega (arith, inside, few));
          slots = λ slot short. subst (λ (o : Option Row). IsRow (row_of Two (page_bytes image (header_sector run.geometry half) page) slot) o)
              (row_is (record { page = page; slot = slot }) refl) (held.rows (record { page = page; slot = slot }) (omega (arith, inside, few)) short);
        };
        slots = λ q r here there. (held.within q r (row_is q here ∙ there)).1;
      };
}

-- ---- where a page is passed over

module _ (rows : Table) (page : ℕ) where
  abbrev pub page_alone : Table
  page_alone = map.retain_keys rows (λ (q : Place). q.page == page)

  alone_has : (q : Place) → map.get page_alone q ≡ cond (q.page == page) (map.get rows q) None
  alone_has q = map.get-retain_keys rows (λ (p : Place). p.page == page) q (λ p tied. ap (λ (x : Place). x.page == page) (sym (rid_exact.only_equal q p tied)))

  there : (q : Place) → q.page ≡ page → map.get page_alone q ≡ map.get rows q
  there q here = alone_has q ∙ by (q.page == page) refl
    where
      by : (b : Bool) → (q.page == page) ≡ b → cond b (map.get rows q) None ≡ map.get rows q
      by true is = refl
      by false is = absurd (eqb-false q.page page is here)

  elsewhere : (q : Place) → q.page ≢ page → map.get page_alone q ≡ None
  elsewhere q apart = alone_has q ∙ by (q.page == page) refl
    where
      by : (b : Bool) → (q.page == page) ≡ b → cond b (map.get rows q) None ≡ None
      by true is = absurd (apart (eqb-true q.page page is))
      by false is = refl

-- a page that the half has is as good as one that is copied now
pub passed_part : (run : Run) (half : Half) (image : CrashState) (base number handed page count : ℕ) (highest : Option Pair) (life : Life) → run.last ≤ base
    → base ≤ number → number ≤ handed → page < run.geometry.pages → HasPageNow run half image handed page
    → IsPart run half image base number page count highest life → IsPart run half image base handed (page + 1) count highest life
passed_part run half image base number handed page count highest life opened rise up below now part =
    let rows : Table = (cells_at run handed).rows in
    page_part run half image image base number handed opened rise up page count highest life (page_alone rows page) part below
    (record { there = there rows page; elsewhere = elsewhere rows page })
    (λ q r is. ⊎_elim
    (λ here. now.slots q r here (sym (there rows page q here) ∙ is))
    (λ apart. absurd (cc (elsewhere rows page q apart, is)))
    (cases_eq q.page page))
    (record { sectors = refl; same = λ n out. refl })
    (record {
      edges = now.has.edges;
      slots = λ slot short. subst (λ (o : Option Row). IsRow (row_of Two (page_bytes image (header_sector run.geometry half) page) slot) o)
          (sym (there rows page (record { page = page; slot = slot }) refl)) (now.has.slots slot short);
    })

-- the writer stands for as much where a page was passed over
module _ {D M : Type 0} (past_of : D → DevicePast) (run : Run) (handed : ℕ) (w : Writer D M) (is : IsWriter past_of run handed w) (sound : w.failed ≡ false)
    (image : NewImage) (here : w.image ≡ Some image) (page count : ℕ) (highest : Option Pair) (life : Life) (at : image.stage ≡ Partly page count highest life)
    (up : image.number ≤ handed_of w) (known : IsKnown w.known.changed.items w.known.other page) where
  abbrev content : CrashState
  content = (past_of w.device).disk.content

  abbrev half : Half
  half = other w.halves.current

  stood : StandsFor past_of run w
  stood = is.holds sound

  pub below : page < run.geometry.pages
  below = omega (arith, known.0, stood.known.few)

  under : IsUnderway run half content w.synced image
  under = subst (λ (t : Option NewImage). IfSome t (IsUnderway run half content w.synced)) here stood.image

  the_page : HasPageNow run half content (handed_of w) page
  the_page =
      let (low, is_low, up_to) = known.1 in
      (subst (λ (o : Option ℕ). IfSome o (HasUnchanged run half content (handed_of w) w.known.changed.items)) is_low stood.known.idle).pages page known.0 up_to

  abbrev new_image : NewImage
  new_image = record image { number = handed_of w; stage = Partly (page + 1) count highest life }

  taken : IsUnderway run half content w.synced new_image
  taken = at_stage run half content content w.synced image under (handed_of w) (Partly (page + 1) count highest life) up
      (omega (arith, is.made, waits_all past_of run handed w is)) under.stands
      (passed_part run half content image.base image.number (handed_of w) page count highest life under.low under.rise up below the_page
      (subst (IsContent run half content image.base image.number) at under.content))

  copied : IsCopying run.geometry.pages (Steps (page_behind run.geometry.pages page)) (Some new_image)
  copied =
      let (low, (j, began, came, from)) = at_page run.geometry.pages w.copying w.image stood.copying image here page count highest life at below in
      let same : Partly page 0 None began ≡ Partly page count highest life = cc (came, here, from, at) in
      let further : new_image.stage ≡ Partly (page + 1) 0 None began = cc same in
      inr (behind_page run.geometry.pages (Some new_image) new_image refl page began below further (nat_lt (page + 1) run.geometry.pages) refl)

  pub passed : (behind : Option CopyPlace) → behind ≡ page_behind run.geometry.pages page
      → IsWriter past_of run handed (record w { image = Some new_image; copying = Steps behind })
  passed behind behind_is =
      kept_writer past_of run handed w is (record w { image = Some new_image; copying = Steps behind }) refl refl refl (λ _. record {
        store = stood.store;
        has = stood.has;
        area-is = stood.area-is;
        groups = stood.groups;
        stands = stood.stands;
        loose = stood.loose;
        image = taken;
        copying = subst (λ (p : Option CopyPlace). IsCopying run.geometry.pages (Steps p) (Some new_image)) (sym behind_is) copied;
        known = stood.known;
      }) refl

  -- where the copying goes on
  pub next : next_place w.copying ≡ Some (place.Page page)
  next = place_at run.geometry.pages w.copying w.image stood.copying image here page count highest life at below

  told : handed_of w ≡ handed
  told = waits_all past_of run handed w is

  abbrev rows : Table
  rows = page_alone (cells_at run (handed_of w)).rows page

  -- the page's rows, as a piece of the image
  chunk : (i : NewImage) → w.image ≡ Some i → IsPageChunk run i handed page rows
  chunk i there_is =
      let same : image ≡ i = cc (here, there_is) in
      subst (λ (x : NewImage). IsPageChunk run x handed page rows) same (record {
        next = (count, highest, life, at);
        below = below;
        later = omega (arith, up, told);
        made = is.made;
        small = is.small;
        rows-are =
            let all : Table = (cells_at run (handed_of w)).rows in
            subst (λ n. ArePageRows (cells_at run n) page rows) told (record { there = there all page; elsewhere = elsewhere all page });
        slots = λ q r found.
            let all : Table = (cells_at run (handed_of w)).rows in
            ⊎_elim
            (λ on. the_page.slots q r on (sym (there all page q on) ∙ found))
            (λ apart. absurd (cc (elsewhere all page q apart, found)))
            (cases_eq q.page page);
      })

  -- it is as if they had been taken
  pub as_taken : ¬ IsLogFull w → (behind : Option CopyPlace) → behind ≡ page_behind w.halves.geometry.pages page
      → IsAsTaken run handed w (record w { image = Some new_image; copying = Steps behind })
  as_taken room behind behind_is = (
    page,
    rows,
    next,
    chunk,
    (
      λ must. ⊎_elim (λ none. absurd (cc (none, here))) (λ full. room full) must,
      (
        new_image,
        (refl, refl, refl, refl, refl, refl),
        (image, count, highest, life, here, at, ap (λ n. record image { number = n; stage = Partly (page + 1) count highest life }) told),
        ap Steps behind_is,
      ),
    ),
  )

-- ---- what the calls leave

-- a page was written into the other half
pub known_written : (run : Run) (half : Half) (image c : CrashState) (handed number page : ℕ) (rows : Table) (changed : List ℕ) (here there now : Option ℕ)
    → page < run.geometry.pages → SameOutside (InPage (header_sector run.geometry (other half)) page) image c
    → HasPage (header_sector run.geometry (other half)) c page rows
    → ArePageRows (cells_at run number) page rows → ((q : Place) (r : Row) → map.get rows q ≡ Some r → q.slot < 63)
    → SamePages run.geometry half image c → (now ≡ there) ⊎ (now ≡ None) → IfSome now (λ low. (low ≤ number) × (number ≤ handed))
    → KnowsPages run half image handed changed here there → KnowsPages run half c handed changed here now
known_written run half image c handed number page rows changed here there now below same has rows_are slots beside either between is =
    known_idle run half image c handed changed here there now beside (by now either between) is
  where
    by : (o : Option ℕ) → (o ≡ there) ⊎ (o ≡ None) → IfSome o (λ low. (low ≤ number) × (number ≤ handed))
        → IfSome o (HasUnchanged run (other half) c handed changed)
    by None either between = tt
    by (Some low) either between =
        let stays : Some low ≡ there = ⊎_elim (λ e. e) (λ e. absurd (cc e)) either in
        page_written run (other half) image c handed number page rows below same has rows_are slots between.1 changed is.few is.since low between.0
        (subst (λ (o : Option ℕ). IfSome o (HasUnchanged run (other half) image handed changed)) (sym stays) is.idle)

-- an image begins in the other half
pub known_begun : (run : Run) (half : Half) (image c : CrashState) (handed pages : ℕ) (changed changed_now : List ℕ) (here there here_now there_now : Option ℕ)
    → pages ≡ run.geometry.pages → SamePages run.geometry half image c → SamePages run.geometry (other half) image c
    → ((changed_now ≡ changed) × (here_now ≡ here) × (there_now ≡ there))
    ⊎ ((changed_now ≡ replicate pages handed) × (here_now ≡ None) × (there_now ≡ None))
    → KnowsPages run half image handed changed here there → KnowsPages run half c handed changed_now here_now there_now
known_begun run half image c handed pages changed changed_now here there here_now there_now all one two either is = ⊎_elim
    (λ stays. subst (λ (l : List ℕ). KnowsPages run half c handed l here_now there_now) (sym stays.0)
    (subst (λ (o : Option ℕ). KnowsPages run half c handed changed o there_now) (sym stays.1)
    (subst (λ (o : Option ℕ). KnowsPages run half c handed changed here o) (sym stays.2) (known_apart run half image c handed changed here there one two is))))
    (λ new. subst (λ (l : List ℕ). KnowsPages run half c handed l here_now there_now) (sym new.0)
    (subst (λ (o : Option ℕ). KnowsPages run half c handed (replicate pages handed) o there_now) (sym new.1)
    (subst (λ (o : Option ℕ). KnowsPages run half c handed (replicate pages handed) None o) (sym new.2) (begun run half c handed pages all))))
    either

-- the image in the other half is current
pub known_flipped : (run : Run) (half : Half) (image c : CrashState) (handed base number : ℕ) (copied : Cells) (changed : List ℕ) (here there : Option ℕ)
    → run.last ≤ base → base ≤ number → number ≤ handed → HoldsImage run.geometry (other half) image base copied → IsCopiedFrom run base number copied
    → SamePages run.geometry half image c → SamePages run.geometry (other half) image c → KnowsPages run half image handed changed here there
    → KnowsPages run (other half) c handed changed (Some base) here
known_flipped run half image c handed base number copied changed here there opened rise up held copies one two is = record {
  few = is.few;
  since = is.since;
  current = unchanged_apart run (other half) image c two handed changed is.few (Some base)
      (image_pages run (other half) image handed base number copied opened rise up held copies changed is.few is.since);
  idle = subst (λ (h : Half). IfSome here (HasUnchanged run h c handed changed)) (sym (twice half))
      (unchanged_apart run half image c one handed changed is.few here is.current);
}
  where
    twice : (h : Half) → other (other h) ≡ h
    twice A = refl
    twice B = refl

-- Which sector is the first that is damaged.
use Rattle.std.proofs.Common.{◌≡◌, inl, inr, ⊎_elim, ℕ, zero, suc, ◌+◌, ◌<◌, List, [], ◌∷◌, length, map, Option, Some, None, refl, sym, ap, ◌∙◌, subst, arith}
use Rattle.std.proofs.Common.{Bool, true, false, ◌&&◌}
use Rattle.std.specs.Prelude.{slice_get, T}
use Rattle.std.specs.Option.{option_map}
use Rattle.std.specs.declared.cmp.Ordering.{Ordering}
use Rattle.std.specs.declared.cmp.Ordering.TheVariants.{Less, Equal, Greater}
use Rattle.std.specs.Ordering.{is_lt}
use Rattle.std.specs.FinMap.{entries, entries_sorted, get, is_sorted}
use Rattle.std.proofs.lemmas.Bool.{cases_order}
use Rattle.std.proofs.lemmas.Option.{none-some, same_Some, slice_get-map, slice_get_within}
use Rattle.sector_device.specs.Disk.{CrashState, sector}
use Rattle.record_values.specs.declared.version.Version.{Version}
use Rattle.record_values.specs.GeometryValue.{GeometryValue}
use Rattle.record_values.specs.Orders.{pair_cmp}
use Rattle.record_values.specs.declared.pair.Pair.{Pair}
use Rattle.record_values.specs.declared.pair.Mark.{Mark}
use Rattle.model.specs.Table.{Table}
use Rattle.record_values.specs.Entries.{Index}
use Rattle.model.specs.Cells.{Cells, Pending}
use Rattle.store_image_parts.specs.declared.head.Head.{Head}
use Rattle.store_image_parts.specs.declared.header.Header.{Header}
use Rattle.store_image_parts.proofs.OneReading.{one_entry}
use Rattle.store_image_half.specs.Layout.{heads_at}
use Rattle.store_image_half.specs.Image.{IsHeaderIn, AreHeads, IsImageIn, header_of, head_of, item_of}
use Rattle.store_image_half.specs.Damage.{Part, TheHeader, TheHeads, AnItem, APage, AnEntry, sector_of, IsLookedAt, SaysSomethingIn, IsDamagedAtIn}
use Rattle.store_image_half.specs.Damage.{IsFirstDamagedIn}
use Rattle.store_image_half.specs.Steps.{HoldsLists, HoldsPages, HoldsEntries}
use Rattle.store_image_half.proofs.Lists.{option_cases, not_past}
use Rattle.store_image_half.proofs.OneImage.{one_header_at, one_heads}
use Rattle.store_image_half.proofs.Places.{item_inside, items_rise, positions_rise, page_inside, pages_begin, pages_rise, entries_rise}

first_of : (a b : Bool) → T (a && b) → T a
first_of true b p = tt
first_of false b p = p

second_of : (a b : Bool) → T (a && b) → T b
second_of true b p = p
second_of false b p = absurd p

less : (r : Ordering) → T (is_lt r) → r ≡ Less
less Less p = refl
less Equal p = absurd p
less Greater p = absurd p

pub neighbours : {K X : Type 0} (R : K → K → Ordering) (es : List (K × X)) (j : ℕ) (d e : K × X) → T (is_sorted R es) → slice_get es j ≡ Some d
    → slice_get es (suc j) ≡ Some e → R d.0 e.0 ≡ Less
neighbours R [] j d e sorted at_d at_e = absurd (none-some d at_d)
neighbours R (x ∷ []) j d e sorted at_d at_e = absurd (none-some e at_e)
neighbours {K} {X} R (x ∷ y ∷ es) zero d e sorted at_d at_e =
    subst (λ (z : K × X). R z.0 e.0 ≡ Less) (same_Some x d at_d)
    (subst (λ (z : K × X). R x.0 z.0 ≡ Less) (same_Some y e at_e) (less _ (first_of _ _ (first_of _ _ sorted))))
neighbours R (x ∷ y ∷ es) (suc j) d e sorted at_d at_e = neighbours R (y ∷ es) j d e (second_of _ _ sorted) at_d at_e

pub mapped : {A B : Type 0} (f : A → B) (o : Option A) (y : B) → option_map f o ≡ Some y → (x : A) × (o ≡ Some x) × (f x ≡ y)
mapped f None y is = absurd (none-some y is)
mapped f (Some x) y is = (x, refl, same_Some (f x) y is)

pub at_index : {A : Type 0} (xs : List A) (i : ℕ) → i < length xs → (x : A) × (slice_get xs i ≡ Some x)
at_index xs i below = elim (option_cases (slice_get xs i)) [
  | inl none ↦ absurd (not_past xs i below none)
  | inr some ↦ some
]

module _ (v : Version) (g : GeometryValue) (first : ℕ) (image : CrashState) where
  pub first_damaged : (part : Part) → IsLookedAt v g first image part → ¬ SaysSomethingIn v g first image part
      → ((earlier : Part) → IsLookedAt v g first image earlier → sector_of v g first earlier < sector_of v g first part
      → SaysSomethingIn v g first image earlier) → IsFirstDamagedIn v g first image (sector_of v g first part)
  first_damaged part looked unsound sound = record {
    damaged = record { part = part; looked = looked; unsound = unsound; sector-is = refl };
    before = λ earlier lt damage. damage.unsound (sound damage.part damage.looked (omega (arith, damage.sector-is, lt)));
  }

  pub one_first : (m n : ℕ) → IsFirstDamagedIn v g first image m → IsFirstDamagedIn v g first image n → m ≡ n
  one_first m n p q = ⊎_elim (λ same. same) (λ apart. ⊎_elim (λ lt. absurd (q.before m lt p.damaged)) (λ gt. absurd (p.before n gt q.damaged)) apart)
      (cases_order m n)

  -- the items of lists that are those of the heads
  pub items_sound : (heads : List Head) (pending : Pending) → HoldsLists v g first image heads pending → (h position : ℕ) (x : Head)
      → slice_get heads h ≡ Some x → position < x.changes → SaysSomethingIn v g first image (AnItem h position)
  items_sound heads pending held h position x at_x below =
      let found = mapped head_of (slice_get (entries pending) h) x (sym (slice_get-map head_of (entries pending) h)
      ∙ ap (λ (hs : List Head). slice_get hs h) held.heads-are ∙ at_x) in
      let room : position < length found.0.1 = subst (λ (k : Head). position < k.changes) (sym found.2) below in
      let c = at_index found.0.1 position room in
      (item_of c.0, (held.each h found.0 found.1).items position c.0 c.1)

  pub pages_sound : (n : ℕ) (rows : Table) → HoldsPages v g first image n rows → (page : ℕ) → page < n → SaysSomethingIn v g first image (APage page)
  pages_sound n rows held page below = (
    held.edges page below,
    λ slot lt.
        (get rows (record { page = page; slot = slot }), held.slots (record { page = page; slot = slot }) below lt),
  )

  pub entries_sound : (n : ℕ) (m : Index) → HoldsEntries v g first image n m → (i : ℕ) → i < n → SaysSomethingIn v g first image (AnEntry i)
  entries_sound n m held i below =
      let e = at_index (entries m) i (omega (arith, held.count, below)) in (
        e.0,
        held.each i e.0 e.1,
        λ j d next is_d.
            let f = at_index (entries m) j (omega (arith, held.count, below, next)) in
            let is_f = held.each j f.0 f.1 in
            let same : f.0 ≡ d = one_entry v f.0 d is_f.fits is_d.fits (sym is_f.spelled ∙ is_d.spelled) in
            subst (λ (z : Pair × Mark). pair_cmp z.0 e.0.0 ≡ Less) same
            (neighbours pair_cmp (entries m) j f.0 e.0 (entries_sorted m) f.1
            (subst (λ k. slice_get (entries m) k ≡ Some e.0) (let s : i ≡ suc j = omega (arith, next) in s) e.1)),
      )

  -- ---- an image is nowhere damaged

  held_by : (base : ℕ) (cells : Cells) → IsImageIn v g first image base cells → (part : Part) → IsLookedAt v g first image part
      → SaysSomethingIn v g first image part
  held_by base cells is TheHeader looked = (header_of base cells, is.header-is)
  held_by base cells is TheHeads looked = (map head_of (entries cells.pending), is.heads-are)
  held_by base cells is (AnItem h position) (heads, x, are, at_x, below) =
      items_sound heads cells.pending (record { heads-are = one_heads (sector image (heads_at first)) _ heads is.heads-are are; each = is.lists }) h position x
      at_x below
  held_by base cells is (APage page) looked = pages_sound g.pages cells.rows (record { edges = is.edges; slots = is.rows; within = is.within }) page looked
  held_by base cells is (AnEntry i) (h, is_h, below) =
      let same : h ≡ header_of base cells = one_header_at v g (sector image first) h (header_of base cells) is_h is.header-is in
      entries_sound (length (entries cells.entries)) cells.entries (record { count = refl; each = is.entries }) i
      (subst (λ (k : Header). i < k.entries) same below)

  pub not_damaged : (base : ℕ) (cells : Cells) (n : ℕ) → IsImageIn v g first image base cells → ¬ IsDamagedAtIn v g first image n
  not_damaged base cells n is damage = damage.unsound (held_by base cells is damage.part damage.looked)

  -- ---- the first damage, part by part

  item_late : (h position n : ℕ) → n < 2 → ¬ (sector_of v g first (AnItem h position) < first + n)
  item_late h position n low lt = omega (arith, low, lt)

  page_late : (page n : ℕ) → n < 2 → ¬ (sector_of v g first (APage page) < first + n)
  page_late page n low lt = omega (arith, low, lt)

  entry_late : (i n : ℕ) → n < 2 → ¬ (sector_of v g first (AnEntry i) < first + n)
  entry_late i n low lt = omega (arith, low, lt)

  pub header_first : ¬ SaysSomethingIn v g first image TheHeader → IsFirstDamagedIn v g first image first
  header_first unsound = first_damaged TheHeader tt unsound sound
    where
      sound : (earlier : Part) → IsLookedAt v g first image earlier → sector_of v g first earlier < first → SaysSomethingIn v g first image earlier
      sound TheHeader looked lt = absurd (omega (arith, lt))
      sound TheHeads looked lt = absurd (omega (arith, lt))
      sound (AnItem h position) looked lt = absurd (item_late h position 0 (omega arith) (omega (arith, lt)))
      sound (APage page) looked lt = absurd (page_late page 0 (omega arith) (omega (arith, lt)))
      sound (AnEntry i) looked lt = absurd (entry_late i 0 (omega arith) (omega (arith, lt)))

  module _ (header : Header) (is_header : IsHeaderIn v g (sector image first) header) where
    pub heads_first : ¬ SaysSomethingIn v g first image TheHeads → IsFirstDamagedIn v g first image (heads_at first)
    heads_first unsound = first_damaged TheHeads tt unsound sound
      where
        sound : (earlier : Part) → IsLookedAt v g first image earlier → sector_of v g first earlier < heads_at first → SaysSomethingIn v g first image earlier
        sound TheHeader looked lt = (header, is_header)
        sound TheHeads looked lt = absurd (omega (arith, lt))
        sound (AnItem h position) looked lt = absurd (item_late h position 1 (omega arith) lt)
        sound (APage page) looked lt = absurd (page_late page 1 (omega arith) lt)
        sound (AnEntry i) looked lt = absurd (entry_late i 1 (omega arith) lt)

    module _ (heads : List Head) (are_heads : AreHeads (sector image (heads_at first)) heads) where
      pub items_first : (h position : ℕ) (x : Head) → slice_get heads h ≡ Some x → position < x.changes → ¬ SaysSomethingIn v g first image (AnItem h position)
          → ((q : ℕ) → q < position → SaysSomethingIn v g first image (AnItem h q))
          → ((k q : ℕ) (y : Head) → k < h → slice_get heads k ≡ Some y → q < y.changes → SaysSomethingIn v g first image (AnItem k q))
          → IsFirstDamagedIn v g first image (sector_of v g first (AnItem h position))
      items_first h position x at_x below unsound before others = first_damaged (AnItem h position) (heads, x, are_heads, at_x, below) unsound sound
        where
          h_below : h < 16
          h_below = omega (arith, slice_get_within heads h x at_x, are_heads.count)

          p_below : position < 64
          p_below = omega (arith, (are_heads.fits h x at_x).changes, below)

          sound : (earlier : Part) → IsLookedAt v g first image earlier → sector_of v g first earlier < sector_of v g first (AnItem h position)
              → SaysSomethingIn v g first image earlier
          sound TheHeader looked lt = (header, is_header)
          sound TheHeads looked lt = (heads, are_heads)
          sound (AnItem k q) (hs, y, are, at_y, less) lt =
              let at_k : slice_get heads k ≡ Some y = ap (λ (l : List Head). slice_get l k) (one_heads (sector image (heads_at first)) heads hs are_heads are)
              ∙ at_y in
              ⊎_elim
              (λ same. subst (λ j. SaysSomethingIn v g first image (AnItem j q)) (sym same)
              (before q (positions_rise g first v h position q (subst (λ j.
              sector_of v g first (AnItem j q) < sector_of v g first (AnItem h position)) same lt))))
              (λ apart. ⊎_elim (λ lower. others k q y lower at_k less) (λ higher.
              absurd (omega (arith, higher, items_rise g first v h position k q (omega (arith, (are_heads.fits k y at_k).changes, less)) lt p_below)))
              apart)
              (cases_order k h)
          sound (APage page) looked lt = absurd (omega (arith, lt, item_inside g first v h position h_below p_below, pages_begin g first v page))
          sound (AnEntry i) looked lt = absurd (omega (arith, lt, item_inside g first v h position h_below p_below, pages_begin g first v g.pages))

      module _ (pending : Pending) (lists : HoldsLists v g first image heads pending) where
        earlier_item : (k q : ℕ) → IsLookedAt v g first image (AnItem k q) → SaysSomethingIn v g first image (AnItem k q)
        earlier_item k q (hs, y, are, at_y, less) =
            items_sound heads pending lists k q y (ap (λ (l : List Head). slice_get l k) (one_heads (sector image (heads_at first)) heads hs are_heads are)
            ∙ at_y) less

        pub pages_first : (page : ℕ) → page < g.pages → ¬ SaysSomethingIn v g first image (APage page)
            → ((earlier : ℕ) → earlier < page → SaysSomethingIn v g first image (APage earlier))
            → IsFirstDamagedIn v g first image (sector_of v g first (APage page))
        pages_first page below unsound before = first_damaged (APage page) below unsound sound
          where
            sound : (earlier : Part) → IsLookedAt v g first image earlier → sector_of v g first earlier < sector_of v g first (APage page)
                → SaysSomethingIn v g first image earlier
            sound TheHeader looked lt = (header, is_header)
            sound TheHeads looked lt = (heads, are_heads)
            sound (AnItem k q) looked lt = earlier_item k q looked
            sound (APage other) looked lt = before other (pages_rise g first v other page lt)
            sound (AnEntry i) looked lt = absurd (omega (arith, lt, page_inside g first v page below))

        pub entries_first : (rows : Table) → HoldsPages v g first image g.pages rows → (i : ℕ) → i < header.entries
            → ¬ SaysSomethingIn v g first image (AnEntry i) → ((j : ℕ) → j < i → SaysSomethingIn v g first image (AnEntry j))
            → IsFirstDamagedIn v g first image (sector_of v g first (AnEntry i))
        entries_first rows held i below unsound before = first_damaged (AnEntry i) (header, is_header, below) unsound sound
          where
            sound : (earlier : Part) → IsLookedAt v g first image earlier → sector_of v g first earlier < sector_of v g first (AnEntry i)
                → SaysSomethingIn v g first image earlier
            sound TheHeader looked lt = (header, is_header)
            sound TheHeads looked lt = (heads, are_heads)
            sound (AnItem k q) looked lt = earlier_item k q looked
            sound (APage page) looked lt = pages_sound g.pages rows held page looked
            sound (AnEntry j) looked lt = before j (entries_rise g first v i j lt)

-- Why a step of reading was refused, told of the whole that it is a step of.
use Rattle.std.proofs.Common.{◌≡◌, ◌⊎◌, inl, inr, ℕ, ◌<◌, ◌≤◌, List, take, Some, sym, ap, ◌∙◌, subst, arith}
use Rattle.std.specs.Prelude.{slice_get}
use Rattle.sector_device.specs.Disk.{CrashState, sector}
use Rattle.sector_device.specs.DevicePast.{Rises}
use Rattle.record_values.specs.declared.version.Version.{Version}
use Rattle.record_values.specs.GeometryValue.{GeometryValue}
use Rattle.record_values.specs.declared.error.Error.{Error}
use Rattle.model.specs.Table.{Table}
use Rattle.record_values.specs.Entries.{Index}
use Rattle.model.specs.Cells.{Cells, Pending}
use Rattle.store_image_parts.specs.declared.head.Head.{Head}
use Rattle.store_image_parts.specs.declared.header.Header.{Header}
use Rattle.store_image_half.specs.Layout.{heads_at}
use Rattle.store_image_half.specs.Image.{IsHeaderIn, AreHeads, IsImageIn, header_of}
use Rattle.store_image_half.specs.Damage.{AnItem, APage, AnEntry, TheHeader, TheHeads, SaysSomethingIn, IsHindered, IsUnreadIn, sector_of}
use Rattle.record_values.specs.declared.error.Error.TheVariants.{Damaged}
use Rattle.store_image_half.specs.Steps.{HoldsLists, HoldsPages, HoldsEntries, IsItemRefused, AreListsRefused, IsPageRefused, ArePagesRefused}
use Rattle.store_image_half.specs.Steps.{AreEntriesRefused}
use Rattle.store_image_half.proofs.Sound.{items_sound, pages_sound, header_first, heads_first, items_first, pages_first, entries_first}
use Rattle.store_image_half.proofs.Growing.{slice_get-take}

-- ---- how often the device failed

pub later_than : (a b c : ℕ) → b ≡ a → b ≤ c → a ≤ c
later_than a b c same later = omega (arith, same, later)

pub not_fewer : (a b : ℕ) → b ≡ a → a ≤ b
not_fewer a b same = omega (arith, same)

-- a refusal after calls that did not fail
pub refuses_later : (a b c : ℕ) (e : Error) → b ≡ a → IsHindered b c e → IsHindered a c e
refuses_later a b c e same (inl memory) = inl memory
refuses_later a b c e same (inr failed) = inr (failed.0, subst (λ (n : ℕ). Rises n c) same failed.1)

module _ (v : Version) (g : GeometryValue) (first : ℕ) (image now : CrashState) (a b c : ℕ) (e : Error) (same : now ≡ image) (quiet : b ≡ a) where
  pub list_refused : (heads : List Head) (pending : Pending) (h : ℕ) (head : Head) → slice_get heads h ≡ Some head
      → HoldsLists v g first image (take h heads) pending → IsItemRefused v g first now h head.changes b c e → AreListsRefused v g first image heads a c e
  list_refused heads pending h head at_h held (inl refused) = inl (refuses_later a b c e quiet refused)
  list_refused heads pending h head at_h held (inr (p, below, is, unsound, before)) = inr (
    h,
    p,
    head,
    at_h,
    below,
    is,
    (λ sound. unsound (subst (λ (x : CrashState). SaysSomethingIn v g first x (AnItem h p)) (sym same) sound)),
    (λ q less. subst (λ (x : CrashState). SaysSomethingIn v g first x (AnItem h q)) same (before q less)),
    (λ k q y less at_y lower. items_sound v g first image (take h heads) pending held k q y (slice_get-take h k heads less ∙ at_y) lower),
  )

  pub page_refused : (page : ℕ) (rows : Table) → page < g.pages → HoldsPages v g first image page rows → IsPageRefused v g first now page b c e
      → ArePagesRefused v g first image a c e
  page_refused page rows below held (inl refused) = inl (refuses_later a b c e quiet refused)
  page_refused page rows below held (inr (is, unsound)) = inr (
    page,
    below,
    is,
    (λ sound. unsound (subst (λ (x : CrashState). SaysSomethingIn v g first x (APage page)) (sym same) sound)),
    (λ earlier less. pages_sound v g first image page rows held earlier less),
  )

  -- ---- the whole image

  pub header_unread : IsHindered b c e ⊎ ((e ≡ Damaged first) × (¬ SaysSomethingIn v g first now TheHeader)) → IsUnreadIn v g first image a c e
  header_unread (inl refused) = inl (refuses_later a b c e quiet refused)
  header_unread (inr (is, unsound)) = inr (
    first,
    is,
    header_first v g first image (λ sound. unsound (subst (λ (x : CrashState). SaysSomethingIn v g first x TheHeader) (sym same) sound)),
  )

  module _ (header : Header) (is_header : IsHeaderIn v g (sector image first) header) where
    pub heads_unread : IsHindered b c e ⊎ ((e ≡ Damaged (heads_at first)) × (¬ SaysSomethingIn v g first now TheHeads)) → IsUnreadIn v g first image a c e
    heads_unread (inl refused) = inl (refuses_later a b c e quiet refused)
    heads_unread (inr (is, unsound)) = inr (
      heads_at first,
      is,
      heads_first v g first image header is_header (λ sound. unsound (subst (λ (x : CrashState). SaysSomethingIn v g first x TheHeads) (sym same) sound)),
    )

    module _ (heads : List Head) (are_heads : AreHeads (sector image (heads_at first)) heads) where
      pub lists_unread : AreListsRefused v g first now heads b c e → IsUnreadIn v g first image a c e
      lists_unread (inl refused) = inl (refuses_later a b c e quiet refused)
      lists_unread (inr (h, p, x, at_x, below, is, unsound, before, others)) = inr (
        sector_of v g first (AnItem h p),
        is,
        items_first v g first image header is_header heads are_heads h p x at_x below
            (λ sound. unsound (subst (λ (y : CrashState). SaysSomethingIn v g first y (AnItem h p)) (sym same) sound))
            (λ q less. subst (λ (y : CrashState). SaysSomethingIn v g first y (AnItem h q)) same (before q less))
            (λ k q y less at_y lower. subst (λ (z : CrashState). SaysSomethingIn v g first z (AnItem k q)) same (others k q y less at_y lower)),
      )

      module _ (pending : Pending) (lists : HoldsLists v g first image heads pending) where
        pub pages_unread : ArePagesRefused v g first now b c e → IsUnreadIn v g first image a c e
        pages_unread (inl refused) = inl (refuses_later a b c e quiet refused)
        pages_unread (inr (page, below, is, unsound, before)) = inr (
          sector_of v g first (APage page),
          is,
          pages_first v g first image header is_header heads are_heads pending lists page below
              (λ sound. unsound (subst (λ (y : CrashState). SaysSomethingIn v g first y (APage page)) (sym same) sound))
              (λ earlier less. subst (λ (y : CrashState). SaysSomethingIn v g first y (APage earlier)) same (before earlier less)),
        )

        pub entries_unread : (rows : Table) → HoldsPages v g first image g.pages rows → AreEntriesRefused v g first now header.entries b c e
            → IsUnreadIn v g first image a c e
        entries_unread rows held (inl refused) = inl (refuses_later a b c e quiet refused)
        entries_unread rows held (inr (i, below, is, unsound, before)) = inr (
          sector_of v g first (AnEntry i),
          is,
          entries_first v g first image header is_header heads are_heads pending lists rows held i below
              (λ sound. unsound (subst (λ (y : CrashState). SaysSomethingIn v g first y (AnEntry i)) (sym same) sound))
              (λ j less. subst (λ (y : CrashState). SaysSomethingIn v g first y (AnEntry j)) same (before j less)),
        )

-- ---- what the sink has

pub only_lists : (start old new : Cells) (p : Pending) → new ≡ record old { pending = p } → old ≡ record start { pending = old.pending }
    → new ≡ record start { pending = new.pending }
only_lists start old new p set rest = λ i. record {
  rows = (ap (λ (x : Cells). x.rows) set ∙ ap (λ (x : Cells). x.rows) rest) i;
  entries = (ap (λ (x : Cells). x.entries) set ∙ ap (λ (x : Cells). x.entries) rest) i;
  pending = new.pending;
  life = (ap (λ (x : Cells). x.life) set ∙ ap (λ (x : Cells). x.life) rest) i;
}

-- ---- the image that was read

pub whole_image : (v : Version) (g : GeometryValue) (first : ℕ) (image : CrashState) (header : Header) (heads : List Head) (cells : Cells)
    → IsHeaderIn v g (sector image first) header → AreHeads (sector image (heads_at first)) heads
    → HoldsLists v g first image heads cells.pending → HoldsPages v g first image g.pages cells.rows → HoldsEntries v g first image header.entries cells.entries
    → cells.life ≡ header.life → IsImageIn v g first image header.base cells
whole_image v g first image header heads cells is_header are_heads lists pages entries life = record {
  header-is = subst (IsHeaderIn v g (sector image first))
      (let same : header ≡ header_of header.base cells = (λ i. record { life = sym life i; base = header.base; entries = sym entries.count i }) in
      same) is_header;
  heads-are = subst (AreHeads (sector image (heads_at first))) (sym lists.heads-are) are_heads;
  lists = lists.each;
  edges = pages.edges;
  rows = pages.slots;
  within = pages.within;
  entries = entries.each;
}

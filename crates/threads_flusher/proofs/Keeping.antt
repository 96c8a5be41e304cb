-- What each call leaves of the flusher's part.
use Rattle.std.proofs.Common.{◌≡◌, ◌≢◌, ◌↔◌, ◌==◌, not, IsTrue, true, ℕ, ◌<◌, ◌+◌, ◌-◌, ◌≤◌, Bool, false, true≢false, List, [], ◌∷◌, ◌++◌, length, map, take}
use Rattle.std.proofs.Common.{◌⊎◌, eqb, Option, None, Some, Result, Ok, Err, refl, sym, ap, subst, ◌∙◌, arith}
use Rattle.std.proofs.Common.{append-nil, append_assoc, length-append, IfOk, IfErr, OnOk, OnErr, inl, inr}
use Rattle.std.proofs.Math.Seq.{take-append_seam, take-length, take-nil}
use Rattle.std.proofs.lemmas.Bool.Decides.{eqb_tells, nat_tests}
use Rattle.std.proofs.lemmas.List.{length-take-le, map-append}
use Rattle.std.specs.FinMap.{len}
use Rattle.std.specs.Option.{SomeIff, option_eq}
use Rattle.records.specs.RecordValue.{RecordValue}
use Rattle.record_values.specs.GeometryValue.{GeometryValue}
use Rattle.record_values.specs.declared.error.Error.{Error}
use Rattle.record_values.specs.declared.number.TheConstants.{LAST_NUMBER}
use Rattle.model.specs.Cells.{cells_after}
use Rattle.model.specs.Following.{AreFollowing}
use Rattle.model.specs.Given.{Given, given_after, opening_cells, recovered}
use Rattle.model.proofs.GivenLaws.{given_again}
use Rattle.core_model.specs.Histories.{CanOpen, Opened}
use Rattle.std.proofs.lemmas.List.Elements.{All-nil, All-push}
use Rattle.std.specs.List.{All}
use Rattle.sector_device.specs.Disk.{CrashState, IsCrashState}
use Rattle.sector_device.specs.DevicePast.{DevicePast, LeavesOnly}
use Rattle.sector_device.proofs.Moments.{started, weaker}
use Rattle.board.specs.Views.{FlusherCount}
use Rattle.store_image_model.specs.declared.chunk.Piece.{Piece}
use Rattle.store_image_model.specs.Run.{IsRun, Run, cells_at, end_of}
use Rattle.store_writer.specs.declared.writer.Writer.{Writer}
use Rattle.store_writer.specs.declared.writer.FlushReply.{FlushReply}
use Rattle.store_writer.specs.declared.writer.FlushReply.TheVariants.{Flushed, Nothing, LogFull}
use Rattle.store_writer.specs.declared.writer.FlipReply.{FlipReply}
use Rattle.store_writer.specs.declared.writer.FlipReply.TheVariants.{Flipped, Behind}
use Rattle.store_writer.specs.Parts.{device_of, halves_of, synced_of, has_failed}
use Rattle.store_reader.specs.Contents.{Gives}
use Rattle.store_writer.specs.Contents.{LeftBy, StoreHas}
use Rattle.store_writer.specs.Writer.{AreNext, HasFailed, IsChunk, IsFlipReply, IsFlushReply, IsNotFlushed, IsWriter, longer, opened_run}
use Rattle.locked_core.specs.Following.{FitPlaces, FollowOpening}
use Rattle.threads_flusher.specs.Part.{FlushValue, GivesBeginning, IsFlusher, IsMarkOf, IsNewest, IsNotedOf, FlushLeaves, MayOpenAgain, Publication, count_of}
use Rattle.threads_flusher.specs.Part.{flush_value, last_handed, popped_by, publication_of, run_of}
use Rattle.threads_flusher.proofs.Notes.{all_noted}
use Rattle.threads_flusher.proofs.Publications.{KeptBelow, all_kept_on, all_kept_with, kept_now, same_store}

-- ---- lists

-- the records before those that are held
pub front_is : (handed held : List RecordValue) → take (length (handed ++ held) - length held) (handed ++ held) ≡ handed
front_is handed held = ap (λ k. take k (handed ++ held)) (omega (arith, length-append handed held)) ∙ take-append_seam handed held

-- all of them, where none is held
pub all_handed : (popped : List RecordValue) → take (length popped - 0) popped ≡ popped
all_handed popped = ap (λ k. take k popped) (omega arith) ∙ take-length popped

-- the same, of lists that are these
pub all_in : (popped p h : List RecordValue) → p ≡ popped → h ≡ [] → take (length p - length h) p ≡ popped
all_in popped p h all none = ap (λ (l : List RecordValue). take (length l - length h) l) all
    ∙ ap (λ (l : List RecordValue). take (length popped - length l) popped) none ∙ all_handed popped

-- or as many as before
pub same_front : (popped held p h : List RecordValue) → p ≡ popped → h ≡ held → take (length p - length h) p ≡ take (length popped - length held) popped
same_front popped held p h all back = λ i. take (length (all i) - length (back i)) (all i)

-- one more was popped
pub popped_more : (handed held more popped now : List RecordValue) (item : RecordValue) → popped ≡ handed ++ (held ++ more) → now ≡ popped ++ item ∷ []
    → now ≡ handed ++ (held ++ (more ++ item ∷ []))
popped_more handed held more popped now item is pushed = pushed ∙ ap (λ (l : List RecordValue). l ++ item ∷ []) is
    ∙ append_assoc handed (held ++ more) (item ∷ []) ∙ ap (λ (l : List RecordValue). handed ++ l) (append_assoc held more (item ∷ []))

-- and is held
pub held_more : (held more before now : List RecordValue) (item : RecordValue) → before ≡ held ++ more → now ≡ before ++ item ∷ []
    → now ≡ held ++ (more ++ item ∷ [])
held_more held more before now item is pushed =
    pushed ∙ ap (λ (l : List RecordValue). l ++ item ∷ []) is ∙ append_assoc held more (item ∷ [])

-- a test for none tells whether some are held
none_of : (held : List RecordValue) → length held ≡ 0 → held ≡ []
none_of [] size = refl
none_of (r ∷ held) size = absurd (omega (arith, size))

zero_then : (n : ℕ) (none : Bool) → none ≡ (n == 0) → none ≡ true → n ≡ 0
zero_then n none is set = grind (arith, nat_tests)

above_then : (n : ℕ) (none : Bool) → none ≡ (n == 0) → none ≡ false → 0 < n
above_then n none is set = grind (arith, nat_tests)

pub some_held : (held : List RecordValue) (n : ℕ) (none : Bool) → n ≡ length held → none ≡ (n == 0) → IsTrue (not none) ↔ (held ≢ [])
some_held held n true size is = (
  λ same. absurd (true≢false (sym same)),
  λ some. absurd (some (none_of held (sym size ∙ zero_then n true is refl))),
)
some_held held n false size is = (λ _ empty. absurd (omega (arith, size, ap length empty, above_then n false is refl)), λ _. refl)

-- what tells whether the last record that was popped has a number
has_some : (from own last n left : ℕ) (handed held : List RecordValue) (same : Bool) → own ≡ from + length handed → n ≡ length held
    → (own ≤ last) × (left ≡ last - own) → same ≡ eqb left n → ((eqb left n ≡ true) × (left ≡ n)) ⊎ ((eqb left n ≡ false) × (left ≢ n))
    → IsTrue same ↔ (from + length (handed ++ held) ≡ last)
has_some from own last n left handed held same at size below is (inl equal) = (
  λ _. omega (arith, at, size, below.0, below.1, equal.1, length-append handed held),
  λ _. is ∙ equal.0,
)
has_some from own last n left handed held same at size below is (inr other) = (
  λ set. absurd (true≢false (sym set ∙ is ∙ other.0)),
  λ all. absurd (other.1 (omega (arith, at, size, below.0, below.1, all, length-append handed held))),
)

pub has_all : (from own last n : ℕ) (handed held : List RecordValue) (left : Option ℕ) (same : Bool) → own ≡ from + length handed → n ≡ length held
    → SomeIff left (own ≤ last) (last - own) → same ≡ option_eq eqb left (Some n) → IsTrue same ↔ (from + length (handed ++ held) ≡ last)
has_all from own last n handed held None same at size below is = (
  λ set. absurd (true≢false (sym set ∙ is)),
  λ all. absurd (below (omega (arith, at, size, all, length-append handed held))),
)
has_all from own last n handed held (Some left) same at size below is = has_some from own last n left handed held same at size below is (eqb_tells left n)

-- what is noted of a writer is noted as a publication
pub noted_as : {D A : Type 0} (past_of : D → DevicePast) (before now : List (Writer D A)) (w : Writer D A) → now ≡ before ++ w ∷ []
    → map (publication_of past_of) now ≡ map (publication_of past_of) before ++ publication_of past_of w ∷ []
noted_as past_of before now w is = ap (map (publication_of past_of)) is ∙ map-append (publication_of past_of) before (w ∷ [])

-- and what is noted first is the only one
pub first_noted : {D A : Type 0} (past_of : D → DevicePast) (before now : List (Writer D A)) (w : Writer D A) → before ≡ [] → now ≡ before ++ w ∷ []
    → map (publication_of past_of) now ≡ publication_of past_of w ∷ []
first_noted past_of before now w none is = ap (map (publication_of past_of)) (is ∙ ap (λ (l : List (Writer _ _)). l ++ w ∷ []) none)

-- ---- what is kept

module _ {D : Type 0} (past_of : D → DevicePast) (marks : ℕ → ℕ → Type 0) (o : Opened) where
  -- a run over what was opened
  abbrev over : GeometryValue → List RecordValue → Run
  over g records = record { geometry = g; last = o.given.last; cells = opening_cells o.given; records = records }

  with_run : {A : Type 0} (g now : GeometryValue) (records more : List RecordValue) (m n : ℕ) (w : Writer D A) → g ≡ now → records ≡ more → m ≡ n
      → IsWriter past_of (over g records) m w → IsWriter past_of (over now more) n w
  with_run g now records more m n w geometry list number is =
      subst (λ k. IsWriter past_of (over now more) k w) number
      (subst (λ l. IsWriter past_of (over now l) m w) list (subst (λ x. IsWriter past_of (over x records) m w) geometry is))

  -- before the first record
  fits_none : len o.given.entries ≤ o.places → FitPlaces o []
  fits_none room n le =
      subst (λ (l : List RecordValue). len (given_after o.given l).entries ≤ o.places) (sym (take-nil n))
      (subst (λ (x : Given). len x.entries ≤ o.places) (sym (given_again o.given)) room)

  opens_none : MayOpenAgain o []
  opens_none can n le =
      subst (λ (l : List RecordValue). CanOpen (record o { given = given_after o.given l })) (sym (take-nil n))
      (subst (λ (x : Given). CanOpen (record o { given = x })) (sym (given_again o.given)) can)

  -- what a crash leaves
  pub left_gives : (g : GeometryValue) (handed : List RecordValue) (floor : ℕ) → g.entries ≡ o.places → FitPlaces o handed → MayOpenAgain o handed
      → o.given.last ≤ floor → (image : CrashState) → LeftBy (over g handed) floor (o.given.last + length handed) image → GivesBeginning o g handed floor image
  left_gives g handed floor places fits opens low image left =
      let count : ℕ = left.number - o.given.last in
      let most : count ≤ length handed = omega (arith, left.most) in
      let size : length (take count handed) ≡ count = length-take-le count handed most in
      let number : left.number ≡ o.given.last + length (take count handed) = omega (arith, size, low, left.least) in
      let same : recovered (cells_at (over g handed) left.number) left.number ≡ given_after o.given (take count handed) =
      ap (recovered (cells_at (over g handed) left.number)) number in
      let room : len (given_after o.given (take count handed)).entries ≤ g.entries =
      subst (λ n. len (given_after o.given (take count handed)).entries ≤ n) (sym places) (fits count most) in
      record {
        count = count;
        most = most;
        least = omega (arith, low, left.least);
        has = subst (λ n. StoreHas g image n (cells_after (opening_cells o.given) (take count handed))) (omega (arith, low, left.least)) left.has;
        gives = subst (Gives image g) same (left.gives (subst (λ (x : Given). len x.entries ≤ g.entries) (sym same) room));
        opens = λ can. opens can count most;
      }

  -- what a crash leaves now, with all that the writer has synced
  leaves_now : {A : Type 0} (w : Writer D A) (handed : List RecordValue) → (halves_of w).geometry.entries ≡ o.places → FitPlaces o handed
      → MayOpenAgain o handed → IsWriter past_of (over (halves_of w).geometry handed) (o.given.last + length handed) w
      → (image : CrashState) → IsCrashState (past_of (device_of w)).disk image
      → GivesBeginning o (halves_of w).geometry handed (synced_of w) image
  leaves_now w handed places fits opens is image crash =
      left_gives (halves_of w).geometry handed (synced_of w) places fits opens is.opened image (is.images image crash)

  abbrev now_kept : {A : Type 0} → List RecordValue → Writer D A → Publication → Type 0
  now_kept handed w = KeptBelow o (halves_of w).geometry handed (synced_of w) (past_of (device_of w))

  -- at first, with what is published of it at once
  pub begun : {A : Type 0} (w : Writer D A) (before : FlusherCount) (mark : ℕ)
      → IsWriter past_of (opened_run (halves_of w) o.given.last (opening_cells o.given)) o.given.last w
      → (halves_of w).geometry.pages ≡ o.pages → (halves_of w).geometry.entries ≡ o.places
      → len o.given.entries ≤ o.places → before.notes ≡ [] → IsMarkOf marks mark (past_of (device_of w)).moment
      → IsFlusher past_of marks o (flush_value [] [] w (count_of before w mark) (publication_of past_of w ∷ []))
  begun w before mark is pages places room none marked =
      let writer : IsWriter past_of (over (halves_of w).geometry []) (o.given.last + 0) w =
      subst (λ n. IsWriter past_of (over (halves_of w).geometry []) n w) (omega arith) is in
      record {
        pages = pages;
        places = places;
        fits = fits_none room;
        opens = opens_none;
        writer = writer;
        horizon = omega arith;
        failed = refl;
        kept = All-push (now_kept [] w) [] (publication_of past_of w) (All-nil (now_kept [] w))
            (kept_now o past_of [] w (leaves_now w [] places (fits_none room) opens_none writer));
        newest = ([], publication_of past_of w, refl, refl);
        noted = all_noted marks past_of [] before.notes w mark
            (subst (All (IsNotedOf marks [])) (sym none) (All-nil (IsNotedOf marks []))) marked;
      }

  pub is_left : {A : Type 0} (f : FlushValue D A) → IsFlusher past_of marks o f → (image : CrashState)
      → LeftBy (run_of o f) (synced_of f.writer) (last_handed o f) image
      → FlushLeaves o f image
  is_left f is = left_gives (halves_of f.writer).geometry f.handed (synced_of f.writer) is.places is.fits is.opens is.writer.opened

  -- no call of the device was made
  still_here : {A : Type 0} (old new : Writer D A) (handed : List RecordValue) → device_of new ≡ device_of old → synced_of new ≡ synced_of old
      → ((image : CrashState) → IsCrashState (past_of (device_of new)).disk image → GivesBeginning o (halves_of new).geometry handed (synced_of new) image)
      → LeavesOnly (past_of (device_of old)) (past_of (device_of new)) (GivesBeginning o (halves_of new).geometry handed (synced_of old))
  still_here old new handed device synced here =
      subst (λ (n : ℕ). LeavesOnly (past_of (device_of old)) (past_of (device_of new)) (GivesBeginning o (halves_of new).geometry handed n)) synced
      (subst (λ (d : D). LeavesOnly (past_of d) (past_of (device_of new)) (GivesBeginning o (halves_of new).geometry handed (synced_of new))) device
      (started (past_of (device_of new)) (GivesBeginning o (halves_of new).geometry handed (synced_of new)) here))

  -- the writer has gone on, and stands for the same records
  stands_on : {A : Type 0} (f : FlushValue D A) (w : Writer D A) (v : FlusherCount) (publications : List Publication) → IsFlusher past_of marks o f
      → IsWriter past_of (run_of o f) (last_handed o f) w → v.horizon ≤ synced_of w → v.failed ≡ has_failed w
      → All (now_kept f.handed w) publications → IsNewest publications v.horizon → All (IsNotedOf marks publications) v.notes
      → IsFlusher past_of marks o (record f { writer = w; published = v; publications = publications })
  stands_on f w v publications is stands low flag kept newest noted = record {
    pages = ap (λ (g : GeometryValue). g.pages) stands.geometry-is ∙ is.pages;
    places = ap (λ (g : GeometryValue). g.entries) stands.geometry-is ∙ is.places;
    fits = is.fits;
    opens = is.opens;
    writer = with_run (halves_of f.writer).geometry (halves_of w).geometry f.handed f.handed (last_handed o f) (last_handed o f) w
        (sym stands.geometry-is) refl refl stands;
    horizon = low;
    failed = flag;
    kept = kept;
    newest = newest;
    noted = noted;
  }

  -- by a call at each of whose moments a crash leaves what one before could
  pub stands_by_call : {A : Type 0} (f : FlushValue D A) (w : Writer D A) (mark : ℕ) → IsFlusher past_of marks o f
      → IsWriter past_of (run_of o f) (last_handed o f) w → synced_of f.writer ≤ synced_of w → IsMarkOf marks mark (past_of (device_of w)).moment
      → LeavesOnly (past_of (device_of f.writer)) (past_of (device_of w)) (FlushLeaves o f)
      → IsFlusher past_of marks o
      (record f { writer = w; published = count_of f.published w mark; publications = f.publications ++ publication_of past_of w ∷ [] })
  stands_by_call f w mark is stands rises marked images =
      let geometry : (halves_of w).geometry ≡ (halves_of f.writer).geometry = stands.geometry-is in
      let writer : IsWriter past_of (over (halves_of w).geometry f.handed) (last_handed o f) w =
      with_run (halves_of f.writer).geometry (halves_of w).geometry f.handed f.handed (last_handed o f) (last_handed o f) w (sym geometry) refl refl stands in
      let places : (halves_of w).geometry.entries ≡ o.places = ap (λ (g : GeometryValue). g.entries) geometry ∙ is.places in
      let run : LeavesOnly (past_of (device_of f.writer)) (past_of (device_of w)) (GivesBeginning o (halves_of w).geometry f.handed (synced_of f.writer)) =
      weaker (past_of (device_of f.writer)) (past_of (device_of w)) (FlushLeaves o f) (GivesBeginning o (halves_of w).geometry f.handed (synced_of f.writer))
      (λ image left. same_store o (halves_of f.writer).geometry (halves_of w).geometry f.handed (synced_of f.writer) image geometry left) images in
      stands_on f w (count_of f.published w mark) (f.publications ++ publication_of past_of w ∷ []) is stands (omega arith) refl
      (all_kept_with o (halves_of f.writer).geometry (halves_of w).geometry f.handed [] f.handed (synced_of f.writer) (synced_of w)
      (past_of (device_of f.writer)) (past_of (device_of w)) (sym (append-nil f.handed)) geometry rises run f.publications (publication_of past_of w) is.kept
      (kept_now o past_of f.handed w (leaves_now w f.handed places is.fits is.opens writer)))
      (f.publications, publication_of past_of w, refl, refl) (all_noted marks past_of f.publications f.published.notes w mark is.noted marked)

  -- by a call that doesn't touch the device, and publishes nothing
  pub stands_without : {A : Type 0} (f : FlushValue D A) (w : Writer D A) (v : FlusherCount) → IsFlusher past_of marks o f
      → IsWriter past_of (run_of o f) (last_handed o f) w → device_of w ≡ device_of f.writer → synced_of w ≡ synced_of f.writer
      → v.horizon ≡ f.published.horizon → v.failed ≡ has_failed w → v.notes ≡ f.published.notes
      → IsFlusher past_of marks o (record f { writer = w; published = v })
  stands_without f w v is stands device synced told flag notes =
      let geometry : (halves_of w).geometry ≡ (halves_of f.writer).geometry = stands.geometry-is in
      let writer : IsWriter past_of (over (halves_of w).geometry f.handed) (last_handed o f) w =
      with_run (halves_of f.writer).geometry (halves_of w).geometry f.handed f.handed (last_handed o f) (last_handed o f) w (sym geometry) refl refl stands in
      let places : (halves_of w).geometry.entries ≡ o.places = ap (λ (g : GeometryValue). g.entries) geometry ∙ is.places in
      stands_on f w v f.publications is stands (omega (arith, is.horizon, synced, told)) flag
      (all_kept_on o (halves_of f.writer).geometry (halves_of w).geometry f.handed [] f.handed (synced_of f.writer) (synced_of w)
      (past_of (device_of f.writer)) (past_of (device_of w)) (sym (append-nil f.handed)) geometry (omega (arith, synced))
      (still_here f.writer w f.handed device synced (leaves_now w f.handed places is.fits is.opens writer)) f.publications is.kept)
      (is.newest.0, is.newest.1, is.newest.2, is.newest.3 ∙ sym told) (subst (All (IsNotedOf marks f.publications)) (sym notes) is.noted)

  module _ {A : Type 0} (popped held : List RecordValue) (w : Writer D A) (v : FlusherCount) (ps : List Publication)
      (all : popped ≡ popped_by (flush_value popped held w v ps)) (is : IsFlusher past_of marks o (flush_value popped held w v ps)) where
    abbrev handed : List RecordValue
    handed = take (length popped - length held) popped

    -- what is held comes next, where all can follow
    module _ (follow : FollowOpening o popped) (fits : FitPlaces o popped) (longer_stands : (run : Run) (n : ℕ) (more : List RecordValue)
        → IsWriter past_of run n w → IsRun (longer run more) → IsWriter past_of (longer run more) n w)
        (next : (run : Run) (more : List RecordValue) → end_of run + length more ≤ LAST_NUMBER → AreNext (longer run more) (end_of run) more) where
      abbrev run : Run
      run = run_of o (flush_value popped held w v ps)

      in_order : AreFollowing run.geometry.pages o.given.last (opening_cells o.given) (handed ++ held)
      in_order = subst (λ p. AreFollowing p o.given.last (opening_cells o.given) (handed ++ held)) (sym is.pages)
          (subst (AreFollowing o.pages o.given.last (opening_cells o.given)) all follow.in_order)

      small : end_of run + length held ≤ LAST_NUMBER
      small = omega (arith, follow.small, ap length all, length-append handed held)

      stands : IsWriter past_of (longer run held) (end_of run) w
      stands = longer_stands run (end_of run) held is.writer (record { following = in_order; placed = is.writer.run-is.placed })

      pub can_take : (run : Run) × (n : ℕ) × IsWriter past_of run n w × AreNext run n held
      can_take = (longer run held, end_of run, stands, next run held small)

      -- the writer took it
      pub takes : MayOpenAgain o popped → (new : Writer D A)
          → ((run : Run) (n : ℕ) → IsWriter past_of run n w → AreNext run n held → IsWriter past_of run (n + length held) new)
          → device_of new ≡ device_of w → synced_of new ≡ synced_of w → has_failed new ≡ has_failed w
          → IsFlusher past_of marks o (flush_value popped [] new v ps)
      takes opens new took device synced failed =
          let now : IsWriter past_of (longer run held) (end_of run + length held) new = took (longer run held) (end_of run) stands (next run held small) in
          let list : handed ++ held ≡ take (length popped - 0) popped = sym all ∙ sym (all_handed popped) in
          let fit : FitPlaces o (take (length popped - 0) popped) = subst (FitPlaces o) (sym (all_handed popped)) fits in
          let open_again : MayOpenAgain o (take (length popped - 0) popped) = subst (MayOpenAgain o) (sym (all_handed popped)) opens in
          let places : (halves_of new).geometry.entries ≡ o.places = ap (λ (g : GeometryValue). g.entries) now.geometry-is ∙ is.places in
          let writer : IsWriter past_of (over (halves_of new).geometry (take (length popped - 0) popped))
          (o.given.last + length (take (length popped - 0) popped)) new =
          with_run (halves_of w).geometry (halves_of new).geometry (handed ++ held) (take (length popped - 0) popped) (end_of run + length held)
          (o.given.last + length (take (length popped - 0) popped)) new
          (sym now.geometry-is) list (omega (arith, ap length list, length-append handed held)) now in
          record {
            pages = ap (λ (g : GeometryValue). g.pages) now.geometry-is ∙ is.pages;
            places = places;
            fits = fit;
            opens = open_again;
            writer = writer;
            horizon = subst (λ n. v.horizon ≤ n) (sym synced) is.horizon;
            failed = is.failed ∙ sym failed;
            kept = all_kept_on o (halves_of w).geometry (halves_of new).geometry handed held (take (length popped - 0) popped) (synced_of w)
                (synced_of new) (past_of (device_of w)) (past_of (device_of new)) (sym list) now.geometry-is (omega (arith, synced))
                (still_here w new (take (length popped - 0) popped) device synced
                (leaves_now new (take (length popped - 0) popped) places fit open_again writer)) ps is.kept;
            newest = is.newest;
            noted = is.noted;
          }

  -- ---- records that are popped

  -- these are the fields behind what was popped more
  pub value_is : {A : Type 0} (old : FlushValue D A) (more popped held : List RecordValue) (w : Writer D A) (v : FlusherCount) (ps : List Publication)
      → popped ≡ old.handed ++ (old.held ++ more) → held ≡ old.held ++ more → w ≡ old.writer → v ≡ old.published → ps ≡ old.publications
      → flush_value popped held w v ps ≡ record old { held = old.held ++ more }
  value_is old more popped held w v ps all is same told noted =
      λ i. record { handed = front i; held = is i; writer = same i; published = told i; publications = noted i }
    where
      front : take (length popped - length held) popped ≡ old.handed
      front = ap (λ l. take (length l - length held) l) all
          ∙ ap (λ (l : List RecordValue). take (length (old.handed ++ (old.held ++ more)) - length l) (old.handed ++ (old.held ++ more))) is
          ∙ front_is old.handed (old.held ++ more)

  pub all_popped : {A : Type 0} (old : FlushValue D A) (more popped held : List RecordValue) (w : Writer D A) (v : FlusherCount) (ps : List Publication)
      → popped ≡ old.handed ++ (old.held ++ more) → held ≡ old.held ++ more → w ≡ old.writer → v ≡ old.published → ps ≡ old.publications
      → popped ≡ popped_by (flush_value popped held w v ps)
  all_popped old more popped held w v ps all is same told noted =
      all ∙ sym (ap popped_by (value_is old more popped held w v ps all is same told noted))

  pub still_flusher : {A : Type 0} (old : FlushValue D A) (more popped held : List RecordValue) (w : Writer D A) (v : FlusherCount) (ps : List Publication)
      → popped ≡ old.handed ++ (old.held ++ more) → held ≡ old.held ++ more → w ≡ old.writer → v ≡ old.published → ps ≡ old.publications
      → IsFlusher past_of marks o old → IsFlusher past_of marks o (flush_value popped held w v ps)
  still_flusher old more popped held w v ps all is same told noted stands =
      subst (IsFlusher past_of marks o) (sym (value_is old more popped held w v ps all is same told noted))
      (record {
        pages = stands.pages;
        places = stands.places;
        fits = stands.fits;
        opens = stands.opens;
        writer = stands.writer;
        horizon = stands.horizon;
        failed = stands.failed;
        kept = stands.kept;
        newest = stands.newest;
        noted = stands.noted;
      })

  -- the fields hold what the type keeps
  pub kept_by_popping : {A : Type 0} (old : FlushValue D A) (more popped held : List RecordValue) (w : Writer D A) (v : FlusherCount) (ps : List Publication)
      (last : ℕ) → popped ≡ old.handed ++ (old.held ++ more) → held ≡ old.held ++ more → w ≡ old.writer → v ≡ old.published → ps ≡ old.publications
      → IsFlusher past_of marks o old → last ≡ last_handed o old
      → (popped ≡ popped_by (flush_value popped held w v ps)) × IsFlusher past_of marks o (flush_value popped held w v ps)
      × (last ≡ last_handed o (flush_value popped held w v ps))
  kept_by_popping old more popped held w v ps last all is same told noted stands at = (
    all_popped old more popped held w v ps all is same told noted,
    still_flusher old more popped held w v ps all is same told noted stands,
    at ∙ sym (ap (last_handed o) (value_is old more popped held w v ps all is same told noted)),
  )

-- ---- answers

module _ {D A : Type 0} (failures : D → ℕ) (old new : Writer D A) where
  same_synced : new ≡ old → synced_of old ≤ synced_of new
  same_synced is = omega (arith, ap (λ (w : Writer D A). synced_of w) is)

  pub flush_rises : (result : Result FlushReply Error) → IfOk result (λ reply. IsFlushReply reply old new) → OnErr result (synced_of new ≡ synced_of old)
      → synced_of old ≤ synced_of new
  flush_rises (Ok (Flushed n)) is kept = omega (arith, is.0, is.1)
  flush_rises (Ok Nothing) is kept = same_synced is.0
  flush_rises (Ok LogFull) is kept = same_synced is.0
  flush_rises (Err e) is kept = omega (arith, kept)

  pub flip_rises : (n : ℕ) (result : Result FlipReply Error) → IfOk result (λ reply. IsFlipReply n reply old new) → OnErr result (synced_of new ≡ synced_of old)
      → synced_of old ≤ synced_of new
  flip_rises m (Ok (Flipped n)) is kept = omega (arith, is.0, is.1)
  flip_rises m (Ok Behind) is kept = same_synced is.0
  flip_rises m (Err e) is kept = omega (arith, kept)

  pub flush_sound : {A : Type 0} (result : Result A Error) → OnOk result ((has_failed old ≡ false) × (has_failed new ≡ false))
      → IfErr result (λ e. IsNotFlushed failures e old new) → has_failed new ≡ false → has_failed old ≡ false
  flush_sound (Ok reply) sound err now = sound.0
  flush_sound (Err e) sound (inl none) now = none.1
  flush_sound (Err e) sound (inr device) now = absurd (true≢false (sym device.1 ∙ now))

  pub still_sound : {A : Type 0} (result : Result A Error) → OnOk result ((has_failed old ≡ false) × (has_failed new ≡ false))
      → IfErr result (λ e. HasFailed failures e old new) → has_failed new ≡ false → has_failed old ≡ false
  still_sound (Ok reply) sound err now = sound.0
  still_sound (Err e) sound device now = absurd (true≢false (sym device.1 ∙ now))

-- a call that writes nothing leaves what was left before
pub images_still : {D A : Type 0} (past_of : D → DevicePast) (w new : Writer D A) → device_of new ≡ device_of w → (run : Run) (n : ℕ)
    → IsWriter past_of run n w → LeavesOnly (past_of (device_of w)) (past_of (device_of new)) (LeftBy run (synced_of w) n)
images_still {D} past_of w new same run n is = subst (λ (d : D). LeavesOnly (past_of (device_of w)) (past_of d) (LeftBy run (synced_of w) n)) (sym same)
    (started (past_of (device_of w)) (LeftBy run (synced_of w) n) is.images)

-- ---- the fields, after records were handed in or given back

module _ {D : Type 0} (past_of : D → DevicePast) (marks : ℕ → ℕ → Type 0) (o : Opened) where
  -- the fields hold what the type keeps
  abbrev pub AreKept : {A : Type 0} (popped held : List RecordValue) → Writer D A → FlusherCount → List Publication → Type 0
  AreKept popped held w v ps = (popped ≡ popped_by (flush_value popped held w v ps)) × IsFlusher past_of marks o (flush_value popped held w v ps)

  module _ {A : Type 0} (popped held : List RecordValue) (w : Writer D A) (v : FlusherCount) (ps : List Publication)
      (kept : AreKept popped held w v ps) (follow : FollowOpening o popped)
      (fits : FitPlaces o popped) (longer_stands : (run : Run) (n : ℕ) (more : List RecordValue) → IsWriter past_of run n w → IsRun (longer run more)
      → IsWriter past_of (longer run more) n w)
      (next : (run : Run) (more : List RecordValue) → end_of run + length more ≤ LAST_NUMBER
      → AreNext (longer run more) (end_of run) more) (records : List RecordValue) (same : records ≡ held) where
    pub can_hand_in : (run : Run) × (n : ℕ) × IsWriter past_of run n w × AreNext run n records
    can_hand_in = subst (λ (l : List RecordValue). (run : Run) × (n : ℕ) × IsWriter past_of run n w
        × AreNext run n l) (sym same) (can_take past_of marks o popped held w v ps kept.0 kept.1 follow fits longer_stands next)

    pub kept_by_taking : MayOpenAgain o popped → (p h : List RecordValue) (new : Writer D A) → p ≡ popped → h ≡ []
        → ((run : Run) (n : ℕ) → IsWriter past_of run n w → AreNext run n records → IsWriter past_of run (n + length records) new)
        → device_of new ≡ device_of w → synced_of new ≡ synced_of w → has_failed new ≡ has_failed w → AreKept p h new v ps
    kept_by_taking opens p h new all none took device synced failed =
        let takes_held : (run : Run) (n : ℕ) → IsWriter past_of run n w → AreNext run n held → IsWriter past_of run (n + length held) new =
        subst (λ (l : List RecordValue). (run : Run) (n : ℕ) → IsWriter past_of run n w → AreNext run n l
        → IsWriter past_of run (n + length l) new) same took in
        let now : AreKept popped [] new v ps = (
          sym (append-nil _ ∙ all_handed popped),
          takes past_of marks o popped held w v ps kept.0 kept.1 follow fits longer_stands next opens new takes_held device synced failed,
        ) in
        subst (λ x. AreKept x h new v ps) (sym all) (subst (λ x. AreKept popped x new v ps) (sym none) now)

    pub kept_by_refusal : (p h : List RecordValue) (new : Writer D A) → p ≡ popped → h ≡ records
        → ((run : Run) (n : ℕ) → IsWriter past_of run n w → IsWriter past_of run n new) → device_of new ≡ device_of w → synced_of new ≡ synced_of w
        → has_failed new ≡ has_failed w → AreKept p h new v ps
    kept_by_refusal p h new all back keeps device synced failed =
        let f : FlushValue D A = flush_value popped held w v ps in
        let now : AreKept popped held new v ps = (
          kept.0,
          stands_without past_of marks o f new v kept.1 (keeps (run_of o f) (last_handed o f) kept.1.writer) device synced refl
              (kept.1.failed ∙ sym failed) refl,
        ) in
        subst (λ x. AreKept x h new v ps) (sym all) (subst (λ x. AreKept popped x new v ps) (sym (back ∙ same)) now)

  -- at first
  module _ {A : Type 0} (popped held : List RecordValue) (w : Writer D A) (before v : FlusherCount) (ps : List Publication) (mark : ℕ)
      (none : popped ≡ []) (none_held : held ≡ []) (told : v ≡ count_of before w mark) (one : ps ≡ publication_of past_of w ∷ []) where
    pub first_is : flush_value popped held w v ps
        ≡ record { handed = []; held = []; writer = w; published = count_of before w mark; publications = publication_of past_of w ∷ [] }
    first_is = λ i. flush_value (none i) (none_held i) w (told i) (one i)

    pub kept_at_first : (last : ℕ) → IsWriter past_of (opened_run (halves_of w) o.given.last (opening_cells o.given)) o.given.last w
        → (halves_of w).geometry.pages ≡ o.pages → (halves_of w).geometry.entries ≡ o.places → len o.given.entries ≤ o.places → before.notes ≡ []
        → IsMarkOf marks mark (past_of (device_of w)).moment → last ≡ synced_of w
        → (popped ≡ popped_by (flush_value popped held w v ps)) × IsFlusher past_of marks o (flush_value popped held w v ps)
        × (last ≡ last_handed o (flush_value popped held w v ps))
    kept_at_first last is pages places room unmarked marked same =
        subst (λ (f : FlushValue D A). (popped ≡ popped_by f) × IsFlusher past_of marks o f × (last ≡ last_handed o f)) (sym first_is)
        (none, begun past_of marks o w before mark is pages places room unmarked marked, omega (arith, same, is.opened, is.reached))

  -- as the popping begins
  pub begins_popping : {A : Type 0} (old : FlushValue D A) (popped held : List RecordValue) (w : Writer D A) (v : FlusherCount) (ps : List Publication)
      → flush_value popped held w v ps ≡ old → AreKept popped held w v ps
      → (w ≡ old.writer) × (v ≡ old.published) × (ps ≡ old.publications) × IsFlusher past_of marks o old
      × ((more : List RecordValue) × (popped ≡ old.handed ++ (old.held ++ more)) × (held ≡ old.held ++ more))
  begins_popping old popped held w v ps is kept = (
    ap (λ (f : FlushValue D _). f.writer) is,
    ap (λ (f : FlushValue D _). f.published) is,
    ap (λ (f : FlushValue D _). f.publications) is,
    subst (IsFlusher past_of marks o) is kept.1,
    ([], kept.0 ∙ ap popped_by is ∙ ap (λ l. old.handed ++ l) (sym (append-nil old.held)), ap (λ (f : FlushValue D _). f.held) is ∙ sym (append-nil old.held)),
  )

  -- ---- the number of the last record that the writer has got

  module _ {A : Type 0} (popped held : List RecordValue) (w : Writer D A) (v : FlusherCount) (ps : List Publication) (kept : AreKept popped held w v ps)
      (last : ℕ) (is : last ≡ last_handed o (flush_value popped held w v ps)) (records : List RecordValue) (same : records ≡ held) where
    pub last_then : (more : ℕ) (p h : List RecordValue) (new : Writer D A) (now : FlusherCount) → more ≡ length records → p ≡ popped → h ≡ []
        → last + more ≡ last_handed o (flush_value p h new now ps)
    last_then more p h new now size all none =
        let front : take (length p - length h) p ≡ popped = all_in popped p h all none in
        omega (arith, is, size, ap length same, ap length front, ap length kept.0, length-append (take (length popped - length held) popped) held)

  -- ---- as a look at the stop flag leaves them

  pub kept_by_look : {A : Type 0} (popped held : List RecordValue) (w : Writer D A) (v : FlusherCount) (ps : List Publication) → AreKept popped held w v ps
      → (now : FlusherCount) (set : Bool) → now ≡ record v { stopped = set } → AreKept popped held w now ps
  kept_by_look popped held w v ps kept now set is = (
    kept.0,
    stands_without past_of marks o (flush_value popped held w v ps) w now kept.1 kept.1.writer refl refl
        (ap (λ (c : FlusherCount). c.horizon) is) (ap (λ (c : FlusherCount). c.failed) is ∙ kept.1.failed) (ap (λ (c : FlusherCount). c.notes) is),
  )

  -- ---- as a call of the writer leaves them

  module _ {A : Type 0} (popped held : List RecordValue) (w : Writer D A) (v : FlusherCount) (ps : List Publication) (kept : AreKept popped held w v ps)
      (new : Writer D A) where
    pub kept_by_call : (now : FlusherCount) (qs : List Publication) → qs ≡ ps ++ publication_of past_of new ∷ []
        → IsWriter past_of (run_of o (flush_value popped held w v ps)) (last_handed o (flush_value popped held w v ps)) new
        → ((run : Run) (n : ℕ) → IsWriter past_of run n w → LeavesOnly (past_of (device_of w)) (past_of (device_of new)) (LeftBy run (synced_of w) n))
        → synced_of w ≤ synced_of new → ((mark : ℕ) × IsMarkOf marks mark (past_of (device_of new)).moment × (now ≡ count_of v new mark))
        → AreKept popped held new now qs
    kept_by_call now qs noted stands images rises told =
        let f : FlushValue D A = flush_value popped held w v ps in
        subst (λ (l : List Publication). AreKept popped held new now l) (sym noted) (
          kept.0,
          subst (λ (c : FlusherCount). IsFlusher past_of marks o (flush_value popped held new c (ps ++ publication_of past_of new ∷ []))) (sym told.2)
              (stands_by_call past_of marks o f new told.0 kept.1 stands rises told.1
              (weaker (past_of (device_of w)) (past_of (device_of new)) (LeftBy (run_of o f) (synced_of w) (last_handed o f)) (FlushLeaves o f)
              (is_left past_of marks o f kept.1) (images (run_of o f) (last_handed o f) kept.1.writer))),
        )

    -- it writes nothing
    pub kept_without : ((run : Run) (n : ℕ) → IsWriter past_of run n w → IsWriter past_of run n new) → device_of new ≡ device_of w
        → synced_of new ≡ synced_of w → has_failed new ≡ has_failed w → AreKept popped held new v ps
    kept_without keeps device synced failed =
        let f : FlushValue D A = flush_value popped held w v ps in (
          kept.0,
          stands_without past_of marks o f new v kept.1 (keeps (run_of o f) (last_handed o f) kept.1.writer) device synced refl
              (kept.1.failed ∙ sym failed) refl,
        )

    -- what is published may be raised to what the writer has synced
    pub may_publish : synced_of w ≤ synced_of new → v.horizon ≤ synced_of new
    may_publish rises = omega (arith, rises, kept.1.horizon)

    pub may_tell : (has_failed new ≡ false → has_failed w ≡ false) → has_failed new ≡ false → v.failed ≡ false
    may_tell sound now = kept.1.failed ∙ sound now

  -- ---- what a call tells

  pub images_of : {A : Type 0} (f : FlushValue D A) (new : Writer D A) → IsFlusher past_of marks o f → ((run : Run) (n : ℕ) → IsWriter past_of run n f.writer
      → LeavesOnly (past_of (device_of f.writer)) (past_of (device_of new)) (LeftBy run (synced_of f.writer) n))
      → LeavesOnly (past_of (device_of f.writer)) (past_of (device_of new)) (FlushLeaves o f)
  images_of f new stands images =
      weaker (past_of (device_of f.writer)) (past_of (device_of new)) (LeftBy (run_of o f) (synced_of f.writer) (last_handed o f)) (FlushLeaves o f)
      (is_left past_of marks o f stands) (images (run_of o f) (last_handed o f) stands.writer)

  pub chunk_of : {A : Type 0} (old f : FlushValue D A) → f ≡ old → (number : ℕ) {E : Type 0} (piece : Piece E) → IsChunk (run_of o old) old.writer number piece
      → IsChunk (run_of o f) f.writer number piece
  chunk_of old f is number {E} piece chunk = subst (λ (x : FlushValue D _). IsChunk (run_of o x) x.writer number piece) (sym is) chunk

  pub can_step : {A : Type 0} (old f : FlushValue D A) → f ≡ old → IsFlusher past_of marks o f → (number : ℕ) {E : Type 0} (piece : Piece E)
      → IsChunk (run_of o old) old.writer number piece
      → (run : Run) × (n : ℕ) × IsWriter past_of run n f.writer × IsChunk run f.writer number piece
  can_step old f is stands number piece chunk = (run_of o f, last_handed o f, stands.writer, chunk_of old f is number piece chunk)

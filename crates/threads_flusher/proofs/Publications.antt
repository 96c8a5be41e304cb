-- What was published is kept from call to call.
use Rattle.std.proofs.Common.{◌≡◌, ⊎_elim, ℕ, ◌+◌, ◌≤◌, List, [], ◌∷◌, ◌++◌, length, take, sym, ap, ◌∙◌, subst, arith, append-nil, length-append}
use Rattle.std.proofs.lemmas.Bool.{cases_lt}
use Rattle.std.proofs.lemmas.List.{take-append-le}
use Rattle.std.proofs.lemmas.List.Elements.{All-push, All-weaker}
use Rattle.std.specs.List.{All}
use Rattle.record_values.specs.GeometryValue.{GeometryValue}
use Rattle.records.specs.RecordValue.{RecordValue}
use Rattle.model.specs.Cells.{cells_after}
use Rattle.model.specs.Given.{given_after, opening_cells}
use Rattle.core_model.specs.Histories.{CanOpen, Opened}
use Rattle.sector_device.specs.Disk.{CrashState, IsCrashState}
use Rattle.sector_device.specs.DevicePast.{DevicePast, LeavesOnly}
use Rattle.sector_device.proofs.Moments.{started}
use Rattle.store_reader.specs.Contents.{Gives}
use Rattle.store_writer.specs.Contents.{StoreHas}
use Rattle.store_writer.specs.Parts.{device_of, halves_of, synced_of}
use Rattle.store_writer.specs.declared.writer.Writer.{Writer}
use Rattle.threads_flusher.specs.Part.{GivesBeginning, IsKeptSince, Publication, publication_of}

module _ (o : Opened) where
  -- what gives a beginning of some records gives one of more, with every record up to a lower floor
  pub beginning_of : (g : GeometryValue) (handed more now : List RecordValue) (floor low : ℕ) (image : CrashState) → now ≡ handed ++ more → low ≤ floor
      → GivesBeginning o g handed floor image → GivesBeginning o g now low image
  beginning_of g handed more now floor low image is below left =
      let first : take left.count now ≡ take left.count handed = ap (take left.count) is ∙ take-append-le left.count handed more left.most in
      record {
        count = left.count;
        most = omega (arith, left.most, ap length is, length-append handed more);
        least = omega (arith, below, left.least);
        has = subst (λ (rs : List RecordValue). StoreHas g image (o.given.last + left.count) (cells_after (opening_cells o.given) rs)) (sym first) left.has;
        gives = subst (λ (rs : List RecordValue). Gives image g (given_after o.given rs)) (sym first) left.gives;
        opens = subst (λ (rs : List RecordValue). CanOpen o → CanOpen (record o { given = given_after o.given rs })) (sym first) left.opens;
      }

  pub same_store : (g now : GeometryValue) (handed : List RecordValue) (floor : ℕ) (image : CrashState) → now ≡ g → GivesBeginning o g handed floor image
      → GivesBeginning o now handed floor image
  same_store g now handed floor image is left = subst (λ (x : GeometryValue). GivesBeginning o x handed floor image) (sym is) left

module _ (o : Opened) where
  -- a horizon that was published is not above what is synced, and is kept
  abbrev pub KeptBelow : GeometryValue → List RecordValue → ℕ → DevicePast → Publication → Type 0
  KeptBelow g handed floor now p = (p.horizon ≤ floor) × IsKeptSince (GivesBeginning o g handed) now p

  -- as it is published
  pub kept_now : {D A : Type 0} (past_of : D → DevicePast) (handed : List RecordValue) (w : Writer D A)
      → ((image : CrashState) → IsCrashState (past_of (device_of w)).disk image → GivesBeginning o (halves_of w).geometry handed (synced_of w) image)
      → KeptBelow (halves_of w).geometry handed (synced_of w) (past_of (device_of w)) (publication_of past_of w)
  kept_now past_of handed w here = (
    omega arith,
    record {
      later = omega arith;
      each = (started (past_of (device_of w)) (GivesBeginning o (halves_of w).geometry handed (synced_of w)) here).each;
    },
  )

  module _ (g same : GeometryValue) (handed more now : List RecordValue) (floor higher : ℕ) (old new : DevicePast) (is : now ≡ handed ++ more)
      (geometry : same ≡ g) (rises : floor ≤ higher) (run : LeavesOnly old new (GivesBeginning o same now floor)) where
    kept_on : (p : Publication) → KeptBelow g handed floor old p → KeptBelow same now higher new p
    kept_on p kept = (
      omega (arith, kept.0, rises),
      record {
        later = omega (arith, kept.1.later, run.later);
        each = λ t image from to crash. ⊎_elim
            (λ early. beginning_of o same handed more now p.horizon p.horizon image is (omega arith)
            (same_store o g same handed p.horizon image geometry
            (kept.1.each t image from (omega (arith, early)) (subst (λ d. IsCrashState d image) (run.kept t (omega (arith, early))) crash))))
            (λ late. beginning_of o same now [] now floor p.horizon image (sym (append-nil now)) kept.0 (run.each t image late to crash))
            (cases_lt t old.moment);
      },
    )

    -- what was kept goes on being kept, as calls are made and more is handed in
    pub all_kept_on : (publications : List Publication) → All (KeptBelow g handed floor old) publications
        → All (KeptBelow same now higher new) publications
    all_kept_on publications kept = All-weaker (KeptBelow g handed floor old) (KeptBelow same now higher new) kept_on publications kept

    -- and so is what is published then
    pub all_kept_with : (publications : List Publication) (last : Publication) → All (KeptBelow g handed floor old) publications
        → KeptBelow same now higher new last → All (KeptBelow same now higher new) (publications ++ last ∷ [])
    all_kept_with publications last kept here = All-push (KeptBelow same now higher new) publications last (all_kept_on publications kept) here

-- what is kept has another property too, that follows
pub since_weaker : (P Q : ℕ → CrashState → Type 0) (now : DevicePast) (p : Publication) → ((floor : ℕ) (image : CrashState) → P floor image → Q floor image)
    → IsKeptSince P now p → IsKeptSince Q now p
since_weaker P Q now p to kept = record {
  later = kept.later;
  each = λ t image from until crash. to p.horizon image (kept.each t image from until crash);
}

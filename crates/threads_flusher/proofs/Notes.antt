-- What is noted as a horizon is published.
use Rattle.std.proofs.Common.{◌≡◌, ◌≤◌, ℕ, Bool, true, false, Option, None, Some, List, [], ◌∷◌, ◌++◌, max, inl, inr, refl, sym, ap, ◌∙◌, subst, arith}
use Rattle.std.proofs.lemmas.List.Elements.{All-cons, All-head, All-tail, All-weaker, Contains-append_left, Contains-push}
use Rattle.std.specs.List.{All}
use Rattle.std.specs.Prelude.{IfSome, unwrap_or}
use Rattle.sector_device.specs.DevicePast.{DevicePast}
use Rattle.board.specs.Views.{FlusherCount, IsNoted}
use Rattle.board.specs.declared.knowledge.Note.{Note}
use Rattle.store_writer.specs.Parts.{device_of, has_failed, synced_of}
use Rattle.store_writer.specs.declared.writer.Writer.{Writer}
use Rattle.threads_flusher.specs.Part.{IsMarkOf, IsNotedOf, IsSafeSince, Publication, count_of, note_of, publication_of}

-- ---- what is told on the board

module _ {D A : Type 0} (before : FlusherCount) (w : Writer D A) (synced mark : ℕ) (is : synced ≡ synced_of w) (low : before.horizon ≤ synced_of w) where
  -- as the horizon is raised, with a mark
  abbrev raised : FlusherCount
  raised = record before {
    horizon = max before.horizon synced;
    notes = record { horizon = max before.horizon synced; mark = mark } ∷ before.notes;
  }

  top : max before.horizon synced ≡ synced_of w
  top = omega (arith, is, low)

  told_of : (failed : Bool) → failed ≡ has_failed w → record raised { failed = failed } ≡ count_of before w mark
  told_of failed same =
      ap (λ (n : ℕ). record before { horizon = n; failed = failed; notes = record { horizon = n; mark = mark } ∷ before.notes }) top
      ∙ ap (λ (b : Bool). record (count_of before w mark) { failed = b }) same

  -- the device failed, and that is told too
  pub told_failed : (mid now : FlusherCount) → mid ≡ raised → now ≡ record mid { failed = true } → has_failed w ≡ true → now ≡ count_of before w mark
  told_failed mid now published fails failed = fails ∙ (ap (λ (c : FlusherCount). record c { failed = true }) published ∙ told_of true (sym failed))

  -- it did not
  pub told_sound : (now : FlusherCount) → now ≡ raised → before.failed ≡ false → has_failed w ≡ false → now ≡ count_of before w mark
  told_sound now published was sound = published ∙ told_of before.failed (was ∙ sym sound)

-- and all else is as it was
module _ {D A : Type 0} (before now : FlusherCount) (w : Writer D A) (mark : ℕ) (told : now ≡ count_of before w mark) where
  pub same_board : now.board ≡ before.board
  same_board = ap (λ (c : FlusherCount). c.board) told

  pub told_over : (given : FlusherCount) → before ≡ given → now ≡ count_of given w mark
  told_over given same = told ∙ ap (λ (c : FlusherCount). count_of c w mark) same

-- ---- marks

module _ (marks : ℕ → ℕ → Type 0) where
  -- what a clock shows, if there is one
  pub mark_is : (moment mark : ℕ) (shown : Option ℕ) → IfSome shown (λ n. marks n moment) → mark ≡ unwrap_or shown 0 → IsMarkOf marks mark moment
  mark_is moment mark None shows is some = absurd (some is)
  mark_is moment mark (Some n) shows is some = subst (λ (k : ℕ). marks k moment) (sym is) shows

  -- what was noted stays so as more is published
  noted_more : (publications : List Publication) (last : Publication) (n : Note) → IsNotedOf marks publications n
      → IsNotedOf marks (publications ++ last ∷ []) n
  noted_more publications last n is = (is.0, Contains-append_left publications (last ∷ []) is.0 is.1, is.2, is.3)

  -- and what is noted then is of what is published then
  pub all_noted : {D A : Type 0} (past_of : D → DevicePast) (publications : List Publication) (notes : List Note) (w : Writer D A) (mark : ℕ)
      → All (IsNotedOf marks publications) notes → IsMarkOf marks mark (past_of (device_of w)).moment
      → All (IsNotedOf marks (publications ++ publication_of past_of w ∷ [])) (note_of w mark ∷ notes)
  all_noted past_of publications notes w mark noted marked =
      let last : Publication = publication_of past_of w in
      let after : List Publication = publications ++ last ∷ [] in
      All-cons (IsNotedOf marks after) (note_of w mark) notes (last, Contains-push publications last, refl, marked)
      (All-weaker (IsNotedOf marks publications) (IsNotedOf marks after) (noted_more publications last) notes noted)

  -- what a note reaches, a publication reaches
  pub safe_since : (publications : List Publication) (notes : List Note) (safe mark : ℕ) → All (IsNotedOf marks publications) notes → IsNoted notes safe mark
      → IsSafeSince marks publications safe mark
  safe_since publications [] safe mark noted is = inl is
  safe_since publications (n ∷ notes) safe mark noted (inl here) =
      let its : IsNotedOf marks publications n = All-head (IsNotedOf marks publications) n notes noted in
      inr (
        its.0,
        its.1,
        omega (arith, here.1, its.2),
        λ some. subst (λ (k : ℕ). marks k its.0.moment) here.0 (its.3 (λ none. some (sym here.0 ∙ none))),
      )
  safe_since publications (n ∷ notes) safe mark noted (inr later) =
      safe_since publications notes safe mark (All-tail (IsNotedOf marks publications) n notes noted) later

-- A journal whose last batch is empty needs no area.
use Rattle.std.proofs.Common.{◌≡◌, inl, inr, ⊎_elim, ℕ, ◌+◌, ◌%◌, ◌<◌, ◌==◌, nat_lt, if◌then◌else◌, List, [], ◌∷◌, ◌++◌, Option, Some, None, IfSome, refl}
use Rattle.std.proofs.Common.{sym, ◌∙◌, ap, subst, arith}
use Rattle.std.proofs.lemmas.Bool.{cases_eq, cond_both}
use Rattle.block_device.specs.Blocks.{CrashFile, SameOutside}
use Rattle.block_device.specs.BlocksPast.{BlocksPast, RunsWithin}
use Rattle.block_batch.specs.Batch.{Entry, Batch, replayed}
use Rattle.block_batch.specs.Replay.{in_order, pending}
use Rattle.block_batch.proofs.Replay.{both}
use Rattle.block_journal.specs.declared.shape.Shape.{Shape}
use Rattle.block_journal.specs.Layout.{found, found_in, kept_of, IsInside}
use Rattle.block_journal.specs.Journal.{MayWrite, NeedsNoArea}
use Rattle.block_journal.specs.Value.{JournalValue, IsReady, content_of, next_batch, settled_of}
use Rattle.block_journal.proofs.Committing.{settled_again}
use Rattle.block_journal.proofs.Crash.{same_area}

module _ (settled : CrashFile) where
  -- a replay of it changes nothing
  abbrev pub Harmless : Batch → Type 0
  Harmless b = replayed b.entries settled ≡ settled

  one_then : (x y : List Entry) → replayed x settled ≡ settled → replayed y settled ≡ settled → replayed (x ++ y) settled ≡ settled
  one_then x y first second = both x y settled ∙ ap (replayed y) first ∙ second

  in_any_order : (x y : Batch) → Harmless x → Harmless y → replayed (in_order x y) settled ≡ settled
  in_any_order x y first second =
      let Stays : List Entry → Type 0 = λ (l : List Entry). replayed l settled ≡ settled in
      cond_both (x.number + 1 == y.number) (x.entries ++ y.entries)
      (if y.number + 1 == x.number then y.entries ++ x.entries else if nat_lt x.number y.number then y.entries else x.entries) Stays
      (λ _. one_then x.entries y.entries first second)
      (λ _. cond_both (y.number + 1 == x.number) (y.entries ++ x.entries) (if nat_lt x.number y.number then y.entries else x.entries) Stays
      (λ _. one_then y.entries x.entries second first)
      (λ _. cond_both (nat_lt x.number y.number) y.entries x.entries Stays (λ _. second) (λ _. first)))

  pub harmless : (x y : Option Batch) → IfSome x Harmless → IfSome y Harmless → replayed (pending x y) settled ≡ settled
  harmless None None first second = refl
  harmless (Some x) None first second = first
  harmless None (Some y) first second = second
  harmless (Some x) (Some y) first second = in_any_order x y first second

-- The areas have the last batch and the next one, which is empty. Whatever becomes of them, the kept blocks are there.
module _ (g : Shape) (image new settled : CrashFile) (last next : Batch) (inside : IsInside g image) (follows : next.number ≡ last.number + 1)
    (here : found g image (last.number % 2) ≡ Some last) (there : found g new (next.number % 2) ≡ Some next)
    (agrees : SameOutside (MayWrite g (next.number % 2) last.entries) image new) (again : replayed last.entries settled ≡ settled)
    (empty : next.entries ≡ []) (kept : kept_of g new ≡ settled) where
  both_areas : (a : ℕ) → a < 2 → IfSome (found g new a) (Harmless settled)
  both_areas a low = elim (cases_eq a (next.number % 2)) [
    | inl is ↦ subst (λ (o : Option Batch). IfSome o (Harmless settled)) (sym (ap (found g new) is ∙ there)) (ap (λ (l : List Entry). replayed l settled) empty)
    | inr other ↦
        let is : a ≡ last.number % 2 = omega (arith, other, low, follows) in
        subst (λ (o : Option Batch). IfSome o (Harmless settled))
        (sym (ap (λ (area : CrashFile). found_in area a) (same_area g image new (next.number % 2) last.entries inside (omega arith) agrees a low other)
        ∙ ap (found g image) is ∙ here))
        again
  ]

  pub no_area : NeedsNoArea g new settled
  no_area c same areas =
      ap (replayed (pending (found g c 0) (found g c 1))) (same ∙ kept)
      ∙ harmless settled (found g c 0) (found g c 1) (left 0 (omega arith)) (left 1 (omega arith))
    where
      left : (a : ℕ) → a < 2 → IfSome (found g c a) (Harmless settled)
      left a low = ⊎_elim
          (λ gone. subst (λ (o : Option Batch). IfSome o (Harmless settled)) (sym gone) tt)
          (λ is. subst (λ (o : Option Batch). IfSome o (Harmless settled)) (sym is) (both_areas a low))
          (areas a low)

-- an empty batch is committed
module _ {B : Type 0} (past_of : B → BlocksPast) (old new : JournalValue B) (ready : IsReady past_of old)
    (within : RunsWithin (MayWrite old.shape ((old.last.number + 1) % 2) old.last.entries) (past_of old.below).file.content (past_of old.below)
    (past_of new.below))
    (is : new ≡ record old { below = new.below; last = next_batch old; next = []; offered = old.offered ++ next_batch old ∷ [] })
    (now : IsReady past_of new) (settles : settled_of past_of new ≡ content_of past_of old) (empty : old.next ≡ []) where
  abbrev pub after : CrashFile
  after = (past_of new.below).file.content

  its_last : new.last ≡ next_batch old
  its_last = ap (λ (v : JournalValue B). v.last) is

  its_shape : new.shape ≡ old.shape
  its_shape = ap (λ (v : JournalValue B). v.shape) is

  kept_settled : kept_of old.shape after ≡ settled_of past_of old
  kept_settled =
      let none : new.last.entries ≡ [] = ap (λ (b : Batch). b.entries) its_last ∙ empty in
      let same : settled_of past_of new ≡ kept_of old.shape after = λ i. replayed (none i) (kept_of (its_shape i) after) in
      sym same
      ∙ settles
      ∙ ap (λ (l : List Entry). replayed l (settled_of past_of old)) empty

  here_now : found old.shape after ((next_batch old).number % 2) ≡ Some (next_batch old)
  here_now =
      subst (λ (b : Batch). found old.shape after (b.number % 2) ≡ Some b) its_last
      (subst (λ (g : Shape). found g after (new.last.number % 2) ≡ Some new.last) its_shape now.stands.here)

  pub empty_commit : (kept_of old.shape after ≡ settled_of past_of old) × NeedsNoArea old.shape after (settled_of past_of old)
  empty_commit = (
    kept_settled,
    no_area old.shape (past_of old.below).file.content after (settled_of past_of old) old.last (next_batch old) ready.stands.inside refl
        ready.stands.here here_now within.now.content (settled_again past_of old ready) empty kept_settled,
  )

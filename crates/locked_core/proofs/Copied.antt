-- What whoever gets at the core finds, and the cells that are copied.
use Rattle.std.proofs.Common.{◌≡◌, ◌⊎◌, ℕ, ◌+◌, ◌-◌, Bool, true, false, List, [], ◌++◌, Option, length, inl, inr, refl, sym, ap, subst, arith}
use Rattle.std.proofs.Math.Logic.{∥∥₁_elim, ∥∥₁_map}
use Rattle.std.proofs.lemmas.List.{take_all}
use Rattle.std.specs.Coded.{Coded, Coded-set, code_by, coded_bool, coded_list, coded_option, coded_ℕ, coded⊎}
use Rattle.std.specs.FinMap.{code, get, get-empty}
use Rattle.std.specs.Ordering.{nat_cmp}
use Rattle.std.specs.Prelude.{Err, IfOk, Ok, Result, unwrap_or}
use Rattle.records.specs.ChangeValue.{ChangeValue}
use Rattle.records.specs.Codes.{coded_change}
use Rattle.record_values.specs.Codes.{coded_mark, coded_pair, coded_rid, coded_row}
use Rattle.record_values.specs.GeometryValue.{GeometryValue}
use Rattle.records.specs.RecordValue.{RecordValue}
use Rattle.record_values.specs.declared.error.Error.{Error}
use Rattle.record_values.specs.declared.pair.Pair.{Pair}
use Rattle.model.specs.Cells.{Cells, cells_after}
use Rattle.model.specs.Following.{AreFollowing, ArePlaced}
use Rattle.model.specs.Given.{opening_cells}
use Rattle.model.specs.Redo.{cells_of}
use Rattle.model.specs.declared.life.Life.{Life}
use Rattle.model.specs.declared.life.Life.TheVariants.{Absent, Building, Complete}
use Rattle.txn_table.specs.Sound.{IsSoundTable}
use Rattle.core_model.specs.Histories.{Opened, no_writes}
use Rattle.core_model.specs.Events.{Event, Reply}
use Rattle.core_model.specs.Served.{items_of}
use Rattle.store_image_model.specs.Run.{IsRun, Run, cells_at, end_of}
use Rattle.store_image_model.specs.declared.chunk.Chunk.{Chunk}
use Rattle.store_image_model.specs.declared.chunk.CopyPlace.{CopyPlace}
use Rattle.store_image_model.specs.declared.chunk.Piece.{Piece}
use Rattle.store_image_model.specs.declared.chunk.Piece.TheVariants.{Entries, Page, Start, Whole}
use Rattle.core_parts.specs.View.{CoreValue}
use Rattle.core_copies.proofs.Cited.{made_shown, one_cells, store_kept}
use Rattle.core_copies.specs.Pieces.{IsPieceOf, IsWholeOf}
use Rattle.core_copies.specs.Shown.{FitsStoreOf, IsCellsOf, IsOfGeometry}
use Rattle.threads_register.proofs.CoreLaws.{holds, numbered}
use Rattle.threads_register.specs.Calls.{HasReplied}
use Rattle.threads_register.specs.Holds.{HoldsHistory}
use Rattle.threads_sessions.specs.Values.{SessionValue}
use Rattle.locked_core.specs.Locked.{LockedValue}
use Rattle.locked_core.specs.Made.{IsAllOf, run_of}
use Rattle.locked_core.specs.Names.{IsShared}

-- ---- a life is one of three

abbrev life_in : Life → Bool ⊎ Option Pair
life_in Absent = inl false
life_in (Building highest) = inr highest
life_in Complete = inl true

abbrev life_out : Bool ⊎ Option Pair → Life
life_out (inl false) = Absent
life_out (inl true) = Complete
life_out (inr highest) = Building highest

abbrev life_back : (l : Life) → life_out (life_in l) ≡ l
life_back Absent = refl
life_back (Building highest) = refl
life_back Complete = refl

abbrev coded_life : Coded Life
coded_life = code_by (Bool ⊎ Option Pair) (coded⊎ coded_bool (coded_option coded_pair)) life_in life_out life_back

-- ---- each time

no_list : (g : GeometryValue) (o : Opened) (txn : ℕ) → ArePlaced g.pages 0 (unwrap_or (get (opening_cells o.given).pending txn) [])
no_list g o txn = subst (λ (l : Option (List ChangeValue)). ArePlaced g.pages 0 (unwrap_or l [])) (sym (get-empty nat_cmp txn)) tt

module _ (o : Opened) (core : CoreValue) (pushed : List RecordValue) (book : List SessionValue) (shared : ∥ IsShared o core pushed book ∥₁) where
  pub histories : ∥ ((calls : List (Event × Reply)) × HasReplied o calls pushed core × HoldsHistory o (items_of no_writes calls) core) ∥₁
  histories = ∥∥₁_map shared (λ (h : IsShared o core pushed book).
      (h.register.kept.calls, h.register.kept.replied, holds o h.opens h.register.kept.calls pushed core h.register.kept.replied))

  last_number : core.last ≡ o.given.last + length (pushed ++ core.outbox)
  last_number = ∥∥₁_elim shared (Coded-set coded_ℕ _ _) (λ (h : IsShared o core pushed book).
      numbered o h.opens h.register.kept.calls pushed core h.register.kept.replied)

  module _ (sound : IsSoundTable core.txns) where
    abbrev all : Cells
    all = cells_after (opening_cells o.given) (pushed ++ core.outbox)

    at : IsShared o core pushed book → IsCellsOf core all
    at h =
        let so : HasReplied o h.register.kept.calls pushed core = h.register.kept.replied in
        made_shown o (pushed ++ core.outbox) h.register.kept.calls core so.state so.standing so.served so.stands h.opens sound

    all_shown : IsCellsOf core all
    all_shown = record {
      rows = ∥∥₁_elim shared (Coded-set (code coded_rid coded_row) _ _) (λ h. (at h).rows);
      entries = ∥∥₁_elim shared (Coded-set (code coded_pair coded_mark) _ _) (λ h. (at h).entries);
      pending = λ t. ∥∥₁_elim shared (Coded-set (coded_option (coded_list coded_change)) _ _) (λ h. (at h).pending t);
      life = ∥∥₁_elim shared (Coded-set coded_life _ _) (λ h. (at h).life);
    }

  module _ (g : GeometryValue) where
    abbrev run : Run
    run = run_of g o (record { core = core; pushed = pushed; book = book })

    pub run_kept : g.pages ≡ o.pages → ∥ IsRun run ∥₁
    run_kept pages = ∥∥₁_map shared (λ (h : IsShared o core pushed book).
        let so : HasReplied o h.register.kept.calls pushed core = h.register.kept.replied in
        record {
          following = subst (λ n. AreFollowing n o.given.last (opening_cells o.given) (pushed ++ core.outbox)) (sym pages) so.served.log.in_order;
          placed = no_list g o;
        })

    pub end_is : core.last ≡ end_of run
    end_is = last_number

    cells_end : cells_at run core.last ≡ cells_after (opening_cells o.given) (pushed ++ core.outbox)
    cells_end =
        let number : core.last ≡ o.given.last + length (pushed ++ core.outbox) = last_number in
        ap (cells_after (opening_cells o.given)) (take_all (core.last - o.given.last) (pushed ++ core.outbox) (omega (arith, number)))

    pub cells_now : IsSoundTable core.txns → IsCellsOf core (cells_at run core.last)
    cells_now sound = subst (IsCellsOf core) (sym cells_end) (all_shown sound)

    pub store_now : g.pages ≡ o.pages → g.entries ≡ o.places → IsOfGeometry core g
    store_now pages entries = record {
      pages = ∥∥₁_elim shared (Coded-set coded_ℕ _ _) (λ h. (of h).pages);
      entries = ∥∥₁_elim shared (Coded-set coded_ℕ _ _) (λ h. (of h).entries);
    }
      where
        of : IsShared o core pushed book → IsOfGeometry core g
        of h =
            let so : HasReplied o h.register.kept.calls pushed core = h.register.kept.replied in
            store_kept o (pushed ++ core.outbox) h.register.kept.calls core so.state so.standing so.served so.stands g pages entries

-- ---- a copy

pub all_copied : {A : Type 0} (core : CoreValue) (cells : Cells) (piece : Piece A) → IsCellsOf core cells → IsWholeOf core piece → IsAllOf core cells piece
all_copied core cells (Whole copied) shown of =
    let same : cells_of copied ≡ cells = one_cells core (cells_of copied) cells of.0 shown in
    (same, subst (FitsStoreOf core) same of.1)
all_copied core cells (Start life lists) shown of = absurd of
all_copied core cells (Page page rows) shown of = absurd of
all_copied core cells (Entries entries) shown of = absurd of

module _ (o : Opened) (l : LockedValue) (shown : (g : GeometryValue) → IsCellsOf l.core (cells_at (run_of g o l) l.core.last)) where
  shown_at : (number : ℕ) → number ≡ l.core.last → (g : GeometryValue) → IsCellsOf l.core (cells_at (run_of g o l) number)
  shown_at number is g = subst (λ n. IsCellsOf l.core (cells_at (run_of g o l) n)) (sym is) (shown g)

  pub whole_now : {A : Type 0} (result : Result (Chunk A) Error) → IfOk result (λ chunk. chunk.number ≡ l.core.last)
      → IfOk result (λ chunk. IsWholeOf l.core chunk.piece)
      → IfOk result (λ chunk. (g : GeometryValue) → IsAllOf l.core (cells_at (run_of g o l) chunk.number) chunk.piece)
  whole_now (Ok chunk) number whole = λ g. all_copied l.core (cells_at (run_of g o l) chunk.number) chunk.piece (shown_at chunk.number number g) whole
  whole_now (Err e) number whole = tt

  pub piece_now : {A : Type 0} (place : CopyPlace) (result : Result (Chunk A) Error) → IfOk result (λ chunk. chunk.number ≡ l.core.last)
      → IfOk result (λ chunk. (cells : Cells) → IsCellsOf l.core cells → IsPieceOf l.core cells place chunk.piece)
      → IfOk result (λ chunk. (g : GeometryValue) → IsPieceOf l.core (cells_at (run_of g o l) chunk.number) place chunk.piece)
  piece_now place (Ok chunk) number piece = λ g. piece (cells_at (run_of g o l) chunk.number) (shown_at chunk.number number g)
  piece_now place (Err e) number piece = tt

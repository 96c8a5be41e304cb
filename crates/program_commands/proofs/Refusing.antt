-- A refused event leaves the rows, the entries of the index, and how far that is.
use Rattle.std.proofs.Common.{◌≡◌, ◌⊎◌, inl, inr, Bool, true, false, List, Option, None, Some, refl, sym, ap, subst, ℕ}
use Rattle.std.proofs.Math.Logic.{∥∥₁_elim}
use Rattle.std.specs.Coded.{Coded, Coded-set, code_by, coded_bool, coded_option, coded⊎}
use Rattle.std.specs.FinMap.{code}
use Rattle.std.specs.declared.alloc.Global.{Global}
use Rattle.record_values.specs.Codes.{coded_mark, coded_pair, coded_rid, coded_row}
use Rattle.record_values.specs.declared.error.Error.{Error}
use Rattle.record_values.specs.declared.pair.Pair.{Pair}
use Rattle.model.specs.declared.life.Life.{Life}
use Rattle.model.specs.declared.life.Life.TheVariants.{Absent, Building, Complete}
use Rattle.core_model.specs.Events as core
use Rattle.core_parts.specs.View as view
use Rattle.core_parts.specs.View.{CoreValue, IsSafe}
use Rattle.sector_device.specs.DevicePast.{DevicePast}
use Rattle.restart.specs.Lawful.{IsLawful, ServesInCore}
use Rattle.restart.specs.Parts.{core_of}
use Rattle.restart.specs.declared.event.Event.{Event}
use Rattle.restart.specs.declared.event.Event.TheVariants as event
use Rattle.restart.specs.declared.event.Reply.{Reply}
use Rattle.restart.specs.declared.event.Reply.TheVariants as reply
use Rattle.restart.specs.declared.parts.EngineParts.{EngineParts}
use Rattle.program_values.specs.declared.answer.Answer.TheVariants as answer
use Rattle.program_commands.specs.Answers.{answer_of}
use Rattle.program_commands.specs.Guarded.{ServesGuarded, store_of}
use Rattle.program_commands.specs.Refusing.{HoldsTheSame}
use Rattle.program_commands.specs.Requested.{Tells}
use Rattle.program_commands.specs.Store.{engine_of, horizon_of}
use Rattle.program_commands.specs.declared.guarded.GuardedStore.{GuardedStore}

-- ---- a life is one of three

abbrev life_in : Life → Bool ⊎ Option Pair
life_in Absent = inl false
life_in (Building highest) = inr highest
life_in Complete = inl true

abbrev life_out : Bool ⊎ Option Pair → Life
life_out (inl false) = Absent
life_out (inl true) = Complete
life_out (inr highest) = Building highest

abbrev life_back : (l : Life) → life_out (life_in l) ≡ l
life_back Absent = refl
life_back (Building highest) = refl
life_back Complete = refl

abbrev coded_life : Coded Life
coded_life = code_by (Bool ⊎ Option Pair) (coded⊎ coded_bool (coded_option coded_pair)) life_in life_out life_back

-- ---- an engine

-- what stays of a core
record CoreSame (old new : CoreValue) : Type 0 where
  rows : new.heap.rows ≡ old.heap.rows
  entries : new.index.entries ≡ old.index.entries
  life : new.life ≡ old.life

-- a refused call leaves the core
abbrev pub RefusedStays : Type 0
RefusedStays = (old new : CoreValue) (e : core.Event) (error : Error) → IsSafe old → view.Serves old e (core.Refused error) new → new ≡ old

core_is : (old new : CoreValue) → new ≡ old → CoreSame old new
core_is old new is = record {
  rows = ap (λ (v : CoreValue). v.heap.rows) is;
  entries = ap (λ (v : CoreValue). v.index.entries) is;
  life = ap (λ (v : CoreValue). v.life) is;
}

module _ {D : Type 0} (failures : D → ℕ) (stays : RefusedStays) (error : Error) (old new : EngineParts D Global) where
  in_core : (e : core.Event) → ServesInCore e (reply.Refused error) old new → CoreSame (core_of old) (core_of new)
  in_core e served =
      let same : core.Refused error ≡ served.reply = cc (served.reply_is) in
      let serves : view.Serves (core_of old) e (core.Refused error) (core_of new) =
      subst (λ (r : core.Reply). view.Serves (core_of old) e r (core_of new)) (sym same) served.serves in
      record {
        rows = ∥∥₁_elim old.core.safe (Coded-set (code coded_rid coded_row) _ _)
            (λ (safe : IsSafe (core_of old)). (core_is _ _ (stays _ _ e error safe serves)).rows);
        entries = ∥∥₁_elim old.core.safe (Coded-set (code coded_pair coded_mark) _ _)
            (λ (safe : IsSafe (core_of old)). (core_is _ _ (stays _ _ e error safe serves)).entries);
        life = ∥∥₁_elim old.core.safe (Coded-set coded_life _ _)
            (λ (safe : IsSafe (core_of old)). (core_is _ _ (stays _ _ e error safe serves)).life);
      }

  -- only records were handed on
  but_outbox : core_of new ≡ record (core_of old) { outbox = (core_of new).outbox } → CoreSame (core_of old) (core_of new)
  but_outbox is = record {
    rows = ap (λ (v : CoreValue). v.heap.rows) is;
    entries = ap (λ (v : CoreValue). v.index.entries) is;
    life = ap (λ (v : CoreValue). v.life) is;
  }

  in_engine : (e : Event) → IsLawful failures e (reply.Refused error) old new → CoreSame (core_of old) (core_of new)
  in_engine event.Begin is = in_core core.Begin is
  in_engine (event.Insert txn key body) is = in_core (core.Insert txn (record { key = key; body = body })) is
  in_engine (event.Delete txn rid) is = in_core (core.Delete txn rid) is
  in_engine (event.Update txn rid key body) is = in_core (core.Update txn rid (record { key = key; body = body })) is
  in_engine (event.Step txn) is = in_core (core.Step txn) is
  in_engine (event.Undo txn) is = in_core (core.Undo txn) is
  in_engine (event.End txn) is = in_core (core.End txn) is
  in_engine (event.Commit txn) is = in_core (core.Commit txn) is
  in_engine event.Create is = in_core core.Create is
  in_engine event.Drop is = in_core core.Drop is
  in_engine event.Build is = in_core core.Build is
  in_engine event.Clean is = in_core core.Clean is
  in_engine event.Flush (inl no_memory) = but_outbox no_memory.5.none.core
  in_engine event.Flush (inr failed) = but_outbox failed.4.core
  in_engine event.Copy (inl no_memory) = but_outbox no_memory.1.succeeds.keeps.core
  in_engine event.Copy (inr failed) = but_outbox failed.4.core
  in_engine (event.Get rid) is = in_core (core.Get rid) is
  in_engine (event.Find key) is = in_core (core.Find key) is
  in_engine event.Life is = in_core core.Life is

-- ---- a store

module _ {D : Type 0} (past_of : D → DevicePast) (failures : D → ℕ) (stays : RefusedStays) (e : Event) (error : Error) (old new : GuardedStore D) where
  pub refused_stays : ServesGuarded past_of failures e (reply.Refused error) old new → HoldsTheSame old new
  refused_stays (inl served) =
      let same = in_engine failures stays error (engine_of (store_of old)) (engine_of (store_of new)) e served.1.lawful in
      record { rows = same.rows; entries = same.entries; life = same.life }
  refused_stays (inr late) = subst (λ (s : GuardedStore D). HoldsTheSame old s) (sym late.2) (record { rows = refl; entries = refl; life = refl })

  -- what is answered as a refusal is one
  refusal_is : (horizon : ℕ) (r : Reply Global) → answer.Refused error ≡ answer_of horizon r → r ≡ reply.Refused error
  refusal_is horizon (reply.Txn txn) is = absurd cc
  refusal_is horizon (reply.Rid rid) is = absurd cc
  refusal_is horizon reply.Stepped is = absurd cc
  refusal_is horizon reply.Ended is = absurd cc
  refusal_is horizon reply.Undone is = absurd cc
  refusal_is horizon reply.Empty is = absurd cc
  refusal_is horizon (reply.Ticket ticket) is = absurd cc
  refusal_is horizon (reply.Built built) is = absurd cc
  refusal_is horizon (reply.Cleaned cleaned) is = absurd cc
  refusal_is horizon (reply.Horizon number) is = absurd cc
  refusal_is horizon reply.LogFull is = absurd cc
  refusal_is horizon reply.Copied is = absurd cc
  refusal_is horizon (reply.Flipped number) is = absurd cc
  refusal_is horizon reply.Again is = absurd cc
  refusal_is horizon (reply.Row (Some row)) is = absurd cc
  refusal_is horizon (reply.Row None) is = absurd cc
  refusal_is horizon (reply.Found rids) is = absurd cc
  refusal_is horizon (reply.Life life) is = absurd cc
  refusal_is horizon reply.Skipped is = absurd cc
  refusal_is horizon (reply.Refused other) is = cc

  pub told_stays : {W : Type 0} (contents : W → Option (List ℕ)) (before after : W)
      → Tells past_of failures contents e (answer.Refused error) old new before after → HoldsTheSame old new
  told_stays contents before after tells = refused_stays (subst (λ (r : Reply Global). ServesGuarded past_of failures e r old new)
      (refusal_is (horizon_of (store_of new)) tells.reply tells.told_is) tells.serves)
